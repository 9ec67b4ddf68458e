use Rattle.std.proofs.Common.{◌≡◌, Some, None, vec_items, rules}
use Rattle.register.specs.RowPairs.{put_here, put_new, place, place_found, place_listed}
use Rattle.register.proofs.tally.mark.Goals as goal

pub returns-in-Some-clause-items : goal.returns-in-Some-clause-items
returns-in-Some-clause-items c =
    let rows = vec_items c.args.rows.now in
    let at : Some c.in-Some.i ≡ place rows c.args.pair.statement = search rules in
    put_here rows c.in-Some.i c.args.pair.process _ c.index.result.now _ c.args.pair.statement
    (place_found rows c.in-Some.i c.args.pair.statement at) c.index.ensures c.index_mut.ensures.value c.with.ensures

pub returns-in-None-clause-items : goal.returns-in-None-clause-items
returns-in-None-clause-items c =
    let rows = vec_items c.args.rows.now in
    let new : None ≡ place rows c.args.pair.statement = search rules in
    put_new rows _ c.args.pair.process _ c.args.pair.statement (place_listed rows c.args.pair.statement new) c.with-signers.ensures c.push_reserved.ensures.items
