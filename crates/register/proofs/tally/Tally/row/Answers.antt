use Rattle.std.proofs.Common.{◌≡◌, Some, None, vec_items, sym, ap, ◌∙◌, rules}
use Rattle.std.proofs.lemmas.List.{get_or_read}
use Rattle.register.specs.declared.row.Row.{Row}
use Rattle.register.specs.Rows.{no_row}
use Rattle.register.specs.RowPairs.{place, place_found, place_listed, found_signers, unlisted_signers}
use Rattle.register.proofs.RowSigning.{gathered_row}
use Rattle.register.proofs.tally.Tally.row.Goals as goal

pub returns-in-Some : goal.returns-in-Some
returns-in-Some c =
    let rows = vec_items c.args.self.now.rows in
    let at : Some c.in-Some.i ≡ place rows c.args.statement = search rules in
    let found = place_found rows c.in-Some.i c.args.statement at in
    gathered_row rows c.args.statement _ c.args.self.now.fine
    (ap (λ (x : Row). x.signers) (get_or_read rows c.in-Some.i c.index.result.now found.0 c.index.ensures no_row) ∙ found_signers rows c.in-Some.i c.args.statement found)

pub returns-in-None : goal.returns-in-None
returns-in-None c =
    let rows = vec_items c.args.self.now.rows in
    let new : None ≡ place rows c.args.statement = search rules in
    gathered_row rows c.args.statement _ c.args.self.now.fine (sym (unlisted_signers rows c.args.statement (place_listed rows c.args.statement new)))
