use Rattle.std.proofs.Common.{Bool, refl, ap, ◌∙◌}
use Rattle.protocol.specs.Moments.{record_at, no_record}
use Rattle.protocol.specs.Plans.{better}
use Rattle.protocol.proofs.Backing.{best_more, best_all}
use Rattle.protocol.proofs.counts.best_backing.Goals as goal

pub loop-i-init : goal.loop-i-init
loop-i-init c = refl

pub loop-i-preserved : goal.loop-i-preserved
loop-i-preserved c =
    best_more c.args.query.now c.args.index c.loop-i.i c.args.records.now no_record c.loop-i.best c.better-best.result _ c.loop-i-test.true
    (c.better-best.ensures ∙ ap (λ (b : Bool). better b (record_at c.args.records.now c.loop-i.i) c.loop-i.best) c.is_chosen.ensures)
    c.loop-i.invariant

pub returns : goal.returns
returns c = best_all c.args.query.now c.args.index c.loop-i.i c.args.records.now c.loop-i.best _ c.loop-i-test.false c.loop-i.invariant
