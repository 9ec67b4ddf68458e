use Rattle.std.proofs.Common.{rules}
use Rattle.safety.proofs.Fitting.{small_number}
use Rattle.plans.proofs.arrival.Arrival.at.Goals as goal

pub invariant_of-delivery : goal.invariant_of-delivery
invariant_of-delivery c =
    let scene = c.args.scene in
    let small = small_number scene.table.now scene.wire.now scene.wire_fits c.args.index c.if-index-scene.false in
    search rules
