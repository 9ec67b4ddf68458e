use Rattle.std.proofs.Common.{rules}
use Rattle.plans.proofs.own_moves.plan_propose.Goals as goal

pub returns-in_err-find_room : goal.returns-in_err-find_room
returns-in_err-find_room g c =
    let s = c.in_ok-scene.ensures.0 in
    let room = rw (s.table, s.wire) at c.in_err-find_room.ensures in
    search rules
