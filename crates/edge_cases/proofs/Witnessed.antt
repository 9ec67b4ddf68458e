-- The two sittings, each with the number that is asked for. Assumes nothing.
use Rattle.std.proofs.Common.{◌≡◌}
use Rattle.protocol.specs.Plans.{seat}
use Rattle.safety.specs.Witnesses.{SomeDecide, SomeAdvance}
use Rattle.safety.proofs.Witnessing.{some_decide, decide_seven, some_advance}

pub decided : (s : SomeDecide) × (s.value ≡ 7)
decided = (some_decide, decide_seven)

pub reached : (s : SomeAdvance) × ((seat s.end.board.table s.one).synchronizer.epoch ≡ 2)
reached = (some_advance, some_advance.epoch)
