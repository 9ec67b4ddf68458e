use Rattle.std.proofs.Common.{◌≡◌, drop}
use Rattle.protocol.specs.Processes.{mark}
use Rattle.protocol.specs.Plans.{best_from}
use Rattle.protocol.proofs.counts.best_backing.Given as goal

abbrev pub invariant-loop-i : goal.invariant-loop-i
invariant-loop-i l = best_from l.query l.index l.i (drop l.i l.records) l.best ≡ best_from l.query l.index 0 l.records (mark 0 0)
