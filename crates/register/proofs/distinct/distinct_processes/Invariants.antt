use Rattle.std.proofs.Common.{take}
use Rattle.register.proofs.Gathering.{Stands}
use Rattle.register.proofs.distinct.distinct_processes.Given as goal

abbrev pub invariant-loop-x : goal.invariant-loop-x
invariant-loop-x g l = Stands g.T.Attests.process (λ x. g.T.Attests.counts x l.query) l.found (take l.x-index l.items)
