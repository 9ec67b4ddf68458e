use Rattle.std.proofs.Common.{refl}
use lib.Count.{ones}
use Rattle.counting.specs.Counts.{any, sum_to}
use Rattle.safety.specs.Witnesses.{four}
use Rattle.edge_cases.proofs.moves.edge_cases_of_moves.Goals as goal

pub returns-clause-hold : goal.returns-clause-hold
unfolding ones any sum_to four
returns-clause-hold c = refl
