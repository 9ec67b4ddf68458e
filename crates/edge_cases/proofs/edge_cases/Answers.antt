use Rattle.std.proofs.Common.{refl}
use lib.Count.{ones}
use Rattle.edge_cases.proofs.edge_cases.Goals as goal

pub returns-clause-hold : goal.returns-clause-hold
unfolding ones
returns-clause-hold c = refl
