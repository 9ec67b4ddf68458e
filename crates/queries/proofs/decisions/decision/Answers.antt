use Rattle.safety.proofs.Running.{promises}
use Rattle.queries.proofs.decisions.decision.Goals as goal

pub returns-in_err-find_order-clause-promises : goal.returns-in_err-find_order-clause-promises
returns-in_err-find_order-clause-promises g c = promises g.R.Rota g.G.Register g.met.R.Rota.inside _

pub returns-clause-promises : goal.returns-clause-promises
returns-clause-promises g c = promises g.R.Rota g.G.Register g.met.R.Rota.inside _
