use Rattle.std.proofs.Common.{rules}
use Rattle.opening.proofs.Opened.{opened_begins}
use Rattle.opening.proofs.open.Goals as goal

pub returns-clause-begins : goal.returns-clause-begins
returns-clause-begins g c = opened_begins g.R.Rota g.G.Register g.met.R.Rota.inside c.args.f c.args.faulty c.args.rota c.args.register.now _ (search rules)
