use Rattle.std.proofs.lemmas.Result.{IfOk-weaker}
use Rattle.exam.proofs.Opening.{sat-down}
use Rattle.exam.proofs.sitting.Rest.open_and_sit.Goals as goal

pub returns-in-Ok : goal.returns-in-Ok
returns-in-Ok g c =
    IfOk-weaker c.sit.result _ _
    (λ _ e. sat-down g.R.Rota g.G.Register c.args.opening c.args.rota c.args.register.now c.requires c.args.self _ _ c.in-Ok.board c.in-Ok.ensures e)
    c.sit.ensures
