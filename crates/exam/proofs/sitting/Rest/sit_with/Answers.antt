use Rattle.std.proofs.Common.{◌∙◌}
use Rattle.std.proofs.lemmas.Result.{IfOk-weaker}
use Rattle.exam.proofs.Naming.{in_turn_lem}
use Rattle.exam.proofs.sitting.Rest.sit_with.Goals as goal

pub returns-in-None : goal.returns-in-None
returns-in-None g c =
    rw c.in-None.is
    (IfOk-weaker c.open_and_sit.result _ _
    (λ _ e. in_turn_lem g.G.Register.ROOM c.args.opening c.args.self _ _ _ _ (c.new-turns.ensures ∙ c.in-Ok.ensures.1) e)
    c.open_and_sit.ensures)
