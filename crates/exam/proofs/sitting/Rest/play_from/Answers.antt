use Rattle.std.proofs.Common.{sym, ◌∙◌}
use Rattle.std.specs.Option.{option_map}
use Rattle.std.proofs.lemmas.Result.{IfOk-weaker}
use Rattle.exam.proofs.Naming.{registered}
use Rattle.exam.proofs.sitting.Rest.play_from.Goals as goal

pub returns-in_ok-tally-in-Tally : goal.returns-in_ok-tally-in-Tally
returns-in_ok-tally-in-Tally c =
    IfOk-weaker c.sit_with.result _ _
    (λ _ e. registered (option_map (λ x. x.now) c.args.opening.rota) c.args.opening c.args.self _ _ _ _ c.try_from.ensures (sym c.in-Tally.is ∙ c.unwrap_or.ensures) e)
    c.sit_with.ensures

pub returns-in_ok-roll-in-Roll : goal.returns-in_ok-roll-in-Roll
returns-in_ok-roll-in-Roll c =
    IfOk-weaker c.sit_with-in-Roll.result _ _
    (λ _ e. registered (option_map (λ x. x.now) c.args.opening.rota) c.args.opening c.args.self _ _ _ _ c.try_from.ensures (sym c.in-Roll.is ∙ c.unwrap_or.ensures) e)
    c.sit_with-in-Roll.ensures
