use Rattle.std.proofs.Common.{ap, ◌∙◌}
use Rattle.register.specs.Pairs.{has_pair}
use Rattle.register.specs.Signing.{contains_has}
use Rattle.register.proofs.roll.RollRegister.has.Goals as goal

pub returns : goal.returns
returns c =
    contains_has c.as_slice.result.now c.args.pair c.contains.result c.contains.ensures.cases
    ∙ ap (λ xs. has_pair xs c.args.pair.process c.args.pair.statement) c.as_slice.ensures.value
