use Rattle.std.proofs.Common.{◌<◌, ◌≤◌, get_or, refl, ap, ◌∙◌, arith}
use Rattle.std.proofs.lemmas.Bool.Decides.{nat_tests}
use Rattle.hexadecimal.specs.declared.TheConstants.{DIGITS}
use Rattle.hexadecimal.specs.Bytes.{digit_of}
use Rattle.hexadecimal.proofs.Digits.{found, missed}
use Rattle.hexadecimal.proofs.digit_of.Goals as goal

pub returns-then-value-lt16-clause-value : goal.returns-then-value-lt16-clause-value
returns-then-value-lt16-clause-value c =
    let small : get_or DIGITS c.from.result 0 < 16 = grind (arith, nat_tests) in
    found DIGITS c.from.result refl (omega arith) small ∙ ap digit_of c.from.ensures

pub returns-else-value-lt16-clause-value : goal.returns-else-value-lt16-clause-value
returns-else-value-lt16-clause-value c =
    let big : 16 ≤ get_or DIGITS c.from.result 0 = grind (arith, nat_tests) in
    missed DIGITS c.from.result refl (omega arith) big ∙ ap digit_of c.from.ensures
