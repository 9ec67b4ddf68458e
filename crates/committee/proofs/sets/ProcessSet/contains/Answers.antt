-- A number has no bit from 32 on, since it fits 32 bits.
use Rattle.std.proofs.Common.{◌^◌, ◌<◌, sym, ◌∙◌, lt_of_lt_of_le, arith, pow_mono}
use Rattle.std.proofs.lemmas.Bool.{le-ltb}
use Rattle.counting.proofs.Bits.{bit_at-high}
use Rattle.committee.proofs.sets.ProcessSet.contains.Goals as goal

pub returns-else-process-lt32 : goal.returns-else-process-lt32
returns-else-process-lt32 c =
    let far = c.if-process-lt32.false in
    let fits : c.args.self.bits < 2 ^ 32 = omega arith in
    le-ltb _ 32 far ∙ sym (bit_at-high _ _ (lt_of_lt_of_le fits (pow_mono far)))
