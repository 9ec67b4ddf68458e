use Rattle.std.proofs.Common.{false, vec_items, Some, sym, ap, ◌∙◌}
use Rattle.hexadecimal.specs.Bytes.{stripped_in}
use Rattle.hexadecimal.proofs.Reading.{read_on, second}
use Rattle.hexadecimal.proofs.bytes_of.Goals as goal

pub loop-byte-preserved-in_ok-push-in-Some-high : goal.loop-byte-preserved-in_ok-push-in-Some-high
loop-byte-preserved-in_ok-push-in-Some-high c =
    let bytes = vec_items c.loop-byte.bytes in (
      second bytes _ c.in-Some-high.front c.in-Some.byte.now c.in-Some-digit_of.digit _ c.in-Some.rest.now (sym c.digit_of.ensures.value ∙ c.in-Some-digit_of.is) c.byte_of.ensures c.in_ok-push-in-Some-high.ensures.items
          ∙ ap (λ l. read_on bytes (Some c.in-Some-high.front) (stripped_in false l)) (sym c.in-Some.ensures.cases.0)
          ∙ ap (λ high. read_on bytes high (stripped_in false c.loop-byte.left.now)) (sym c.in-Some-high.is)
          ∙ c.loop-byte.invariant.0,
      tt,
    )
