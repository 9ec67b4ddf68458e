use Rattle.std.proofs.Common.{◌≡◌, ◌<◌, false, length, vec_items}
use Rattle.std.specs.Prelude.{IfSome}
use Rattle.hexadecimal.specs.Bytes.{stripped_in, bytes_of}
use Rattle.hexadecimal.proofs.Reading.{read_on}
use Rattle.hexadecimal.proofs.bytes_of.Given as goal

-- the bytes so far, and those of the digit that waits and of what is left of the text
abbrev pub invariant-loop-byte : goal.invariant-loop-byte
invariant-loop-byte l =
    (read_on (vec_items l.bytes) l.high (stripped_in false l.left) ≡ bytes_of l.text) × IfSome l.high (λ digit. digit < 16)

abbrev pub decreases-loop-byte : goal.decreases-loop-byte
decreases-loop-byte l = length l.left
