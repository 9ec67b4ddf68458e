-- A field that a number stands for. Assumes nothing.
use Rattle.std.proofs.Common.{◌≡◌, Some, None, Ok, Option, rules}
use Rattle.wire.specs.Kinds.{in_field}

pub drafted : {A : Type 0} (o : Option A) (x : A) → Ok x ≡ in_field o → o ≡ Some x
drafted None x is = search rules
drafted (Some y) x is = search rules
