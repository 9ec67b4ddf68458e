-- One turn of the loop that reads a text. Assumes nothing.
use Rattle.std.proofs.Common.{◌≡◌, ℕ, false, ◌||◌, List, [], ◌∷◌, ◌++◌, Some, None, Option, sym, refl, ap, ◌∙◌, append_assoc, arith}
use Rattle.std.proofs.lemmas.Bool.{cond-false, or_from}
use Rattle.std.proofs.lemmas.Bool.Decides.{nat_tests}
use Rattle.std.specs.Option.{option_map}
use Rattle.hexadecimal.specs.Bytes.{blank, in_comment, stripped_in, digit_of, byte_of, followed, paired}

-- the bytes of the digits that are left, where the first digit of a byte may wait for its second
abbrev pub joined : Option ℕ → List ℕ → Option (List ℕ)
joined None digits = paired digits
joined (Some high) [] = None
joined (Some high) (low ∷ digits) = followed (byte_of (Some high) (digit_of low)) (paired digits)

-- the same behind the bytes so far
abbrev pub read_on : List ℕ → Option ℕ → List ℕ → Option (List ℕ)
read_on bytes high digits = option_map (λ more. bytes ++ more) (joined high digits)

-- a digit begins no comment and is no blank
plain : (c d : ℕ) → digit_of c ≡ Some d → (in_comment false c ≡ false) × (blank c ≡ false)
plain c d e = (grind (arith, nat_tests), grind (arith, nat_tests))

stays : (c : ℕ) (cs : List ℕ) → in_comment false c ≡ false → blank c ≡ false → stripped_in false (c ∷ cs) ≡ c ∷ stripped_in false cs
stays c cs out no_blank =
    cond-false (in_comment false c || blank c) _ _ (or_from (in_comment false c) (blank c) out no_blank) ∙ ap (λ b. c ∷ stripped_in b cs) out

-- a digit of a known value is read
read_digit : (c d : ℕ) (cs : List ℕ) → digit_of c ≡ Some d → stripped_in false (c ∷ cs) ≡ c ∷ stripped_in false cs
read_digit c d cs e = let p = plain c d e in stays c cs p.0 p.1

-- bytes behind bytes
behind : (bytes : List ℕ) (byte : ℕ) (more : Option (List ℕ)) → option_map (λ rest. (bytes ++ byte ∷ []) ++ rest) more ≡ option_map (λ rest. bytes ++ rest) (followed (Some byte) more)
behind bytes byte None = refl
behind bytes byte (Some rest) = ap Some (append_assoc bytes (byte ∷ []) rest)

pub second : (bytes after : List ℕ) (high c d byte : ℕ) (cs : List ℕ) → digit_of c ≡ Some d → byte_of (Some high) (Some d) ≡ Some byte → after ≡ bytes ++ byte ∷ [] → read_on after None (stripped_in false cs) ≡ read_on bytes (Some high) (stripped_in false (c ∷ cs))
second bytes after high c d byte cs e made more =
    ap (λ l. read_on l None (stripped_in false cs)) more
    ∙ behind bytes byte (paired (stripped_in false cs))
    ∙ ap (λ o. option_map (λ m. bytes ++ m) (followed o (paired (stripped_in false cs)))) (sym made)
    ∙ ap (λ o. option_map (λ m. bytes ++ m) (followed (byte_of (Some high) o) (paired (stripped_in false cs)))) (sym e)
    ∙ ap (read_on bytes (Some high)) (sym (read_digit c d cs e))
