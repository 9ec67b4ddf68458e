-- The bytes that a hexadecimal text writes. Assumes nothing.
--   blank         whether a byte of a text is a blank, a tab, a newline or a carriage return
--   in_comment    whether a byte belongs to a comment, told by the byte before it: '#' begins one, and a newline ends it
--   stripped_in   what is left of a text, which may begin in a comment, without comments and blanks
--   stripped      what is left of a whole text
--   digit_of      the value of a digit: 0 to 9, A to F or a to f
--   byte_of       the byte of two digits
--   followed      a byte, and the bytes behind it; none where either is missing
--   paired        the bytes of a row of digits, two to a byte; none where something else stands there or the number is odd
--   bytes_of      the bytes of a text
--   held_by       the bytes in an answer
use Rattle.std.specs.Prelude.{ℕ, ◌+◌, ◌-◌, ◌*◌, Bool, false, cond, not, ◌&&◌, ◌||◌, List, [], ◌∷◌, Some, None, vec_items, Option, Vec, ◌==◌, nat_le}
use Rattle.std.specs.Option.{option_map}
use Rattle.std.specs.declared.alloc.Global.{Global}

abbrev pub blank : ℕ → Bool
blank c = c == 32 || c == 9 || c == 10 || c == 13

abbrev pub in_comment : Bool → ℕ → Bool
in_comment before c = (before || c == 35) && not (c == 10)

abbrev pub stripped_in : Bool → List ℕ → List ℕ
stripped_in before [] = []
stripped_in before (c ∷ cs) =
    cond (in_comment before c || blank c) (stripped_in (in_comment before c) cs) (c ∷ stripped_in (in_comment before c) cs)

abbrev pub stripped : List ℕ → List ℕ
stripped text = stripped_in false text

abbrev pub digit_of : ℕ → Option ℕ
digit_of c =
    cond (nat_le 48 c && nat_le c 57) (Some (c - 48))
    (cond (nat_le 65 c && nat_le c 70) (Some (c - 55))
    (cond (nat_le 97 c && nat_le c 102) (Some (c - 87)) None))

abbrev pub byte_of : Option ℕ → Option ℕ → Option ℕ
byte_of None low = None
byte_of (Some high) None = None
byte_of (Some high) (Some low) = Some (high * 16 + low)

abbrev pub followed : Option ℕ → Option (List ℕ) → Option (List ℕ)
followed None rest = None
followed (Some byte) rest = option_map (λ bytes. byte ∷ bytes) rest

abbrev pub paired : List ℕ → Option (List ℕ)
paired [] = Some []
paired (alone ∷ []) = None
paired (high ∷ low ∷ rest) = followed (byte_of (digit_of high) (digit_of low)) (paired rest)

abbrev pub bytes_of : List ℕ → Option (List ℕ)
bytes_of text = paired (stripped text)

abbrev pub held_by : Option (Vec ℕ Global) → Option (List ℕ)
held_by answer = option_map vec_items answer
