-- What the table takes of a line. Assumes nothing.
--   plain            whether a byte is a capital digit or a blank
--   before_comment   what stands before the first '#'
--   bytes_of         the bytes that a line writes; none where something else stands before its comment
use Rattle.std.specs.Prelude.{ℕ, Bool, cond, List, None, Option, not, ◌&&◌, ◌||◌, ◌==◌, nat_le, take_while}
use Rattle.std.specs.List.{list_all}
use Rattle.hexadecimal.specs.Bytes as hexadecimal

abbrev pub plain : ℕ → Bool
plain c = nat_le 48 c && nat_le c 57 || nat_le 65 c && nat_le c 70 || c == 32

abbrev pub before_comment : List ℕ → List ℕ
before_comment line = take_while (λ c. not (c == 35)) line

abbrev pub bytes_of : List ℕ → Option (List ℕ)
bytes_of line = cond (list_all plain (before_comment line)) (hexadecimal.bytes_of (before_comment line)) None
