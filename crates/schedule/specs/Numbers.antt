-- Big-endian numbers in a list of bytes. Assumes nothing.
--   two_at    the number in the two bytes at a place
--   four_at   the number in the four bytes at a place
use Rattle.std.specs.Prelude.{ℕ, ◌+◌, ◌*◌, List, slice_index}

abbrev pub two_at : List ℕ → ℕ → ℕ
two_at bs at = slice_index bs at * 256 + slice_index bs (at + 1)

abbrev pub four_at : List ℕ → ℕ → ℕ
four_at bs at = two_at bs at * 65536 + two_at bs (at + 2)
