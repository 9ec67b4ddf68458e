-- Which numbers make a committee. Assumes nothing.
--   size_for f           how many processes a committee for f faults has
--   is_committee f set   f is from 1 to 10, and at most f processes, all of them members, are in the faulty set
use Rattle.std.specs.Prelude.{ℕ, ◌+◌, ◌*◌, ◌^◌, Bool, ◌&&◌, count_ones, nat_le, nat_lt}

abbrev pub size_for : ℕ → ℕ
size_for f = 3 * f + 1

abbrev pub is_committee : ℕ → ℕ → Bool
is_committee f faulty = (nat_le 1 f && nat_le f 10) && (nat_lt faulty (2 ^ size_for f) && nat_le (count_ones faulty) f)
