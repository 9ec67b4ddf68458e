-- Sets of processes. Assumes nothing.
--   contains s p      whether process p is in the set
--   with_member s p   the set with process p too
--   all n             the set of the processes below n
--   size s            how many processes are in the set
use Rattle.std.specs.Prelude.{ℕ, ◌-◌, ◌^◌, Bool, cond, bit_or, count_ones, nat_lt}
use Rattle.counting.specs.Counts.{bit_at}
use Rattle.committee.specs.declared.sets.ProcessSet.{ProcessSet}

abbrev pub of_bits : ℕ → ProcessSet
of_bits b = record { bits = b }

abbrev pub contains : ProcessSet → ℕ → Bool
contains s p = bit_at s.bits p

abbrev pub with_member : ProcessSet → ℕ → ProcessSet
with_member s p = of_bits (cond (nat_lt p 32) (bit_or s.bits (2 ^ p)) s.bits)

abbrev pub all : ℕ → ProcessSet
all n = of_bits (2 ^ n - 1)

abbrev pub size : ProcessSet → ℕ
size s = count_ones s.bits
