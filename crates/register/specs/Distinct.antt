-- The processes that have a record which counts. Assumes nothing.
--   seen process counts xs p   whether some record of the list counts and is of process p
--   Gathered t s               the set s has just the processes from 0 to 30 that pass the test t, and so many are its members
use Rattle.std.specs.Prelude.{◌≡◌, ℕ, ◌^◌, ◌<◌, Bool, ◌&&◌, List, ◌==◌}
use Rattle.counting.specs.Counts.{any, count_to}
use Rattle.committee.specs.declared.sets.ProcessSet.{ProcessSet}
use Rattle.committee.specs.Sets.{contains, size}

abbrev pub seen : {X : Type 0} → (X → ℕ) → (X → Bool) → List X → ℕ → Bool
seen process counts xs p = any (λ x. (process x == p) && counts x) xs

pub record Gathered (t : ℕ → Bool) (s : ProcessSet) : Type 0 where
  pub low : s.bits < 2 ^ 31
  pub members : (p : ℕ) → p < 31 → contains s p ≡ t p
  pub count : size s ≡ count_to t 31
