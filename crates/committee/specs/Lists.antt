-- What a list of leaders must be. Assumes nothing.
--   AllBelow xs n   each entry is below n
--   Listed xs n     1 to 31 entries, each below n
use Rattle.std.specs.Prelude.{ℕ, ◌<◌, ◌≤◌, List, length, slice_index}

abbrev pub AllBelow : List ℕ → ℕ → Type 0
AllBelow xs n = (k : ℕ) → k < length xs → slice_index xs k < n

abbrev pub Listed : List ℕ → ℕ → Type 0
Listed xs n = (1 ≤ length xs) × (length xs ≤ 31) × AllBelow xs n
