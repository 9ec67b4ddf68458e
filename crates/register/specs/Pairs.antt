-- A set of pairs as a list in which none stands twice, and what signing does to it. Assumes nothing.
--   same_statement s t   the two statements are one
--   is_pair p s x        x is the pair of process p and statement s
--   has_pair xs p s      the list has that pair
--   distinct_pairs xs    no pair stands twice
--   Low xs               each process is from 0 to 30
--   signers_of xs s      how many processes are paired with the statement
--   Admits               whether a pair is to be put in, is held already, or why it is refused
--   Signs                what signing a pair answers, and what becomes of the set
use Rattle.std.specs.Prelude.{◌≡◌, ℕ, ◌+◌, ◌<◌, ◌≤◌, Bool, true, false, cond, not, ◌&&◌, ◌||◌, List, [], ◌∷◌, length, Ok, Err, Result, ◌==◌}
use Rattle.counting.specs.Counts.{any, count_to}
use Rattle.register.specs.declared.pair.Statement.{Statement}
use Rattle.register.specs.declared.pair.Pair.{Pair}
use Rattle.register.specs.declared.ledger.Unsigned.{Unsigned}
use Rattle.register.specs.declared.ledger.Unsigned.TheVariants.{ProcessAbove30, Full}

abbrev pub same_statement : Statement → Statement → Bool
same_statement s t = s.kind == t.kind && (s.number == t.number && s.value == t.value)

abbrev pub is_pair : ℕ → Statement → Pair → Bool
is_pair p s x = x.process == p && same_statement x.statement s

abbrev pub has_pair : List Pair → ℕ → Statement → Bool
has_pair xs p s = any (is_pair p s) xs

unfoldable pub distinct_pairs : List Pair → Bool
distinct_pairs [] = true
distinct_pairs (x ∷ xs) = not (has_pair xs x.process x.statement) && distinct_pairs xs

abbrev pub Low : List Pair → Type 0
Low xs = (p : ℕ) (s : Statement) → has_pair xs p s ≡ true → p ≤ 30

abbrev pub signers_of : List Pair → Statement → ℕ
signers_of xs s = count_to (λ p. has_pair xs p s) 31

-- what asking for a pair comes to, by whether it is held already and whether there is no room
abbrev pub Admits : ℕ → Bool → Bool → Result Bool Unsigned → Type 0
Admits p held full (Ok true) = (p ≤ 30) × (held ≡ false) × (full ≡ false)
Admits p held full (Ok false) = (p ≤ 30) × (held ≡ true)
Admits p held full (Err ProcessAbove30) = 30 < p
Admits p held full (Err Full) = (p ≤ 30) × (held ≡ false) × (full ≡ true)

-- the set with the pair in it, which is one more where the pair is new
pub record Added (before after : List Pair) (x : Pair) : Type 0 where
  pub members : (q : ℕ) (t : Statement) → has_pair after q t ≡ (has_pair before q t || is_pair q t x)
  pub count : length after ≡ length before + cond (has_pair before x.process x.statement) 0 1

abbrev pub Signs : ℕ → List Pair → Pair → List Pair → Result (Unit {0}) Unsigned → Type 0
Signs room before x after (Ok _) = (x.process ≤ 30) × (has_pair before x.process x.statement ≡ false → length before < room) × Added before after x
Signs room before x after (Err ProcessAbove30) = (30 < x.process) × (after ≡ before)
Signs room before x after (Err Full) = (x.process ≤ 30) × (has_pair before x.process x.statement ≡ false) × (length before ≡ room) × (after ≡ before)
