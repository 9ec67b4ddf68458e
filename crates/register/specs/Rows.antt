-- Rows of signers, and the set of pairs that they stand for. Assumes nothing.
--   row_pairs n r      the pairs of the processes below n that the row has
--   pairs_of rs        the pairs of all rows
--   listed rs s        some row has the statement
--   sound rs           each statement has one row, and each signer is from 0 to 30
--   Found rs i s       row i is the first that has the statement
--   row_signers rs s   the signers of the statement, none where it has no row
--   add_to rs p s      the rows with process p among the signers of the statement
use Rattle.std.specs.Prelude.{◌≡◌, ℕ, zero, suc, ◌^◌, ◌<◌, Bool, true, false, cond, not, ◌&&◌, ◌||◌, List, [], ◌∷◌, ◌++◌, length, nat_lt, slice_index_or}
use Rattle.committee.specs.declared.sets.ProcessSet.{ProcessSet}
use Rattle.committee.specs.Sets.{contains, with_member, of_bits}
use Rattle.register.specs.declared.pair.Statement.{Statement}
use Rattle.register.specs.declared.pair.Pair.{Pair}
use Rattle.register.specs.declared.row.Row.{Row}
use Rattle.register.specs.Pairs.{same_statement}

abbrev pub pair_of : ℕ → Statement → Pair
pair_of p s = record { process = p; statement = s }

abbrev pub row_of : Statement → ProcessSet → Row
row_of s signers = record { statement = s; signers = signers }

abbrev pub no_row : Row
no_row = row_of (record { kind = 0; number = 0; value = 0 }) (of_bits 0)

unfoldable pub row_pairs : ℕ → Row → List Pair
row_pairs zero r = []
row_pairs (suc n) r = cond (contains r.signers n) (pair_of n r.statement ∷ row_pairs n r) (row_pairs n r)

-- process 30 is the highest
abbrev pub pairs_of : List Row → List Pair
pairs_of [] = []
pairs_of (r ∷ rs) = row_pairs 31 r ++ pairs_of rs

abbrev pub listed : List Row → Statement → Bool
listed [] s = false
listed (r ∷ rs) s = same_statement r.statement s || listed rs s

abbrev pub sound : List Row → Bool
sound [] = true
sound (r ∷ rs) = nat_lt r.signers.bits (2 ^ 31) && (not (listed rs r.statement) && sound rs)

abbrev pub Found : List Row → ℕ → Statement → Type 0
Found rs i s =
    (i < length rs) × (same_statement (slice_index_or rs i no_row).statement s ≡ true)
    × ((k : ℕ) → k < i → same_statement (slice_index_or rs k no_row).statement s ≡ false)

abbrev pub row_signers : List Row → Statement → ProcessSet
row_signers [] s = of_bits 0
row_signers (r ∷ rs) s = cond (same_statement r.statement s) r.signers (row_signers rs s)

abbrev pub add_to : List Row → ℕ → Statement → List Row
add_to [] p s = row_of s (with_member (of_bits 0) p) ∷ []
add_to (r ∷ rs) p s = cond (same_statement r.statement s) (row_of r.statement (with_member r.signers p) ∷ rs) (r ∷ add_to rs p s)
