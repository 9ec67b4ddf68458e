-- The pairs that rows of signers stand for. Assumes nothing.
use Rattle.std.specs.Prelude.{◌≡◌, ℕ, zero, suc, ◌+◌, ◌^◌, ◌<◌, ◌≤◌, Bool, true, false, cond, not, ◌&&◌, ◌||◌, List, [], ◌∷◌, ◌++◌, length, Some, None, Option, get_or, set, ◌==◌, nat_lt, slice_index_or, slice_set, refl}
use Rattle.std.proofs.Common.{sym, ap, ap₂, ◌∙◌, ⊎_elim, arith}
use Rattle.std.specs.List.{position, position_or_len}
use Rattle.std.proofs.lemmas.Grind.{common_steps}
use Rattle.std.proofs.lemmas.List.{get_or_read}
use Rattle.std.proofs.lemmas.List.Quantifiers.{position-Some}
use Rattle.std.proofs.lemmas.Bool.{or_parts, or_from, or_cases, or_left, or_right, and_parts, and_from, and_left, and_right, ltb-true, le-ltb, not-true, not_from_false, both_ways, cases_Bool, cond-true, cond-false}
use Rattle.std.proofs.lemmas.Bool.Decides.{nat_tests}
use Rattle.counting.specs.Counts.{sum_to, count_to, any}
use Rattle.counting.proofs.Any.{any_append}
use Rattle.committee.specs.declared.sets.ProcessSet.{ProcessSet}
use Rattle.committee.specs.Sets.{contains, with_member, of_bits}
use Rattle.register.specs.declared.pair.Statement.{Statement}
use Rattle.register.specs.declared.pair.Pair.{Pair}
use Rattle.register.specs.declared.row.Row.{Row}
use Rattle.register.specs.Pairs.{same_statement, is_pair, has_pair, distinct_pairs, Low}
use Rattle.register.specs.Rows.{pair_of, row_pairs, pairs_of, listed, sound, no_row, Found, row_signers, row_of, add_to}
use Rattle.register.specs.Signing.{is_self, same_is}

-- whether a row, and whether some row, has the pair
abbrev pub marks : Row → ℕ → Statement → Bool
marks r p s = nat_lt p 31 && (contains r.signers p && same_statement r.statement s)

abbrev pub rows_have : List Row → ℕ → Statement → Bool
rows_have [] p s = false
rows_have (r ∷ rs) p s = marks r p s || rows_have rs p s

has_cond : (b : Bool) (x : Pair) (xs : List Pair) (p : ℕ) (s : Statement) → has_pair (cond b (x ∷ xs) xs) p s ≡ ((b && is_pair p s x) || has_pair xs p s)
unfolding any
has_cond true x xs p s = refl
has_cond false x xs p s = refl

one_more : (f : ℕ → Bool) (S : Bool) (n p : ℕ) → ((f n && (n == p && S)) || (nat_lt p n && (f p && S))) ≡ (nat_lt p (suc n) && (f p && S))
one_more f S n p = grind (arith, nat_tests)

pub has_row : (n : ℕ) (r : Row) (p : ℕ) (s : Statement) → has_pair (row_pairs n r) p s ≡ (nat_lt p n && (contains r.signers p && same_statement r.statement s))
unfolding row_pairs any
has_row zero r p s = sym (and_left (nat_lt p 0) _ (le-ltb p 0 (omega arith)))
has_row (suc n) r p s =
    has_cond (contains r.signers n) (pair_of n r.statement) (row_pairs n r) p s
    ∙ ap (λ (b : Bool). (contains r.signers n && (n == p && same_statement r.statement s)) || b) (has_row n r p s)
    ∙ one_more (contains r.signers) (same_statement r.statement s) n p

pub has_pairs : (rs : List Row) (p : ℕ) (s : Statement) → has_pair (pairs_of rs) p s ≡ rows_have rs p s
unfolding any
has_pairs [] p s = refl
has_pairs (r ∷ rs) p s = any_append (is_pair p s) (row_pairs 31 r) (pairs_of rs) ∙ ap₂ (λ (a b : Bool). a || b) (has_row 31 r p s) (has_pairs rs p s)

length_cond : (b : Bool) (x : Pair) (xs : List Pair) → length (cond b (x ∷ xs) xs) ≡ cond b 1 0 + length xs
length_cond true x xs = omega arith
length_cond false x xs = omega arith

pub length_row : (n : ℕ) (r : Row) → length (row_pairs n r) ≡ count_to (contains r.signers) n
unfolding row_pairs sum_to
length_row zero r = refl
length_row (suc n) r = length_cond (contains r.signers n) _ (row_pairs n r) ∙ ap (λ (k : ℕ). cond (contains r.signers n) 1 0 + k) (length_row n r)

-- every pair of a list is out of the other
distinct_append : (xs ys : List Pair) → distinct_pairs xs ≡ true → distinct_pairs ys ≡ true
    → ((p : ℕ) (s : Statement) → has_pair xs p s ≡ true → has_pair ys p s ≡ false) → distinct_pairs (xs ++ ys) ≡ true
unfolding distinct_pairs any
distinct_append [] ys h k out = k
distinct_append (x ∷ xs) ys h k out =
    let old = and_parts (not (has_pair xs x.process x.statement)) (distinct_pairs xs) h in
    and_from _ _
    (not_from_false _
    (any_append (is_pair x.process x.statement) xs ys
    ∙ or_from _ _ (not-true _ old.0) (out x.process x.statement (or_left _ _ (is_self x)))))
    (distinct_append xs ys old.1 k (λ p s e. out p s (or_right _ _ e)))

distinct_cond : (b : Bool) (x : Pair) (xs : List Pair) → has_pair xs x.process x.statement ≡ false → distinct_pairs xs ≡ true → distinct_pairs (cond b (x ∷ xs) xs) ≡ true
unfolding distinct_pairs
distinct_cond true x xs out h = and_from _ _ (not_from_false _ out) h
distinct_cond false x xs out h = h

distinct_row : (n : ℕ) (r : Row) → distinct_pairs (row_pairs n r) ≡ true
unfolding row_pairs distinct_pairs
distinct_row zero r = refl
distinct_row (suc n) r =
    distinct_cond (contains r.signers n) (pair_of n r.statement) (row_pairs n r)
    (has_row n r n r.statement ∙ and_left (nat_lt n n) _ (le-ltb n n (omega arith))) (distinct_row n r)

-- a statement that no row has is in no pair
pub unlisted : (rs : List Row) (p : ℕ) (s : Statement) → listed rs s ≡ false → rows_have rs p s ≡ false
unlisted [] p s h = refl
unlisted (r ∷ rs) p s h =
    let parts = or_parts (same_statement r.statement s) (listed rs s) h in
    or_from _ _ (and_right (nat_lt p 31) _ (and_right (contains r.signers p) _ parts.0)) (unlisted rs p s parts.1)

pub distinct_pairs_lem : (rs : List Row) → sound rs ≡ true → distinct_pairs (pairs_of rs) ≡ true
unfolding distinct_pairs
distinct_pairs_lem [] h = refl
distinct_pairs_lem (r ∷ rs) h =
    let a = and_parts (nat_lt r.signers.bits (2 ^ 31)) _ h in
    let b = and_parts (not (listed rs r.statement)) (sound rs) a.1 in
    distinct_append (row_pairs 31 r) (pairs_of rs) (distinct_row 31 r) (distinct_pairs_lem rs b.1)
    (λ p s e.
    let m = and_parts (nat_lt p 31) _ (sym (has_row 31 r p s) ∙ e) in
    let q = and_parts (contains r.signers p) _ m.1 in
    has_pairs rs p s ∙ unlisted rs p s (ap (listed rs) (sym (same_is r.statement s q.1)) ∙ not-true _ b.0))

rows_low : (rs : List Row) (p : ℕ) (s : Statement) → rows_have rs p s ≡ true → p ≤ 30
rows_low [] p s h = absurd (both_ways false refl h)
rows_low (r ∷ rs) p s h =
    ⊎_elim (λ e. omega (arith, ltb-true p 31 (and_parts (nat_lt p 31) _ e).0)) (λ e. rows_low rs p s e) (or_cases (marks r p s) (rows_have rs p s) h)

pub low_pairs : (rs : List Row) → Low (pairs_of rs)
low_pairs rs p s h = rows_low rs p s (sym (has_pairs rs p s) ∙ h)

-- no row has the statement, if none does at any place
pub listed_none : (rs : List Row) (s : Statement) → ((k : ℕ) → k < length rs → same_statement (get_or rs k no_row).statement s ≡ false) → listed rs s ≡ false
listed_none [] s h = refl
listed_none (r ∷ rs) s h = or_from _ _ (h 0 (omega arith)) (listed_none rs s (λ k l. h (suc k) (omega arith)))

-- the first row that has the statement, or that none has, as a search for its place tells it
place_none : (rs : List Row) (s : Statement) → length rs ≤ position_or_len (λ r. same_statement r.statement s) rs → listed rs s ≡ false
place_none [] s h = refl
place_none (r ∷ rs) s h =
    ⊎_elim
    (λ e. absurd (grind (arith, common_steps)))
    (λ e. or_from _ _ e (place_none rs s (grind (arith, common_steps))))
    (cases_Bool (same_statement r.statement s))

abbrev pub place : List Row → Statement → Option ℕ
place rs s = position (λ r. same_statement r.statement s) rs

pub place_found : (rs : List Row) (i : ℕ) (s : Statement) → Some i ≡ place rs s → Found rs i s
place_found rs i s e = position-Some (λ r. same_statement r.statement s) rs i no_row (sym e)

pub place_listed : (rs : List Row) (s : Statement) → None ≡ place rs s → listed rs s ≡ false
place_listed rs s e = place_none rs s (grind (arith, nat_tests))

pub found_signers : (rs : List Row) (i : ℕ) (s : Statement) → Found rs i s → (get_or rs i no_row).signers ≡ row_signers rs s
found_signers [] i s h = let l = h.0 in absurd (omega arith)
found_signers (r ∷ rs) zero s h = sym (cond-true (same_statement r.statement s) _ _ h.1)
found_signers (r ∷ rs) (suc i) s h =
    found_signers rs i s (let l = h.0 in omega arith, h.1, λ k l. h.2 (suc k) (omega arith)) ∙ sym (cond-false (same_statement r.statement s) _ _ (h.2 0 (omega arith)))

pub unlisted_signers : (rs : List Row) (s : Statement) → listed rs s ≡ false → row_signers rs s ≡ of_bits 0
unlisted_signers [] s h = refl
unlisted_signers (r ∷ rs) s h =
    let parts = or_parts (same_statement r.statement s) (listed rs s) h in
    cond-false (same_statement r.statement s) _ _ parts.0 ∙ unlisted_signers rs s parts.1

set_add_to : (rs : List Row) (i p : ℕ) (s : Statement) → Found rs i s → slice_set rs i (row_of s (with_member (get_or rs i no_row).signers p)) ≡ add_to rs p s
set_add_to [] i p s h = let l = h.0 in absurd (omega arith)
set_add_to (r ∷ rs) zero p s h =
    ap (λ (t : Statement). row_of t (with_member r.signers p) ∷ rs) (sym (same_is r.statement s h.1)) ∙ sym (cond-true (same_statement r.statement s) _ _ h.1)
set_add_to (r ∷ rs) (suc i) p s h =
    ap (λ (zs : List Row). r ∷ zs) (set_add_to rs i p s (let l = h.0 in omega arith, h.1, λ k l. h.2 (suc k) (omega arith)))
    ∙ sym (cond-false (same_statement r.statement s) _ _ (h.2 0 (omega arith)))

set_kept_to : (rs : List Row) (i p : ℕ) (s : Statement) → Found rs i s
    → let r = get_or rs i no_row in slice_set rs i (row_of r.statement (with_member r.signers p)) ≡ add_to rs p s
set_kept_to [] i p s h = let l = h.0 in absurd (omega arith)
set_kept_to (r ∷ rs) zero p s h = sym (cond-true (same_statement r.statement s) _ _ h.1)
set_kept_to (r ∷ rs) (suc i) p s h =
    ap (λ (zs : List Row). r ∷ zs) (set_kept_to rs i p s (let l = h.0 in omega arith, h.1, λ k l. h.2 (suc k) (omega arith)))
    ∙ sym (cond-false (same_statement r.statement s) _ _ (h.2 0 (omega arith)))

push_add_to : (rs : List Row) (p : ℕ) (s : Statement) → listed rs s ≡ false → rs ++ row_of s (with_member (of_bits 0) p) ∷ [] ≡ add_to rs p s
push_add_to [] p s h = refl
push_add_to (r ∷ rs) p s h =
    let parts = or_parts (same_statement r.statement s) (listed rs s) h in
    ap (λ (zs : List Row). r ∷ zs) (push_add_to rs p s parts.1) ∙ sym (cond-false (same_statement r.statement s) _ _ parts.0)

-- the same as the code has it: x is the row that it read, and m the set that it made
pub put_there : (rs : List Row) (i p : ℕ) (m : ProcessSet) (x : Row) (s : Statement) → Found rs i s → x ≡ slice_index_or rs i x → m ≡ with_member x.signers p → slice_set rs i (row_of s m) ≡ add_to rs p s
put_there rs i p m x s h read e =
    ap (λ (k : ProcessSet). set rs i (row_of s k)) (e ∙ ap (λ (y : Row). with_member y.signers p) (get_or_read rs i x h.0 read no_row)) ∙ set_add_to rs i p s h

-- the same where the code writes the set alone: x and y are the row that it read, and m the set that it made
pub put_here : (rs : List Row) (i p : ℕ) (m : ProcessSet) (x y : Row) (s : Statement)
    → Found rs i s → x ≡ slice_index_or rs i x → y ≡ slice_index_or rs i y → m ≡ with_member x.signers p → slice_set rs i (row_of y.statement m) ≡ add_to rs p s
put_here rs i p m x y s h read again e =
    ap₂ (λ (t : Statement) (k : ProcessSet). set rs i (row_of t k))
    (ap (λ (z : Row). z.statement) (get_or_read rs i y h.0 again no_row))
    (e ∙ ap (λ (z : Row). with_member z.signers p) (get_or_read rs i x h.0 read no_row))
    ∙ set_kept_to rs i p s h

pub put_new : (rs ts : List Row) (p : ℕ) (m : ProcessSet) (s : Statement) → listed rs s ≡ false → m ≡ with_member (of_bits 0) p → ts ≡ rs ++ row_of s m ∷ [] → ts ≡ add_to rs p s
put_new rs ts p m s h e q = q ∙ ap (λ (k : ProcessSet). rs ++ row_of s k ∷ []) e ∙ push_add_to rs p s h

-- a process above 30 is in no pair
pub has_none : (rs : List Row) (p : ℕ) (s : Statement) → 30 < p → has_pair (pairs_of rs) p s ≡ false
has_none rs p s h = ⊎_elim (λ e. absurd (omega (arith, low_pairs rs p s e))) (λ e. e) (cases_Bool (has_pair (pairs_of rs) p s))
