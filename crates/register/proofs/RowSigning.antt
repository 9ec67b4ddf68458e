-- What the rows of a tally hold, and what one signer more does to them. Assumes nothing.
use Rattle.std.proofs.Common.{◌≡◌, ℕ, ◌+◌, ◌^◌, ◌<◌, ◌≤◌, Bool, true, false, cond, not, ◌&&◌, ◌||◌, eqb, ltb, List, [], ◌∷◌, length, sym, refl, ap, ◌∙◌, subst, ap₂, ⊎_elim, arith, lit<, length-append}
use Rattle.std.proofs.lemmas.Bool.{or_parts, or_from, and_parts, and_from, and_right, ltb-true, lt-ltb, not-true, not_from_false, both_ways, cases_Bool, cond-true, cond-false}
use Rattle.std.proofs.lemmas.Bool.Decides.{nat_tests}
use Rattle.counting.specs.Counts.{count_to}
use Rattle.counting.proofs.Booleans.{or_assoc, or_false, and_true}
use Rattle.counting.proofs.Sums.{count_same, count_more, count_none}
use Rattle.counting.proofs.Bits.{ones-count, bit_at-none}
use Rattle.committee.specs.declared.sets.ProcessSet.{ProcessSet}
use Rattle.committee.specs.Sets.{contains, with_member, of_bits}
use Rattle.register.specs.declared.pair.Statement.{Statement}
use Rattle.register.specs.declared.row.Row.{Row}
use Rattle.register.specs.Distinct.{Gathered}
use Rattle.register.specs.Pairs.{same_statement, has_pair, Added}
use Rattle.register.specs.Rows.{row_pairs, pairs_of, listed, sound, row_signers, row_of, add_to, pair_of}
use Rattle.register.proofs.Gathering.{with_contains, with_low}
use Rattle.register.specs.Signing.{same_is, same_swap}
use Rattle.register.specs.RowPairs.{marks, rows_have, has_pairs, length_row, unlisted}

-- the statement's row says all
has_signers : (rs : List Row) (p : ℕ) (s : Statement) → sound rs ≡ true → rows_have rs p s ≡ (ltb p 31 && contains (row_signers rs s) p)
has_signers [] p s h = sym (and_right (ltb p 31) _ (bit_at-none p))
has_signers (r ∷ rs) p s h =
    let a = and_parts (ltb r.signers.bits (2 ^ 31)) _ h in
    let b = and_parts (not (listed rs r.statement)) (sound rs) a.1 in
    ⊎_elim
    (λ e.
    let rest : rows_have rs p s ≡ false = unlisted rs p s (ap (listed rs) (sym (same_is r.statement s e)) ∙ not-true _ b.0) in
    ap₂ (λ (x y : Bool). (ltb p 31 && x) || y) (and_true (contains r.signers p) _ e) rest
    ∙ or_false (ltb p 31 && contains r.signers p) false refl
    ∙ ap (λ (m : ProcessSet). ltb p 31 && contains m p) (sym (cond-true (same_statement r.statement s) r.signers (row_signers rs s) e)))
    (λ e.
    ap (λ (x : Bool). x || rows_have rs p s) (and_right (ltb p 31) _ (and_right (contains r.signers p) _ e))
    ∙ has_signers rs p s b.1
    ∙ ap (λ (m : ProcessSet). ltb p 31 && contains m p) (sym (cond-false (same_statement r.statement s) r.signers (row_signers rs s) e)))
    (cases_Bool (same_statement r.statement s))

signers-low : (rs : List Row) (s : Statement) → sound rs ≡ true → (row_signers rs s).bits < 2 ^ 31
signers-low [] s h = lit< tt
signers-low (r ∷ rs) s h =
    let a = and_parts (ltb r.signers.bits (2 ^ 31)) _ h in
    let b = and_parts (not (listed rs r.statement)) (sound rs) a.1 in
    let P : ProcessSet → Type 0 = λ m. m.bits < 2 ^ 31 in
    ⊎_elim
    (λ e. subst P (sym (cond-true (same_statement r.statement s) r.signers (row_signers rs s) e)) (ltb-true _ _ a.0))
    (λ e. subst P (sym (cond-false (same_statement r.statement s) r.signers (row_signers rs s) e)) (signers-low rs s b.1))
    (cases_Bool (same_statement r.statement s))

-- the row's set has just the signers
pub gathered_row : (rs : List Row) (s : Statement) (m : ProcessSet) → sound rs ≡ true → m ≡ row_signers rs s → Gathered (λ p. has_pair (pairs_of rs) p s) m
gathered_row rs s m h e =
    let whole : (p : ℕ) → p < 31 → contains m p ≡ has_pair (pairs_of rs) p s =
    λ p l.
    ap (λ (b : Bool). b && contains m p) (sym (lt-ltb p 31 l)) ∙ ap (λ (k : ProcessSet). ltb p 31 && contains k p) e
    ∙ sym (has_signers rs p s h) ∙ sym (has_pairs rs p s) in
    let P : ProcessSet → Type 0 = λ k. k.bits < 2 ^ 31 in
    let small : m.bits < 2 ^ 31 = subst P (sym e) (signers-low rs s h) in
    record {
      low = small;
      members = whole;
      count = ones-count 31 m.bits small ∙ count_same (contains m) (λ p. has_pair (pairs_of rs) p s) 31 whole;
    }

new_here : (p q : ℕ) (B S R : Bool) → p ≤ 30 → ((ltb q 31 && ((B || eqb p q) && S)) || R) ≡ (((ltb q 31 && (B && S)) || R) || (eqb p q && S))
new_here p q B S R h = grind (arith, nat_tests)

none_has : (q : ℕ) → contains (of_bits 0) q ≡ false
none_has q = bit_at-none q

add_members : (rs : List Row) (p : ℕ) (s : Statement) → p ≤ 30 → (q : ℕ) (t : Statement) → rows_have (add_to rs p s) q t ≡ (rows_have rs q t || (eqb p q && same_statement s t))
add_members [] p s small q t =
    ap (λ (b : Bool). (ltb q 31 && (b && same_statement s t)) || false) (with_contains (of_bits 0) p q small ∙ ap (λ (b : Bool). b || eqb p q) (none_has q))
    ∙ new_here p q false (same_statement s t) false small
    ∙ ap (λ (b : Bool). (b || false) || (eqb p q && same_statement s t)) (and_right (ltb q 31) false refl)
add_members (r ∷ rs) p s small q t =
    ⊎_elim
    (λ e.
    ap (λ (zs : List Row). rows_have zs q t) (cond-true (same_statement r.statement s) _ _ e)
    ∙ ap (λ (b : Bool). (ltb q 31 && (b && same_statement r.statement t)) || rows_have rs q t) (with_contains r.signers p q small)
    ∙ new_here p q (contains r.signers q) (same_statement r.statement t) (rows_have rs q t) small
    ∙ ap (λ (u : Statement). (marks r q t || rows_have rs q t) || (eqb p q && same_statement u t)) (same_is r.statement s e))
    (λ e.
    ap (λ (zs : List Row). rows_have zs q t) (cond-false (same_statement r.statement s) _ _ e)
    ∙ ap (λ (b : Bool). marks r q t || b) (add_members rs p s small q t)
    ∙ sym (or_assoc (marks r q t) (rows_have rs q t) (eqb p q && same_statement s t)))
    (cases_Bool (same_statement r.statement s))

-- no other statement gets a row
listed-add : (rs : List Row) (p : ℕ) (s t : Statement) → listed rs t ≡ false → same_statement s t ≡ false → listed (add_to rs p s) t ≡ false
listed-add [] p s t h out = or_from _ _ out refl
listed-add (r ∷ rs) p s t h out =
    let parts = or_parts (same_statement r.statement t) (listed rs t) h in
    ⊎_elim
    (λ e. ap (λ (zs : List Row). listed zs t) (cond-true (same_statement r.statement s) _ _ e) ∙ or_from _ _ parts.0 parts.1)
    (λ e. ap (λ (zs : List Row). listed zs t) (cond-false (same_statement r.statement s) _ _ e) ∙ or_from _ _ parts.0 (listed-add rs p s t parts.1 out))
    (cases_Bool (same_statement r.statement s))

pub add_sound : (rs : List Row) (p : ℕ) (s : Statement) → p ≤ 30 → sound rs ≡ true → sound (add_to rs p s) ≡ true
add_sound [] p s small h = and_from _ _ (lt-ltb _ _ (with_low (of_bits 0) p small (lit< tt))) refl
add_sound (r ∷ rs) p s small h =
    let a = and_parts (ltb r.signers.bits (2 ^ 31)) _ h in
    let b = and_parts (not (listed rs r.statement)) (sound rs) a.1 in
    ⊎_elim
    (λ e.
    ap sound (cond-true (same_statement r.statement s) _ _ e)
    ∙ and_from _ _ (lt-ltb _ _ (with_low r.signers p small (ltb-true _ _ a.0))) a.1)
    (λ e.
    ap sound (cond-false (same_statement r.statement s) _ _ e)
    ∙ and_from _ _ a.0
    (and_from _ _ (not_from_false _ (listed-add rs p s r.statement (not-true _ b.0) (same_swap s r.statement ∙ e))) (add_sound rs p s small b.1)))
    (cases_Bool (same_statement r.statement s))

-- a row with one signer more has one pair more
longer_row : (p : ℕ) (s : Statement) (m : ProcessSet) → p ≤ 30 → contains m p ≡ false → length (row_pairs 31 (row_of s (with_member m p))) ≡ count_to (contains m) 31 + 1
longer_row p s m small out =
    length_row 31 (row_of s (with_member m p))
    ∙ count_more 31 p (contains m) (contains (with_member m p)) (λ q l. with_contains m p q small) out
    ∙ ap (λ (b : Bool). count_to (contains m) 31 + cond b 1 0) (lt-ltb p 31 (omega arith))

tell : (x y : Bool) → x ≡ true → (x && y) ≡ false → y ≡ false
tell true y e h = h
tell false y e h = absurd (both_ways false refl e)

add_length : (rs : List Row) (p : ℕ) (s : Statement) → p ≤ 30 → rows_have rs p s ≡ false → length (pairs_of (add_to rs p s)) ≡ length (pairs_of rs) + 1
add_length [] p s small out =
    length-append (row_pairs 31 (row_of s (with_member (of_bits 0) p))) []
    ∙ omega (arith, longer_row p s (of_bits 0) small (none_has p), count_same (contains (of_bits 0)) (λ _. false) 31 (λ q _. none_has q), count_none 31)
add_length (r ∷ rs) p s small out =
    let parts = or_parts (marks r p s) (rows_have rs p s) out in
    ⊎_elim
    (λ e.
    let t : Row = row_of r.statement (with_member r.signers p) in
    let off : contains r.signers p ≡ false = sym (and_true (contains r.signers p) _ e) ∙ tell (ltb p 31) _ (lt-ltb p 31 (omega arith)) parts.0 in
    ap (λ (zs : List Row). length (pairs_of zs)) (cond-true (same_statement r.statement s) _ _ e)
    ∙ length-append (row_pairs 31 t) (pairs_of rs)
    ∙ omega (arith, longer_row p r.statement r.signers small off, length_row 31 r, length-append (row_pairs 31 r) (pairs_of rs)))
    (λ e.
    ap (λ (zs : List Row). length (pairs_of zs)) (cond-false (same_statement r.statement s) _ _ e)
    ∙ length-append (row_pairs 31 r) (pairs_of (add_to rs p s))
    ∙ omega (arith, add_length rs p s small parts.1, length-append (row_pairs 31 r) (pairs_of rs)))
    (cases_Bool (same_statement r.statement s))

pub added_to : (rs ts : List Row) (p : ℕ) (s : Statement) → p ≤ 30 → has_pair (pairs_of rs) p s ≡ false → ts ≡ add_to rs p s → Added (pairs_of rs) (pairs_of ts) (pair_of p s)
added_to rs ts p s small out e = record {
  members = λ q t.
      ap (λ (zs : List Row). has_pair (pairs_of zs) q t) e ∙ has_pairs (add_to rs p s) q t ∙ add_members rs p s small q t
      ∙ ap (λ (b : Bool). b || (eqb p q && same_statement s t)) (sym (has_pairs rs q t));
  count =
      ap (λ (zs : List Row). length (pairs_of zs)) e ∙ add_length rs p s small (sym (has_pairs rs p s) ∙ out)
      ∙ ap (λ (b : Bool). length (pairs_of rs) + cond b 0 1) (sym out);
}
