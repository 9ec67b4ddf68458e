-- A disclosure that is heeded: what the process has heard then, by what it counts. Assumes nothing.
use Rattle.std.proofs.Common.{◌≡◌, ℕ, zero, suc, ◌<◌, ◌≤◌, Bool, true, cond, ◌&&◌, ◌||◌, eqb, ◌⊎◌, List, [], ◌∷◌, length, get_or, set, Some, None, sym, refl, ◌∙◌, inl, inr, arith}
use Rattle.std.proofs.lemmas.Bool.{or_cases, or_left, or_right, and_parts, and_from, eqb-true, eq-eqb, false≢true}
use Rattle.counting.specs.Counts.{any, count_to}
use Rattle.counting.proofs.Sums.{count_same, sum-le}
use Rattle.committee.specs.Sets.{contains}
use Rattle.register.specs.Distinct.{seen}
use Rattle.register.proofs.Gathering.{with_contains}
use Rattle.wire.specs.declared.record.Record.{Record}
use Rattle.wire.specs.Kinds.{kind_number}
use Rattle.wire.specs.Heeding.{is_heeded}
use Rattle.protocol.specs.Moments.{delivered}
use Rattle.protocol.specs.Plans.{asked, from_senders}
use Rattle.agreement.specs.Wires.{Wire, sends, posts, heard, heard_of}
use Rattle.agreement.proofs.Elements.{any-from, all-unit, test_le, not_any}
use Rattle.agreement.proofs.Records.{sends-parts, posts-parts, posts-from}
use Rattle.safety.proofs.Marking.{heard-else}

-- ---- a list of which one element is changed

any-set_cases : {X : Type 0} (t : X → Bool) (xs : List X) (i : ℕ) (y : X) → any t (set xs i y) ≡ true → (any t xs ≡ true) ⊎ (t y ≡ true)
unfolding any
any-set_cases t [] i y e = absurd (false≢true e)
any-set_cases t (x ∷ xs) zero y e = elim (or_cases (t y) (any t xs) e) [ inl a ↦ inr a | inr a ↦ inl (or_right (t x) (any t xs) a) ]
any-set_cases t (x ∷ xs) (suc i) y e =
    elim (or_cases (t x) (any t (set xs i y)) e) [
      | inl a ↦ inl (or_left (t x) (any t xs) a)
      | inr a ↦ elim (any-set_cases t xs i y a) [ inl b ↦ inl (or_right (t x) (any t xs) b) | inr b ↦ inr b ]
    ]

any-set_here : {X : Type 0} (t : X → Bool) (xs : List X) (i : ℕ) (y : X) → i < length xs → t y ≡ true → any t (set xs i y) ≡ true
unfolding any
any-set_here t [] i y l e = absurd (omega arith)
any-set_here t (x ∷ xs) zero y l e = or_left (t y) (any t xs) e
any-set_here t (x ∷ xs) (suc i) y l e = or_right (t x) (any t (set xs i y)) (any-set_here t xs i y (omega arith) e)

any-set_more : {X : Type 0} (t : X → Bool) (xs : List X) (i : ℕ) (y d : X) → i < length xs → (t (get_or xs i d) ≡ true → t y ≡ true) → any t xs ≡ true → any t (set xs i y) ≡ true
unfolding any
any-set_more t [] i y d l h e = absurd (omega arith)
any-set_more t (x ∷ xs) zero y d l h e = elim (or_cases (t x) (any t xs) e) [ inl a ↦ or_left (t y) (any t xs) (h a) | inr a ↦ or_right (t y) (any t xs) a ]
any-set_more t (x ∷ xs) (suc i) y d l h e =
    elim (or_cases (t x) (any t xs) e) [
      | inl a ↦ or_left (t x) (any t (set xs i y)) a
      | inr a ↦ or_right (t x) (any t (set xs i y)) (any-set_more t xs i y d (omega arith) h a)
    ]

-- ---- the disclosure r at place i is heeded by p

module _ (ws : Wire) (i : ℕ) (d : Record) (l : i < length ws) (p : ℕ) (small : p ≤ 30) (kind : kind_number (get_or ws i d).kind ≡ 1) (number : (get_or ws i d).number ≡ 0) where
  abbrev r : Record
  r = get_or ws i d

  abbrev z : Record
  z = delivered p true r

  -- what the process has heard of the value, it counts
  pub heard-counted : count_to (heard_of (set ws i z) p r.value) 31 ≤ from_senders (asked p r (Some r.value)) r.sender ws
  heard-counted =
      let h = asked p r (Some r.value) in
      sum-le (λ q. cond (heard_of (set ws i z) p r.value q) 1 0) (λ q. cond (eqb r.sender q || seen (λ x. x.sender) (is_heeded h) ws q) 1 0) 31
      (λ q _. test_le (heard_of (set ws i z) p r.value q) (eqb r.sender q || seen (λ x. x.sender) (is_heeded h) ws q)
      (λ e. elim (any-set_cases (λ x. contains x.heeded p && sends q 1 0 r.value x) ws i z e) [
        | inl a ↦
            or_right (eqb r.sender q) _
            (any-from (λ x. Unit {0}) (λ x. contains x.heeded p && sends q 1 0 r.value x) (λ x. eqb x.sender q && is_heeded h x) ws (all-unit ws)
            (λ x _ t.
            let b = and_parts (contains x.heeded p) _ t in
            let s = sends-parts q 1 0 r.value x b.1 in
            and_from _ _ (eq-eqb x.sender q s.0)
            (and_from _ _ b.0
            (and_from _ _ (eq-eqb (kind_number x.kind) (kind_number r.kind) (s.1 ∙ sym kind))
            (and_from _ _ (eq-eqb x.number r.number (s.2 ∙ sym number)) (eq-eqb x.value r.value s.3))))) a)
        | inr a ↦
            let b = and_parts (contains z.heeded p) _ a in
            or_left (eqb r.sender q) _ (eq-eqb r.sender q (sends-parts q 1 0 r.value z b.1).0)
      ]))

  -- what it counts over all values, it has heard
  pub counted_heard : from_senders (asked p r None) r.sender ws ≤ count_to (heard (set ws i z) p) 31
  counted_heard =
      let h = asked p r None in
      let mine : contains z.heeded p ≡ true = with_contains r.heeded p p small ∙ or_right (contains r.heeded p) (eqb p p) (eq-eqb p p refl) in
      sum-le (λ q. cond (eqb r.sender q || seen (λ x. x.sender) (is_heeded h) ws q) 1 0) (λ q. cond (heard (set ws i z) p q) 1 0) 31
      (λ q _. test_le (eqb r.sender q || seen (λ x. x.sender) (is_heeded h) ws q) (heard (set ws i z) p q)
      (λ e. elim (or_cases (eqb r.sender q) _ e) [
        | inl a ↦
            any-set_here (λ x. contains x.heeded p && posts q 1 0 x) ws i z l (and_from _ _ mine (posts-from q 1 0 z (eqb-true r.sender q a) kind number))
        | inr a ↦
            any-set_more (λ x. contains x.heeded p && posts q 1 0 x) ws i z d l
            (λ t. let b = and_parts (contains r.heeded p) _ t in let s = posts-parts q 1 0 r b.1 in and_from _ _ mine (posts-from q 1 0 z s.0 s.1 s.2))
            (any-from (λ x. Unit {0}) (λ x. eqb x.sender q && is_heeded h x) (λ x. contains x.heeded p && posts q 1 0 x) ws (all-unit ws)
            (λ x _ t.
            let b = and_parts (eqb x.sender q) (is_heeded h x) t in
            let g = and_parts (contains x.heeded p) _ b.1 in
            let k = and_parts (eqb (kind_number x.kind) (kind_number r.kind)) _ g.1 in
            let n = and_parts (eqb x.number r.number) _ k.1 in
            and_from _ _ g.0
            (posts-from q 1 0 x (eqb-true x.sender q b.0) (eqb-true (kind_number x.kind) (kind_number r.kind) k.0 ∙ kind) (eqb-true x.number r.number n.0 ∙ number))) a)
      ]))

  -- of another value it has heard no more than before
  pub heard-of_others : (w : ℕ) → (w ≡ r.value → ⊥) → count_to (heard_of (set ws i z) p w) 31 ≡ count_to (heard_of ws p w) 31
  heard-of_others w n =
      count_same (heard_of (set ws i z) p w) (heard_of ws p w) 31
      (λ q _. heard-else ws i d l p small true p w q (not_any (sends q 1 0 w r) (λ e. n (sym (sends-parts q 1 0 w r e).3))))
