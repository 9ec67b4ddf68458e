-- How many words correct processes send: each record fills a slot, a slot is filled once at most, and the slots of an epoch are counted.
-- Assumes nothing.
use Rattle.std.proofs.Common.{◌≡◌, ℕ, ◌+◌, ◌-◌, ◌*◌, ◌/◌, ◌%◌, ◌<◌, ◌≤◌, Bool, cond, ◌&&◌, eqb, leb, ◌⊎◌, sum_by, sym, refl, ap, ◌∙◌, subst, inl, inr, le_of_eq, mul-le-mul_right, mod-lt, mul_assoc, mul_comm, div-add-mod', mul-add, arith}
use Rattle.std.proofs.lemmas.Bool.{cases_Bool, cases_eq, cases_lt, cond-true, cond-false, cond_both, and_parts, and_from, and_left, eqb-true, le-leb, lt-leb}
use Rattle.counting.specs.Counts.{sum_to}
use Rattle.committee.specs.declared.membership.Committee.{Committee}
use Rattle.committee.specs.Thresholds.{is_correct}
use Rattle.committee.specs.Views.{epoch_of, view_of}
use Rattle.wire.specs.declared.record.Record.{Record}
use Rattle.wire.specs.Kinds.{kind_number}
use Rattle.wire.specs.Ranges.{of_view}
use Rattle.wire.specs.Words.{words_of, epoch_in}
use Rattle.agreement.specs.Wires.{Wire, Correct, posts}
use Rattle.agreement.specs.Words.{is_charged, words_in}
use Rattle.agreement.specs.Facts.{Facts, Formed, Addressed}
use Rattle.agreement.proofs.Elements.{all_both}
use Rattle.agreement.proofs.Sums.{sum-has, sum_by_le, sum_by-add, sum_by-zero, sum_by-sum, sum_by-price}
use Rattle.agreement.proofs.Records.{posts-from, kinds, by_or_to}

-- ---- where a record belongs

-- a view by its epoch and its place
pub placed : (f e v : ℕ) → 1 ≤ v → epoch_of f v ≡ e → (j : ℕ) × (j < f + 1) × (v ≡ view_of f e (j + 1))
placed f e v l h =
    let q : (v - 1) / (f + 1) ≡ e - 1 = omega arith in (
      (v - 1) % (f + 1),
      mod-lt (v - 1) (omega arith),
      omega (arith, div-add-mod' (v - 1) (f + 1), ap (λ (x : ℕ). x * (f + 1)) q),
    )

module _ (f : ℕ) (r : Record) where
  epoch_first : kind_number r.kind ≤ 3 → epoch_in f r ≡ 0
  epoch_first h = cond-true (leb (kind_number r.kind) 3) 0 _ (le-leb (kind_number r.kind) 3 h)

  epoch_late : 3 < kind_number r.kind → epoch_in f r ≡ cond (of_view r.kind) (epoch_of f r.number) r.number
  epoch_late h = cond-false (leb (kind_number r.kind) 3) 0 _ (lt-leb (kind_number r.kind) 3 h)

  epoch_own : 3 < kind_number r.kind → kind_number r.kind < 6 → epoch_in f r ≡ r.number
  epoch_own h l = epoch_late h ∙ cond-false (of_view r.kind) (epoch_of f r.number) r.number (lt-leb 6 (kind_number r.kind) l)

  epoch_view : 6 ≤ kind_number r.kind → epoch_in f r ≡ epoch_of f r.number
  epoch_view h =
      epoch_late (omega arith) ∙ cond-true (of_view r.kind) (epoch_of f r.number) r.number (le-leb 6 (kind_number r.kind) h)

-- ---- slots

module _ (c : Committee) where
  -- the price, where the correct process p has sent r, with kind k and number m
  slot : ℕ → ℕ → ℕ → ℕ → Record → ℕ
  slot p k m price r = cond (is_correct c p && posts p k m r) price 0

  -- the same of the kinds k, k + 2, k + 4 and k + 6
  four : ℕ → ℕ → ℕ → ℕ → Record → ℕ
  four p k m price r = slot p k m price r + (slot p (k + 2) m price r + (slot p (k + 4) m price r + slot p (k + 6) m price r))

  slot_has : (p k m price : ℕ) (r : Record) → Correct c p → r.sender ≡ p → kind_number r.kind ≡ k → r.number ≡ m → slot p k m price r ≡ price
  unfolding slot
  slot_has p k m price r h a b d =
      cond-true (is_correct c p && posts p k m r) price 0 (and_from (is_correct c p) (posts p k m r) h (posts-from p k m r a b d))

  four_has : (p k m price : ℕ) (r : Record) → Correct c p → r.sender ≡ p → r.number ≡ m
      → (kind_number r.kind ≡ k) ⊎ ((kind_number r.kind ≡ k + 2) ⊎ ((kind_number r.kind ≡ k + 4) ⊎ (kind_number r.kind ≡ k + 6)))
      → price ≤ four p k m price r
  unfolding four
  four_has p k m price r h a d (inl e) = omega (arith, slot_has p k m price r h a e d)
  four_has p k m price r h a d (inr (inl e)) = omega (arith, slot_has p (k + 2) m price r h a e d)
  four_has p k m price r h a d (inr (inr (inl e))) = omega (arith, slot_has p (k + 4) m price r h a e d)
  four_has p k m price r h a d (inr (inr (inr e))) = omega (arith, slot_has p (k + 6) m price r h a e d)

  -- the slots of certification
  firsts : ℕ → Record → ℕ
  firsts p r = slot p 1 0 c.n r + (slot p 2 0 c.n r + slot p 3 0 c.n r)

  -- those of epoch e: its ends, its votes, and what its leaders send
  ends : ℕ → ℕ → Record → ℕ
  ends e p r = slot p 4 e c.n r + slot p 5 e c.n r

  abbrev view : ℕ → ℕ → ℕ
  view e j = view_of c.f e (j + 1)

  votes : ℕ → ℕ → Record → ℕ
  votes e p r = sum_to (λ j. four p 6 (view e j) 1 r) (c.f + 1)

  leads : (ℕ → ℕ) → ℕ → Record → ℕ
  leads leader e r = sum_to (λ j. four (leader (view e j)) 7 (view e j) c.n r) (c.f + 1)

  bill : (ℕ → ℕ) → ℕ → Record → ℕ
  bill leader e r = sum_to (λ p. ends e p r) c.n + (sum_to (λ p. votes e p r) c.n + leads leader e r)

  -- ---- a record costs what its slot does

  module _ (leader : ℕ → ℕ) (r : Record) (form : Formed c r) (right : Correct c r.sender) (to : Addressed c leader r) where
    first_has : epoch_in c.f r ≡ 0 → words_of r ≤ sum_to (λ p. firsts p r) c.n
    unfolding firsts
    first_has h =
        let k : kind_number r.kind < 4
        = elim (cases_lt 3 (kind_number r.kind)) [
          | inl l ↦ elim (cases_lt (kind_number r.kind) 6) [
            | inl i ↦ absurd (omega (arith, form.late l, epoch_own c.f r l i))
            | inr i ↦ absurd (omega (arith, epoch_view c.f r i))
          ]
          | inr l ↦ omega arith
        ] in
        let p = r.sender in
        let s = sum-has (λ q. firsts q r) c.n p form.sender in
        elim (cases_eq (kind_number r.kind) 1) [
          | inl i ↦ omega (arith, to.few, s, slot_has p 1 0 c.n r right refl i (form.early k))
          | inr i ↦ elim (cases_eq (kind_number r.kind) 2) [
            | inl j ↦ omega (arith, to.few, s, slot_has p 2 0 c.n r right refl j (form.early k))
            | inr j ↦ omega (arith, to.few, s, slot_has p 3 0 c.n r right refl (omega (arith, i, j, kinds r.kind)) (form.early k))
          ]
        ]

    end_has : (e : ℕ) → 3 < kind_number r.kind → kind_number r.kind < 6 → r.number ≡ e → words_of r ≤ sum_to (λ p. ends e p r) c.n
    unfolding ends
    end_has e l i h =
        let p = r.sender in
        let s = sum-has (λ q. ends e q r) c.n p form.sender in
        elim (cases_eq (kind_number r.kind) 4) [
          | inl k ↦ omega (arith, to.few, s, slot_has p 4 e c.n r right refl k h)
          | inr k ↦ omega (arith, to.few, s, slot_has p 5 e c.n r right refl (omega (arith, k)) h)
        ]

    view_has : (e : ℕ) → 6 ≤ kind_number r.kind → epoch_of c.f r.number ≡ e
        → words_of r ≤ sum_to (λ p. votes e p r) c.n + leads leader e r
    unfolding votes leads
    view_has e l h =
        let p = r.sender in
        let w = placed c.f e r.number (form.late (omega arith)) h in
        let v = view e w.0 in
        elim (by_or_to r.kind l) [
          | inl k ↦
              omega (
                arith,
                to.one k,
                sum-has (λ q. votes e q r) c.n p form.sender,
                sum-has (λ j. four p 6 (view e j) 1 r) (c.f + 1) w.0 w.1,
                four_has p 6 v 1 r right refl w.2 k,
              )
          | inr k ↦
              let d : r.sender ≡ leader v = to.led k ∙ ap leader w.2 in
              omega (
                arith,
                to.few,
                sum-has (λ j. four (leader (view e j)) 7 (view e j) c.n r) (c.f + 1) w.0 w.1,
                four_has (leader v) 7 v c.n r (subst (Correct c) d right) d w.2 k,
              )
        ]

    bill_has : (e : ℕ) → 1 ≤ e → epoch_in c.f r ≡ e → words_of r ≤ bill leader e r
    unfolding bill
    bill_has e l h =
        elim (cases_lt 3 (kind_number r.kind)) [
          | inl a ↦ elim (cases_lt (kind_number r.kind) 6) [
            | inl b ↦ omega (arith, end_has e a b (sym (epoch_own c.f r a b) ∙ h))
            | inr b ↦ omega (arith, view_has e b (sym (epoch_view c.f r b) ∙ h))
          ]
          | inr a ↦ absurd (omega (arith, epoch_first c.f r a))
        ]

  -- a record that is not charged costs nothing
  charged_le : (e cap : ℕ) (r : Record) → (Correct c r.sender → epoch_in c.f r ≡ e → words_of r ≤ cap) → cond (is_charged c e r) (words_of r) 0 ≤ cap
  charged_le e cap r h =
      cond_both (is_charged c e r) (words_of r) 0 (λ x. x ≤ cap)
      (λ i.
      let k = and_parts (is_correct c r.sender) (eqb (epoch_in c.f r) e) i in
      h k.0 (eqb-true (epoch_in c.f r) e k.1))
      (λ i. omega arith)

  -- ---- what the slots cost together

  module _ (leader : ℕ → ℕ) (ws : Wire) (g : Facts c leader ws) where
    slot_cap : (p k m price : ℕ) → sum_by (slot p k m price) ws ≤ price
    unfolding slot
    slot_cap p k m price =
        elim (cases_Bool (is_correct c p)) [
          | inl e ↦
              omega (
                arith,
                sum_by_le (Formed c) (slot p k m price) (λ r. cond (posts p k m r) price 0) ws g.formed
                    (λ r _. le_of_eq (ap (λ (b : Bool). cond (b && posts p k m r) price 0) e)),
                sum_by-price (posts p k m) price ws,
                mul-le-mul_right price (g.single p k m e),
              )
          | inr e ↦
              omega (
                arith,
                sum_by_le (Formed c) (slot p k m price) (λ r. 0) ws g.formed
                    (λ r _. le_of_eq (cond-false (is_correct c p && posts p k m r) price 0 (and_left (is_correct c p) (posts p k m r) e))),
                sum_by-zero ws,
              )
        ]

    four_cap : (p k m price : ℕ) → sum_by (four p k m price) ws ≤ 4 * price
    unfolding four
    four_cap p k m price =
        omega (
          arith,
          sum_by-add (slot p k m price) (λ r. slot p (k + 2) m price r + (slot p (k + 4) m price r + slot p (k + 6) m price r)) ws,
          sum_by-add (slot p (k + 2) m price) (λ r. slot p (k + 4) m price r + slot p (k + 6) m price r) ws,
          sum_by-add (slot p (k + 4) m price) (slot p (k + 6) m price) ws,
          slot_cap p k m price,
          slot_cap p (k + 2) m price,
          slot_cap p (k + 4) m price,
          slot_cap p (k + 6) m price,
        )

    firsts_cap : (p : ℕ) → sum_by (firsts p) ws ≤ c.n + (c.n + c.n)
    unfolding firsts
    firsts_cap p =
        omega (
          arith,
          sum_by-add (slot p 1 0 c.n) (λ r. slot p 2 0 c.n r + slot p 3 0 c.n r) ws,
          sum_by-add (slot p 2 0 c.n) (slot p 3 0 c.n) ws,
          slot_cap p 1 0 c.n,
          slot_cap p 2 0 c.n,
          slot_cap p 3 0 c.n,
        )

    ends_cap : (e p : ℕ) → sum_by (ends e p) ws ≤ c.n + c.n
    unfolding ends
    ends_cap e p = omega (arith, sum_by-add (slot p 4 e c.n) (slot p 5 e c.n) ws, slot_cap p 4 e c.n, slot_cap p 5 e c.n)

    votes_cap : (e p : ℕ) → sum_by (votes e p) ws ≤ (c.f + 1) * 4
    unfolding votes
    votes_cap e p = sum_by-sum (λ j. four p 6 (view e j) 1) 4 (c.f + 1) ws (λ j _. four_cap p 6 (view e j) 1)

    leads-cap : (e : ℕ) → sum_by (leads leader e) ws ≤ (c.f + 1) * (4 * c.n)
    unfolding leads
    leads-cap e =
        sum_by-sum (λ j. four (leader (view e j)) 7 (view e j) c.n) (4 * c.n) (c.f + 1) ws
        (λ j _. four_cap (leader (view e j)) 7 (view e j) c.n)

    bill_cap : (e : ℕ) → sum_by (bill leader e) ws ≤ c.n * (c.n + c.n) + (c.n * ((c.f + 1) * 4) + (c.f + 1) * (4 * c.n))
    unfolding bill
    bill_cap e =
        omega (
          arith,
          sum_by-add (λ r. sum_to (λ p. ends e p r) c.n) (λ r. sum_to (λ p. votes e p r) c.n + leads leader e r) ws,
          sum_by-add (λ r. sum_to (λ p. votes e p r) c.n) (leads leader e) ws,
          sum_by-sum (ends e) (c.n + c.n) c.n ws (λ p _. ends_cap e p),
          sum_by-sum (votes e) ((c.f + 1) * 4) c.n ws (λ p _. votes_cap e p),
          leads-cap e,
        )

    -- where each charged record costs at most its part of a bill, the words are at most the bill
    words_le : (e : ℕ) (part : Record → ℕ)
        → ((r : Record) → Formed c r → Correct c r.sender → Addressed c leader r → epoch_in c.f r ≡ e → words_of r ≤ part r)
        → words_in c e ws ≤ sum_by part ws
    words_le e part h =
        sum_by_le (λ r. Formed c r × (Correct c r.sender → Addressed c leader r)) (λ r. cond (is_charged c e r) (words_of r) 0) part ws
        (all_both (Formed c) (λ r. Correct c r.sender → Addressed c leader r) ws g.formed g.addressed)
        (λ r k. charged_le e (part r) r (λ right. h r k.0 right (k.1 right)))

    pub words_first : words_in c 0 ws ≤ 3 * (c.n * c.n)
    words_first =
        omega (
          arith,
          words_le 0 (λ r. sum_to (λ p. firsts p r) c.n) (λ r form right to. first_has leader r form right to),
          sum_by-sum firsts (c.n + (c.n + c.n)) c.n ws (λ p _. firsts_cap p),
          mul-add c.n c.n (c.n + c.n),
          mul-add c.n c.n c.n,
        )

    pub words_each : (e : ℕ) → 1 ≤ e → words_in c e ws ≤ 2 * (c.n * c.n) + 8 * (c.n * (c.f + 1))
    words_each e l =
        omega (
          arith,
          words_le e (bill leader e) (λ r form right to. bill_has leader r form right to e l),
          bill_cap e,
          mul-add c.n c.n c.n,
          sym (mul_assoc c.n (c.f + 1) 4),
          ap (λ (x : ℕ). (c.f + 1) * x) (mul_comm 4 c.n),
          sym (mul_assoc (c.f + 1) c.n 4),
          ap (λ (x : ℕ). x * 4) (mul_comm (c.f + 1) c.n),
        )
