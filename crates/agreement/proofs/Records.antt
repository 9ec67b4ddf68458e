-- What tests of a record say of its fields, and the form of a record in range. Assumes nothing.
use Rattle.std.proofs.Common.{◌≡◌, ℕ, ◌+◌, ◌≤◌, Bool, true, false, cond, not, ◌&&◌, ◌||◌, eqb, ltb, leb, ◌⊎◌, [], ◌∷◌, count_by, sym, refl, ap, ◌∙◌, inl, inr, arith, lit≤}
use Rattle.std.proofs.lemmas.List.Sums.{sum_by-cons}
use Rattle.std.proofs.lemmas.Bool.{and_parts, and_from, or_cases, eqb-true, eq-eqb, ltb-true, ltb-false, leb-true, lt-leb, le-leb, cond-true, cond-false, cond_both, not-true, false≢true}
use Rattle.counting.specs.Counts.{any}
use Rattle.committee.specs.declared.membership.Committee.{Committee}
use Rattle.committee.specs.Views.{is_view}
use Rattle.wire.specs.declared.kind.Kind.{Kind}
use Rattle.wire.specs.declared.kind.Kind.TheVariants.{Disclose, AllowAny, Certificate, EpochCompleted, EnterEpoch, ViewChange, Prepare, PrepareVote, Precommit, PrecommitVote, Commit, CommitVote, Decide}
use Rattle.wire.specs.declared.record.Record.{Record}
use Rattle.wire.specs.Kinds.{kind_number, vouch_number}
use Rattle.wire.specs.Ranges.{in_range, sets_fit, number_fits, value_fits, has_value, of_view}
use Rattle.agreement.specs.Wires.{Wire, Sent, sends, posts}
use Rattle.agreement.specs.Facts.{Formed, ToLeader, ByLeader, Same}
use Rattle.agreement.proofs.Elements.{any-from, any-one, all-unit}

-- ---- who sent what

pub sends-parts : (p k m x : ℕ) (r : Record) → sends p k m x r ≡ true
    → (r.sender ≡ p) × (kind_number r.kind ≡ k) × (r.number ≡ m) × (r.value ≡ x)
unfolding sends
sends-parts p k m x r e =
    let a = and_parts (eqb r.sender p) _ e in
    let b = and_parts (eqb (kind_number r.kind) k) _ a.1 in
    let d = and_parts (eqb r.number m) (eqb r.value x) b.1 in (
      eqb-true r.sender p a.0,
      eqb-true (kind_number r.kind) k b.0,
      eqb-true r.number m d.0,
      eqb-true r.value x d.1,
    )

pub sends-from : (p k m x : ℕ) (r : Record) → r.sender ≡ p → kind_number r.kind ≡ k → r.number ≡ m → r.value ≡ x → sends p k m x r ≡ true
unfolding sends
sends-from p k m x r a b d e =
    and_from (eqb r.sender p) _ (eq-eqb r.sender p a)
    (and_from (eqb (kind_number r.kind) k) _ (eq-eqb (kind_number r.kind) k b)
    (and_from (eqb r.number m) (eqb r.value x) (eq-eqb r.number m d) (eq-eqb r.value x e)))

pub posts-parts : (p k m : ℕ) (r : Record) → posts p k m r ≡ true → (r.sender ≡ p) × (kind_number r.kind ≡ k) × (r.number ≡ m)
unfolding posts
posts-parts p k m r e =
    let a = and_parts (eqb r.sender p) _ e in
    let b = and_parts (eqb (kind_number r.kind) k) (eqb r.number m) a.1 in
    (eqb-true r.sender p a.0, eqb-true (kind_number r.kind) k b.0, eqb-true r.number m b.1)

pub posts-from : (p k m : ℕ) (r : Record) → r.sender ≡ p → kind_number r.kind ≡ k → r.number ≡ m → posts p k m r ≡ true
unfolding posts
posts-from p k m r a b d =
    and_from (eqb r.sender p) _ (eq-eqb r.sender p a)
    (and_from (eqb (kind_number r.kind) k) (eqb r.number m) (eq-eqb (kind_number r.kind) k b) (eq-eqb r.number m d))

sends-posts : (p k m x : ℕ) (r : Record) → sends p k m x r ≡ true → posts p k m r ≡ true
sends-posts p k m x r e = let a = sends-parts p k m x r e in posts-from p k m r a.0 a.1 a.2

pub sent_posted : (ws : Wire) (p k m x : ℕ) → Sent ws p k m x → any (posts p k m) ws ≡ true
sent_posted ws p k m x =
    any-from (λ r. Unit {0}) (sends p k m x) (posts p k m) ws (all-unit ws) (λ r _. sends-posts p k m x r)

-- a sender's one record has one value
pub one_value : (p k m x y : ℕ) (ws : Wire) → count_by (posts p k m) ws ≤ 1 → Sent ws p k m x → Sent ws p k m y → x ≡ y
unfolding any
one_value p k m x y [] few a b = absurd (false≢true a)
one_value p k m x y (r ∷ ws) few a b =
    let d : cond {A = ℕ} (posts p k m r) 1 0 + count_by (posts p k m) ws ≤ 1 = rw sum_by-cons at few in
    let clash : (z w : ℕ) → sends p k m z r ≡ true → Sent ws p k m w → ⊥
    = λ z w i j.
    omega (arith, cond-true {A = ℕ} (posts p k m r) 1 0 (sends-posts p k m z r i), any-one (posts p k m) ws (sent_posted ws p k m w j)) in
    elim (or_cases (sends p k m x r) (any (sends p k m x) ws) a) [
      | inl i ↦ elim (or_cases (sends p k m y r) (any (sends p k m y) ws) b)
          [ inl j ↦ sym (sends-parts p k m x r i).3 ∙ (sends-parts p k m y r j).3 | inr j ↦ absurd (clash x y i j) ]
      | inr i ↦ elim (or_cases (sends p k m y r) (any (sends p k m y) ws) b)
          [ inl j ↦ absurd (clash y x j i) | inr j ↦ one_value p k m x y ws (omega (arith, d)) i j ]
    ]

-- ---- kinds

pub kinds : (k : Kind) → 1 ≤ kind_number k
kinds Disclose = lit≤ tt
kinds AllowAny = lit≤ tt
kinds Certificate = lit≤ tt
kinds EpochCompleted = lit≤ tt
kinds EnterEpoch = lit≤ tt
kinds ViewChange = lit≤ tt
kinds Prepare = lit≤ tt
kinds PrepareVote = lit≤ tt
kinds Precommit = lit≤ tt
kinds PrecommitVote = lit≤ tt
kinds Commit = lit≤ tt
kinds CommitVote = lit≤ tt
kinds Decide = lit≤ tt

-- the kinds of a view go to the leader, or come from it
pub by_or_to : (k : Kind) → 6 ≤ kind_number k → ToLeader (kind_number k) ⊎ ByLeader (kind_number k)
by_or_to Disclose h = absurd (omega arith)
by_or_to AllowAny h = absurd (omega arith)
by_or_to Certificate h = absurd (omega arith)
by_or_to EpochCompleted h = absurd (omega arith)
by_or_to EnterEpoch h = absurd (omega arith)
by_or_to ViewChange h = inl (inl refl)
by_or_to Prepare h = inr (inl refl)
by_or_to PrepareVote h = inl (inr (inl refl))
by_or_to Precommit h = inr (inr (inl refl))
by_or_to PrecommitVote h = inl (inr (inr (inl refl)))
by_or_to Commit h = inr (inr (inr (inl refl)))
by_or_to CommitVote h = inl (inr (inr (inr refl)))
by_or_to Decide h = inr (inr (inr (inr refl)))

-- ---- records in range

-- whether a record of the kind with number k has a value
abbrev valued : Record → ℕ → Bool
valued r k = cond (eqb k 3) (eqb (vouch_number r.vouch) 1) (cond (eqb k 6) (ltb 0 r.back) (eqb k 1 || leb 7 k))

no_value : (r : Record) → (kind_number r.kind ≡ 2) ⊎ (kind_number r.kind ≡ 4) → value_fits r ≡ true → r.value ≡ 0
no_value r h e =
    let blank : has_value r ≡ false = elim h [ inl k ↦ ap (valued r) k | inr k ↦ ap (valued r) k ] in
    let none = not-true (ltb 0 r.value) (sym (cond-false (has_value r) (ltb 0 r.value) (not (ltb 0 r.value)) blank) ∙ e) in
    omega (arith, ltb-false 0 r.value none)

late_number : (r : Record) → 4 ≤ kind_number r.kind → number_fits r ≡ true → 1 ≤ r.number
late_number r l e =
    let past = sym (cond-false (leb (kind_number r.kind) 3) _ _ (lt-leb (kind_number r.kind) 3 l)) ∙ e in
    leb-true 1 r.number
    (cond_both (of_view r.kind) (is_view r.number) _ (λ (b : Bool). b ≡ true → leb 1 r.number ≡ true)
    (λ _ h. (and_parts (leb 1 r.number) _ h).0) (λ _ h. (and_parts (leb 1 r.number) _ h).0) past)

pub formed : (c : Committee) (r : Record) → in_range c.n r ≡ true → Formed c r
formed c r e =
    let a = and_parts (sets_fit c.n r) _ e in
    let b = and_parts (number_fits r) _ a.1 in
    let d = and_parts (value_fits r) _ b.1 in
    record {
      sender = ltb-true r.sender c.n (and_parts (ltb r.sender c.n) _ a.0).0;
      early = λ l. eqb-true r.number 0 (sym (cond-true (leb (kind_number r.kind) 3) _ _ (le-leb (kind_number r.kind) 3 (omega arith))) ∙ b.0);
      late = λ l. late_number r l b.0;
      blank = λ h. no_value r h d.0;
    }

-- ---- records that agree

pub same_sends : (p k m x : ℕ) (r q : Record) → Same r q → sends p k m x r ≡ sends p k m x q
unfolding sends
same_sends p k m x r q s =
    λ i. eqb (s.sender i) p && (eqb (kind_number (s.kind i)) k && (eqb (s.number i) m && eqb (s.value i) x))

pub same_posts : (p k m : ℕ) (r q : Record) → Same r q → posts p k m r ≡ posts p k m q
unfolding posts
same_posts p k m r q s = λ i. eqb (s.sender i) p && (eqb (kind_number (s.kind i)) k && eqb (s.number i) m)
