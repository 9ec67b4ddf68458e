-- What a certificate that holds says of the wire, where the register holds just what the records sign. Assumes nothing.
use Rattle.std.proofs.Common.{◌≡◌, ℕ, zero, suc, ◌<◌, ◌≤◌, Bool, true, cond, ◌&&◌, ◌||◌, eqb, ltb, List, [], ◌∷◌, length, get_or, None, sym, refl, ap, ◌∙◌, inl, inr, le_trans, arith}
use Rattle.std.proofs.lemmas.Bool.{leb-true, lt-ltb, le-ltb, cases_lt, cases_eq, eq-eqb, ne_eqb, cond-true, cond-false, false≢true, or_cases, or_left, or_right, and_parts, and_from, eqb-true}
use Rattle.counting.specs.Counts.{any}
use Rattle.counting.proofs.Sums.{count_same, sum-le}
use Rattle.committee.specs.declared.membership.Committee.{Committee}
use Rattle.committee.specs.Thresholds.{quorum_of, weak_quorum_of}
use Rattle.register.specs.declared.pair.Statement.{Statement}
use Rattle.register.specs.Pairs.{same_statement}
use Rattle.register.specs.Distinct.{seen}
use Rattle.wire.specs.declared.kind.Kind.{Kind}
use Rattle.wire.specs.declared.kind.Kind.TheVariants.{Disclose, AllowAny, Certificate, EpochCompleted, EnterEpoch, ViewChange, Prepare, PrepareVote, Precommit, PrecommitVote, Commit, CommitVote, Decide}
use Rattle.wire.specs.declared.vouch.Vouch.{Vouch}
use Rattle.wire.specs.declared.vouch.Vouch.TheVariants.{Nothing, Disclosed, Any}
use Rattle.wire.specs.declared.record.Record.{Record}
use Rattle.wire.specs.declared.claim.Claim.{Claim}
use Rattle.wire.specs.declared.claim.Claim.TheVariants as claim
use Rattle.wire.specs.Kinds.{kind_number}
use Rattle.wire.specs.Shares.{statement, share_by}
use Rattle.wire.specs.Claims.{vouched, prepared, claim_by, claim_of, claim_holds}
use Rattle.wire.specs.Heeding.{is_heeded}
use Rattle.protocol.specs.Moments.{Signed}
use Rattle.protocol.specs.Plans.{asked, from_senders}
use Rattle.agreement.specs.Wires.{Wire}
use Rattle.agreement.specs.Facts.{Backed}
use Rattle.agreement.specs.Signing.{is_share, signs, signers, Quorum, Certified}
use Rattle.agreement.proofs.Elements.{any-from, all-unit, test_le}
use Rattle.safety.specs.Kept.{Matches}

module _ (z : Signed) (ws : Wire) (e : Matches z ws) where
  pub signed_enough : (s : Statement) (k : ℕ) → claim_holds (claim.Signed s k) z.has ≡ true → k ≤ signers ws s
  signed_enough s k h = omega (arith, leb-true k _ h, count_same (λ p. z.has p s) (λ p. any (signs p s) ws) 31 (λ p _. e p s))

  -- a claim by a vouch
  pub vouched-certified : (c : Committee) (w : Vouch) (x : ℕ) → claim_holds (vouched c w x) z.has ≡ true → Certified c ws x
  vouched-certified c Nothing x h = absurd (false≢true h)
  vouched-certified c Disclosed x h = inl (signed_enough (statement 1 0 x) (weak_quorum_of c) h)
  vouched-certified c Any x h = inr (signed_enough (statement 2 0 0) (weak_quorum_of c) h)

  -- a claim by an earlier view
  pub prepared_earlier : (c : Committee) (v b x : ℕ) → claim_holds (prepared c v b x) z.has ≡ true → (b < v) × Quorum c ws (statement 4 b x)
  prepared_earlier c v b x h =
      elim (cases_lt b v) [
        | inl l ↦ (
          l,
          signed_enough (statement 4 b x) (quorum_of c)
              (ap (λ (k : Claim). claim_holds k z.has) (sym (cond-true (ltb b v) (claim.Signed (statement 4 b x) (quorum_of c)) claim.Never (lt-ltb b v l))) ∙ h),
        )
        | inr l ↦
            absurd (false≢true (ap (λ (k : Claim). claim_holds k z.has) (sym (cond-false (ltb b v) (claim.Signed (statement 4 b x) (quorum_of c)) claim.Never (le-ltb b v l))) ∙ h))
      ]

  -- PREPARE: its value may be voted for, and where a view backs it, that view prepared it
  pub proposal-backed : (c : Committee) (r : Record) → r.kind ≡ Prepare → claim_holds (claim_of c r) z.has ≡ true
      → Backed c ws r.number r.value × (1 ≤ r.back → (r.back < r.number) × Quorum c ws (statement 4 r.back r.value))
  proposal-backed c r kind h =
      let by = λ (k : Claim). claim_holds k z.has in
      let bare = ap (λ (k : Kind). by (claim_by k c r)) (sym kind) ∙ h in
      elim (cases_eq r.back 0) [
        | inl i ↦
            (inl (vouched-certified c r.vouch r.value (ap by (sym (cond-true (eqb r.back 0) _ _ (eq-eqb r.back 0 i))) ∙ bare)), λ l. absurd (omega (arith, i)))
        | inr i ↦
            let earlier = prepared_earlier c r.number r.back r.value (ap by (sym (cond-false (eqb r.back 0) _ _ (ne_eqb r.back 0 i))) ∙ bare) in
            (inr (r.back, omega (arith, i), earlier.0, earlier.1), λ _. earlier)
      ]

  -- the kinds that claim a quorum of one statement
  pub quorum_claimed : (c : Committee) (r : Record) (k : Kind) (s : Statement) → r.kind ≡ k → claim_by k c r ≡ claim.Signed s (quorum_of c)
      → claim_holds (claim_of c r) z.has ≡ true → Quorum c ws s
  quorum_claimed c r k s kind is h =
      signed_enough s (quorum_of c) (sym (ap (λ (j : Kind). claim_holds (claim_by j c r) z.has) kind ∙ ap (λ (x : Claim). claim_holds x z.has) is) ∙ h)

-- ---- EPOCH-COMPLETED from a quorum

completed_kind : (k : Kind) → kind_number k ≡ 4 → k ≡ EpochCompleted
completed_kind EpochCompleted e = refl
completed_kind Disclose e = absurd (omega arith)
completed_kind AllowAny e = absurd (omega arith)
completed_kind Certificate e = absurd (omega arith)
completed_kind EnterEpoch e = absurd (omega arith)
completed_kind ViewChange e = absurd (omega arith)
completed_kind Prepare e = absurd (omega arith)
completed_kind PrepareVote e = absurd (omega arith)
completed_kind Precommit e = absurd (omega arith)
completed_kind PrecommitVote e = absurd (omega arith)
completed_kind Commit e = absurd (omega arith)
completed_kind CommitVote e = absurd (omega arith)
completed_kind Decide e = absurd (omega arith)

same_self : (s : Statement) → same_statement s s ≡ true
same_self s = and_from _ _ (eq-eqb s.kind s.kind refl) (and_from _ _ (eq-eqb s.number s.number refl) (eq-eqb s.value s.value refl))

completes : (q e : ℕ) (r : Record) → r.sender ≡ q → r.kind ≡ EpochCompleted → r.number ≡ e → signs q (statement 3 e 0) r ≡ true
unfolding signs
completes q e r a b n =
    and_from _ _ (eq-eqb r.sender q a)
    (ap (λ (k : Kind). is_share (share_by k r.number r.value) (statement 3 e 0)) b
    ∙ ap (λ (m : ℕ). same_statement (statement 3 m 0) (statement 3 e 0)) n ∙ same_self (statement 3 e 0))

any_at : {X : Type 0} (t : X → Bool) (xs : List X) (i : ℕ) (d : X) → i < length xs → t (get_or xs i d) ≡ true → any t xs ≡ true
unfolding any
any_at t [] i d l e = absurd (omega arith)
any_at t (x ∷ xs) zero d l e = or_left (t x) (any t xs) e
any_at t (x ∷ xs) (suc i) d l e = or_right (t x) (any t xs) (any_at t xs i d (omega arith) e)

pub completed_quorum : (c : Committee) (ws : Wire) (p i : ℕ) (d : Record) → i < length ws → (get_or ws i d).kind ≡ EpochCompleted
    → quorum_of c ≤ from_senders (asked p (get_or ws i d) None) (get_or ws i d).sender ws → Quorum c ws (statement 3 (get_or ws i d).number 0)
completed_quorum c ws p i d l kind enough =
    let r = get_or ws i d in
    let h = asked p r None in
    le_trans enough
    (sum-le (λ q. cond (eqb r.sender q || seen (λ x. x.sender) (is_heeded h) ws q) 1 0) (λ q. cond (any (signs q (statement 3 r.number 0)) ws) 1 0) 31
    (λ q _. test_le (eqb r.sender q || seen (λ x. x.sender) (is_heeded h) ws q) (any (signs q (statement 3 r.number 0)) ws)
    (λ e. elim (or_cases (eqb r.sender q) (seen (λ x. x.sender) (is_heeded h) ws q) e) [
      | inl j ↦ any_at (signs q (statement 3 r.number 0)) ws i d l (completes q r.number r (eqb-true r.sender q j) kind refl)
      | inr j ↦
          any-from (λ x. Unit {0}) (λ x. eqb x.sender q && is_heeded h x) (signs q (statement 3 r.number 0)) ws (all-unit ws)
          (λ x _ t.
          let a = and_parts (eqb x.sender q) (is_heeded h x) t in
          let b = and_parts _ _ a.1 in
          let g = and_parts (eqb (kind_number x.kind) (kind_number r.kind)) _ b.1 in
          let n = and_parts (eqb x.number r.number) _ g.1 in
          completes q r.number x (eqb-true x.sender q a.0)
          (completed_kind x.kind (eqb-true (kind_number x.kind) (kind_number r.kind) g.0 ∙ ap kind_number kind)) (eqb-true x.number r.number n.0)) j
    ])))
