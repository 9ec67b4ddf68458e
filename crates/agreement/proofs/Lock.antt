-- Agreement: what one view has decided, no later view prepares against. Assumes nothing.
use Rattle.std.proofs.Common.{◌≡◌, ℕ, zero, suc, ◌<◌, ◌≤◌, ◌&&◌, sym, ◌∙◌, subst, inl, inr, arith}
use Rattle.std.proofs.lemmas.Bool.{cases_lt, cases_order, and_parts}
use Rattle.counting.specs.Counts.{any}
use Rattle.committee.specs.declared.membership.Committee.{Committee}
use Rattle.committee.specs.Thresholds.{weak_quorum_of, is_correct}
use Rattle.committee.proofs.Quorums.{quorums_meet, one_correct, many_correct}
use Rattle.register.specs.declared.pair.Statement.{Statement}
use Rattle.wire.specs.Shares.{statement}
use Rattle.agreement.specs.Wires.{Wire, Correct, Sent}
use Rattle.agreement.specs.Signing.{Signed, Quorum, signs, signers}
use Rattle.agreement.specs.Facts.{Facts}
use Rattle.agreement.proofs.Records.{one_value}
use Rattle.agreement.proofs.Shares.{signing_kind, signed_sent, signed_member}

module _ (c : Committee) (leader : ℕ → ℕ) (ws : Wire) (g : Facts c leader ws) where
  sent : (p : ℕ) (s : Statement) → Signed ws p s → Sent ws p (signing_kind s.kind) s.number s.value
  sent = signed_sent c ws g.formed

  -- a correct process in both of two quorums
  pub both : (s t : Statement) → Quorum c ws s → Quorum c ws t → (p : ℕ) × Correct c p × Signed ws p s × Signed ws p t
  both s t =
      quorums_meet c (λ p. any (signs p s) ws) (λ p. any (signs p t) ws)
      (λ p. signed_member c ws g.formed p s) (λ p. signed_member c ws g.formed p t)

  -- a correct process among a weak quorum of signers, and among a quorum; the record by which it signed
  pub one_of_weak : (s : Statement) → weak_quorum_of c ≤ signers ws s
      → (p : ℕ) × Correct c p × Sent ws p (signing_kind s.kind) s.number s.value
  one_of_weak s h = let r = one_correct c (λ p. any (signs p s) ws) h in (r.0, r.1, sent r.0 s r.2)

  pub one_of : (s : Statement) → Quorum c ws s → (p : ℕ) × Correct c p × Sent ws p (signing_kind s.kind) s.number s.value
  one_of s h =
      let r = one_correct c (λ p. any (signs p s) ws && is_correct c p) (many_correct c (λ p. any (signs p s) ws) h) in
      (r.0, r.1, sent r.0 s (and_parts (any (signs r.0 s) ws) (is_correct c r.0) r.2).0)

  -- what a correct process votes to commit, its view has prepared
  pub prepares : (p v x : ℕ) → Correct c p → Sent ws p 12 v x → Quorum c ws (statement 4 v x)
  prepares p v x h s =
      let r = one_of (statement 5 v x) (g.committed p v x h s) in
      g.precommitted r.0 v x r.1 r.2

  -- n is the bound by which views get less
  lock_by : (n v u x y : ℕ) → u ≤ n → v < u → Quorum c ws (statement 6 v x) → Quorum c ws (statement 4 u y) → y ≡ x
  lock_by zero v u x y l h a b = absurd (omega arith)
  lock_by (suc n) v u x y l h a b =
      let r = both (statement 6 v x) (statement 4 u y) a b in
      let p = r.0 in
      let s = sent p (statement 6 v x) r.2 in
      let k = g.locked p v x u y r.1 s (sent p (statement 4 u y) r.3) h in
      let same : k.1 ≡ x
      = elim (cases_lt v k.0) [
        | inl i ↦ lock_by n v k.0 x k.1 (omega (arith, k.3)) i a (prepares p k.0 k.1 r.1 k.4)
        | inr i ↦
            let e : k.0 ≡ v = omega (arith, k.2) in
            one_value p 12 v k.1 x ws (g.single p 12 v r.1) (subst (λ (w : ℕ). Sent ws p 12 w k.1) e k.4) s
      ] in
      elim k.5 [
        | inl e ↦ e ∙ same
        | inr q ↦ lock_by n v q.0 x y (omega (arith, q.2)) (omega (arith, k.2, q.1)) a q.3
      ]

  pub lock : (v u x y : ℕ) → v < u → Quorum c ws (statement 6 v x) → Quorum c ws (statement 4 u y) → y ≡ x
  lock v u x y = lock_by u v u x y (omega arith)

  -- what is decided in a view was prepared there
  pub decides : (v x : ℕ) → Quorum c ws (statement 6 v x) → Quorum c ws (statement 4 v x)
  decides v x q = let r = one_of (statement 6 v x) q in prepares r.0 v x r.1 r.2

  pub decided : (v u x y : ℕ) → Quorum c ws (statement 6 v x) → Quorum c ws (statement 6 u y) → x ≡ y
  decided v u x y a b =
      elim (cases_order v u) [
        | inl e ↦
            let r = both (statement 6 v x) (statement 6 v y) a (subst (λ (w : ℕ). Quorum c ws (statement 6 w y)) (sym e) b) in
            one_value r.0 12 v x y ws (g.single r.0 12 v r.1) (sent r.0 (statement 6 v x) r.2) (sent r.0 (statement 6 v y) r.3)
        | inr o ↦ elim o [ inl l ↦ sym (lock v u x y l a (decides u y b)) | inr l ↦ lock u v y x l b (decides v x a) ]
      ]
