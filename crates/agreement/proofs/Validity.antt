-- What is decided was disclosed, and what a completed epoch says. Assumes nothing.
use Rattle.std.proofs.Common.{◌≡◌, ℕ, zero, suc, ◌<◌, ◌≤◌, Bool, true, ◌&&◌, inl, inr, arith}
use Rattle.std.proofs.lemmas.Bool.{and_parts}
use Rattle.counting.specs.Counts.{any, count_to}
use Rattle.committee.specs.declared.membership.Committee.{Committee}
use Rattle.committee.specs.Thresholds.{weak_quorum_of, is_correct}
use Rattle.committee.specs.Views.{epoch_of}
use Rattle.committee.proofs.Quorums.{many_correct}
use Rattle.wire.specs.Shares.{statement}
use Rattle.agreement.specs.Wires.{Wire, Correct, Sent, Entered}
use Rattle.agreement.specs.Signing.{Quorum, Certified, signs}
use Rattle.agreement.specs.Facts.{Facts}
use Rattle.agreement.proofs.Shares.{signed_sent, signed_member}
use Rattle.agreement.proofs.Lock.{one_of, one_of_weak, decides}

module _ (c : Committee) (leader : ℕ → ℕ) (ws : Wire) (g : Facts c leader ws) where
  -- n is the bound by which views get less
  certified_by : (n v x : ℕ) → v ≤ n → Quorum c ws (statement 4 v x) → Certified c ws x
  certified_by zero v x l q =
      let r = one_of c leader ws g (statement 4 v x) q in
      elim (g.prepared r.0 v x r.1 r.2) [ inl h ↦ h | inr b ↦ absurd (omega (arith, b.2)) ]
  certified_by (suc n) v x l q =
      let r = one_of c leader ws g (statement 4 v x) q in
      elim (g.prepared r.0 v x r.1 r.2) [ inl h ↦ h | inr b ↦ certified_by n b.0 x (omega (arith, b.2)) b.3 ]

  pub certified : (v x : ℕ) → Quorum c ws (statement 4 v x) → Certified c ws x
  certified v x = certified_by v v x (omega arith)

  sound_certified : (x w : ℕ) → ((q y : ℕ) → Correct c q → Sent ws q 1 0 y → y ≡ w) → Certified c ws x → x ≡ w
  sound_certified x w all k =
      elim k [
        | inl n ↦ let r = one_of_weak c leader ws g (statement 1 0 x) n in all r.0 x r.1 r.2
        | inr n ↦ let r = one_of_weak c leader ws g (statement 2 0 0) n in absurd (g.allowed r.0 w r.1 r.2 all)
      ]

  pub sound : (v x w : ℕ) → ((q y : ℕ) → Correct c q → Sent ws q 1 0 y → y ≡ w) → Quorum c ws (statement 6 v x) → x ≡ w
  sound v x w all q = sound_certified x w all (certified v x (decides c leader ws g v x q))

  pub epochs : (e : ℕ) → Quorum c ws (statement 3 e 0)
      → (s : ℕ → Bool) × (weak_quorum_of c ≤ count_to s 31)
      × ((p : ℕ) → s p ≡ true → Correct c p × (p < c.n) × Sent ws p 4 e 0 × ((v : ℕ) → 1 ≤ v → epoch_of c.f v ≡ e → Entered ws p v))
  epochs e q = (
    (λ p. any (signs p (statement 3 e 0)) ws && is_correct c p),
    many_correct c (λ p. any (signs p (statement 3 e 0)) ws) q,
    (λ p t.
        let k = and_parts (any (signs p (statement 3 e 0)) ws) (is_correct c p) t in
        let done = signed_sent c ws g.formed p (statement 3 e 0) k.0 in
        (k.1, signed_member c ws g.formed p (statement 3 e 0) k.0, done, λ v. g.through p e v k.1 done)),
  )
