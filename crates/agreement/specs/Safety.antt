-- What holds of every wire on which the facts hold. Assumes nothing.
--   Safe c leader ws   no two decisions differ, a decision is for what was disclosed, epochs are gone through in order, and words are few
--   Agreement          the theorem: where the facts hold, so does all this
use Rattle.std.specs.Prelude.{◌≡◌, ℕ, ◌+◌, ◌*◌, ◌<◌, ◌≤◌, Bool, true}
use Rattle.counting.specs.Counts.{count_to}
use Rattle.committee.specs.declared.membership.Committee.{Committee}
use Rattle.committee.specs.Thresholds.{weak_quorum_of}
use Rattle.committee.specs.Views.{epoch_of}
use Rattle.wire.specs.Shares.{statement}
use Rattle.agreement.specs.Wires.{Wire, Correct, Sent, Entered}
use Rattle.agreement.specs.Signing.{Quorum, Certified}
use Rattle.agreement.specs.Words.{words_in}
use Rattle.agreement.specs.Facts.{Facts}

pub record Safe (c : Committee) (leader : ℕ → ℕ) (ws : Wire) : Type 0 where
  -- once a view has decided x, no later view prepares another value
  pub lock : (v u x y : ℕ) → v < u → Quorum c ws (statement 6 v x) → Quorum c ws (statement 4 u y) → y ≡ x
  -- no two decisions differ
  pub decided : (v u x y : ℕ) → Quorum c ws (statement 6 v x) → Quorum c ws (statement 6 u y) → x ≡ y
  -- what is prepared is certified
  pub certified : (v x : ℕ) → Quorum c ws (statement 4 v x) → Certified c ws x
  -- where all that correct processes have disclosed is w, nothing but w is decided
  pub sound : (v x w : ℕ) → ((q y : ℕ) → Correct c q → Sent ws q 1 0 y → y ≡ w) → Quorum c ws (statement 6 v x) → x ≡ w
  -- of an epoch that a quorum has completed, a weak quorum of correct processes has entered each view, and completed it
  pub epochs : (e : ℕ) → Quorum c ws (statement 3 e 0)
      → (s : ℕ → Bool) × (weak_quorum_of c ≤ count_to s 31)
      × ((p : ℕ) → s p ≡ true → Correct c p × (p < c.n) × Sent ws p 4 e 0 × ((v : ℕ) → 1 ≤ v → epoch_of c.f v ≡ e → Entered ws p v))
  -- words of certification, and of an epoch
  pub first : words_in c 0 ws ≤ 3 * (c.n * c.n)
  pub each : (e : ℕ) → 1 ≤ e → words_in c e ws ≤ 2 * (c.n * c.n) + 8 * (c.n * (c.f + 1))

abbrev pub Agreement : Type 0
Agreement = (c : Committee) (leader : ℕ → ℕ) (ws : Wire) → Facts c leader ws → Safe c leader ws
