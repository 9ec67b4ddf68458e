-- What ties the fields of a correct process to what it has sent. Assumes nothing.
--   Past q k m        a process with the fields q may have sent a record of the kind with number k and the number m
--   Advances q u      how far a process has come: what no move undoes
--   Tied c ws p q     process p, with the fields q, has sent what its fields say, and no more
--   Capped c ws p q   until it runs, no value has a weak quorum among the disclosures that it has heeded
use Rattle.std.specs.Prelude.{◌≡◌, ℕ, ◌+◌, ◌-◌, ◌*◌, ◌<◌, ◌≤◌, true, false, ◌⊎◌}
use Rattle.counting.specs.Counts.{any, count_to}
use Rattle.committee.specs.declared.membership.Committee.{Committee}
use Rattle.committee.specs.Thresholds.{weak_quorum_of}
use Rattle.committee.specs.Views.{epoch_of, view_of}
use Rattle.wire.specs.Shares.{statement}
use Rattle.protocol.specs.declared.process.Process.{Process}
use Rattle.protocol.specs.Processes.{idle, running}
use Rattle.agreement.specs.Wires.{Wire, Sent, Entered, posts, heard_of}
use Rattle.agreement.specs.Signing.{Quorum}

-- a record of a view that is not past, and the step or lead that goes with it
abbrev pub Reached : ℕ → ℕ → ℕ → ℕ → Type 0
Reached m view least level = (m ≤ view) × (m ≡ view → least ≤ level)

pub record Past (q : Process) (k m : ℕ) : Type 0 where
  pub disclosed : k ≡ 1 → idle q.certification.phase ≡ false
  pub allowed : k ≡ 2 → q.certification.allowed ≡ true
  pub certified : k ≡ 3 → running q.certification.phase ≡ true
  pub completed : k ≡ 4 → (m ≤ q.synchronizer.epoch) × (m ≡ q.synchronizer.epoch → (q.synchronizer.due ≡ 0) × (q.synchronizer.spread ≡ 0))
  pub entered : k ≡ 5 → (m ≤ q.synchronizer.epoch) × (m ≡ q.synchronizer.epoch → q.synchronizer.spread ≡ 0)
  pub viewed : k ≡ 6 → m ≤ q.core.view
  pub prepare : k ≡ 7 → Reached m q.core.view 1 q.core.lead
  pub prepared : k ≡ 8 → Reached m q.core.view 1 q.core.step
  pub precommit : k ≡ 9 → Reached m q.core.view 2 q.core.lead
  pub precommitted : k ≡ 10 → Reached m q.core.view 2 q.core.step
  pub commit : k ≡ 11 → Reached m q.core.view 3 q.core.lead
  pub committed : k ≡ 12 → Reached m q.core.view 3 q.core.step
  pub decide : k ≡ 13 → Reached m q.core.view 4 q.core.lead

pub record Advances (q u : Process) : Type 0 where
  pub proposed : idle q.certification.phase ≡ false → idle u.certification.phase ≡ false
  pub runs : running q.certification.phase ≡ true → running u.certification.phase ≡ true
  pub allowed : q.certification.allowed ≡ true → u.certification.allowed ≡ true
  pub epoch : (q.synchronizer.epoch < u.synchronizer.epoch)
      ⊎ ((q.synchronizer.epoch ≡ u.synchronizer.epoch)
      × (q.synchronizer.spread ≡ 0 → u.synchronizer.spread ≡ 0)
      × (q.synchronizer.due ≡ 0 → q.synchronizer.spread ≡ 0 → u.synchronizer.due ≡ 0))
  pub view : (q.core.view < u.core.view) ⊎ ((q.core.view ≡ u.core.view) × (q.core.step ≤ u.core.step) × (q.core.lead ≤ u.core.lead))

pub record Tied (c : Committee) (ws : Wire) (p : ℕ) (q : Process) : Type 0 where
  pub past : (k m : ℕ) → any (posts p k m) ws ≡ true → Past q k m
  pub told : (x : ℕ) → Sent ws p 1 0 x → x ≡ q.certification.proposal
  -- the lock is the last commit vote
  pub locked : 1 ≤ q.core.locked.view → Sent ws p 12 q.core.locked.view q.core.locked.value
  pub last : (v x : ℕ) → Sent ws p 12 v x → v ≤ q.core.locked.view
  -- while the view timer runs, the view is that of epoch and place, and each view of the epoch up to it was entered
  pub armed : 1 ≤ q.synchronizer.due
      → (q.synchronizer.spread ≡ 0)
      × (q.core.view ≡ view_of c.f q.synchronizer.epoch q.synchronizer.place)
      × ((v : ℕ) → 1 ≤ v → epoch_of c.f v ≡ q.synchronizer.epoch → v ≤ q.core.view → Entered ws p v)
  -- while the spread timer runs, no view of the epoch was entered
  pub spreading : 1 ≤ q.synchronizer.spread → q.core.view ≤ (q.synchronizer.epoch - 1) * (c.f + 1)
  pub within : q.core.view ≤ q.synchronizer.epoch * (c.f + 1)
  -- an epoch is reached by a quorum that has completed the one before, and a decision by a quorum of commit votes
  pub reached : (e : ℕ) → 1 ≤ e → q.synchronizer.epoch ≡ e + 1 → Quorum c ws (statement 3 e 0)
  pub chosen : 1 ≤ q.core.decided → (v : ℕ) × Quorum c ws (statement 6 v q.core.decided)

abbrev pub Capped : Committee → Wire → ℕ → Process → Type 0
Capped c ws p q = running q.certification.phase ≡ false → (w : ℕ) → count_to (heard_of ws p w) 31 < weak_quorum_of c
