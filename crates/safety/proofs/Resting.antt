-- What a rule has to show of the records that it sends and the fields that it leaves. Assumes nothing.
use Rattle.std.proofs.Common.{◌≡◌, ℕ, ◌+◌, ◌-◌, ◌*◌, ◌≤◌, false, ◌++◌, sym, refl, inr}
use Rattle.std.specs.List.{AllByRecursion}
use Rattle.committee.specs.declared.membership.Committee.{Committee}
use Rattle.committee.specs.Sets.{of_bits}
use Rattle.committee.specs.Views.{epoch_of, view_of}
use Rattle.wire.specs.declared.record.Record.{Record}
use Rattle.wire.specs.Kinds.{kind_number}
use Rattle.wire.specs.Shares.{statement}
use Rattle.protocol.specs.declared.process.Synchronizer.{Synchronizer}
use Rattle.protocol.specs.declared.process.ViewCore.{ViewCore}
use Rattle.protocol.specs.declared.process.Process.{Process}
use Rattle.protocol.specs.Processes.{idle, with_core}
use Rattle.agreement.specs.Wires.{Wire, Entered}
use Rattle.agreement.specs.Facts.{Formed, Lawful}
use Rattle.agreement.specs.Signing.{Quorum}
use Rattle.agreement.proofs.Growth.{Below, quorum_more}
use Rattle.safety.specs.Ties.{Past, Advances, Tied}
use Rattle.safety.proofs.Sending.{past_own, told_own, locked_own, last_own}

-- a record that a correct process may append
pub record Ready (c : Committee) (leader : ℕ → ℕ) (ws : Wire) (p : ℕ) (r : Record) : Type 0 where
  pub formed : Formed c r
  pub sender : r.sender ≡ p
  pub new : r.heeded ≡ of_bits 0
  pub lawful : Lawful c leader ws r

-- the ties to what the synchronizer, the view and the decision say
pub record Rest (c : Committee) (ws : Wire) (p : ℕ) (y : Synchronizer) (view decided : ℕ) : Type 0 where
  pub armed : 1 ≤ y.due
      → (y.spread ≡ 0) × (view ≡ view_of c.f y.epoch y.place) × ((v : ℕ) → 1 ≤ v → epoch_of c.f v ≡ y.epoch → v ≤ view → Entered ws p v)
  pub spreading : 1 ≤ y.spread → view ≤ (y.epoch - 1) * (c.f + 1)
  pub within : view ≤ y.epoch * (c.f + 1)
  pub reached : (e : ℕ) → 1 ≤ e → y.epoch ≡ e + 1 → Quorum c ws (statement 3 e 0)
  pub chosen : 1 ≤ decided → (v : ℕ) × Quorum c ws (statement 6 v decided)

pub rest_of : (c : Committee) (ws : Wire) (p : ℕ) (q : Process) → Tied c ws p q → Rest c ws p q.synchronizer q.core.view q.core.decided
rest_of c ws p q t =
    record { armed = t.armed; spreading = t.spreading; within = t.within; reached = t.reached; chosen = t.chosen }

pub rest_more : (c : Committee) (ws vs : Wire) (b : Below ws vs) (p : ℕ) (y : Synchronizer) (view decided : ℕ) → Rest c ws p y view decided → Rest c vs p y view decided
rest_more c ws vs b p y view decided t =
    record {
      armed = λ h. let a = t.armed h in (a.0, a.1, λ v i j k. b.entered p v (a.2 v i j k));
      spreading = t.spreading;
      within = t.within;
      reached = λ e l i. quorum_more c ws vs b (statement 3 e 0) (t.reached e l i);
      chosen = λ h. let d = t.chosen h in (d.0, quorum_more c ws vs b (statement 6 d.0 decided) d.1);
    }

-- a step that takes no lock
pub tie : (c : Committee) (ws rs : Wire) (p : ℕ) (q u : Process) → Tied c ws p q → Advances q u
    → AllByRecursion (λ r. Past u (kind_number r.kind) r.number) rs
    → (idle q.certification.phase ≡ false → u.certification.proposal ≡ q.certification.proposal)
    → AllByRecursion (λ r. kind_number r.kind ≡ 1 → r.value ≡ u.certification.proposal) rs
    → u.core.locked ≡ q.core.locked → AllByRecursion (λ r. kind_number r.kind ≡ 12 → ⊥) rs
    → Rest c (ws ++ rs) p u.synchronizer u.core.view u.core.decided → Tied c (ws ++ rs) p u
tie c ws rs p q u t o now stays told lock none rest =
    record {
      past = past_own c ws rs p q u t o now;
      told = told_own c ws rs p q u t stays told;
      locked = locked_own c ws rs p q u t lock;
      last = last_own c ws rs p q u t lock none;
      armed = rest.armed;
      spreading = rest.spreading;
      within = rest.within;
      reached = rest.reached;
      chosen = rest.chosen;
    }

-- only the view core changes, and the view stays
pub advances_core : (q : Process) (k : ViewCore) → k.view ≡ q.core.view → q.core.step ≤ k.step → q.core.lead ≤ k.lead → Advances q (with_core k q)
advances_core q k e a b =
    record { proposed = λ h. h; runs = λ h. h; allowed = λ h. h; epoch = inr (refl, λ h. h, λ h _. h); view = inr (sym e, a, b) }
