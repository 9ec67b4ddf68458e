-- Propose, tick, expire and inject keep everything. Assumes nothing.
use Rattle.std.proofs.Common.{◌≡◌, ℕ, ◌+◌, ◌<◌, ◌≤◌, true, false, not, eqb, ltb, [], ◌∷◌, ◌++◌, length, Some, None, Ok, Option, Result, refl, inl, inr, arith}
use Rattle.std.proofs.lemmas.Bool.{cond_both, cond-true, cond-false, and_parts, ltb-true, ltb-false, not-false, cases_Bool, both_ways, false≢true}
use Rattle.refusals.specs.declared.causes.Refusal.{Refusal}
use Rattle.committee.specs.declared.membership.Committee.{Committee}
use Rattle.wire.specs.declared.kind.Kind.{Kind}
use Rattle.wire.specs.declared.kind.Kind.TheVariants.{Disclose, EpochCompleted, EnterEpoch}
use Rattle.wire.specs.declared.vouch.Vouch.{Vouch}
use Rattle.wire.specs.Kinds.{kind_of, vouch_of}
use Rattle.wire.specs.Ranges.{in_range}
use Rattle.protocol.specs.declared.process.Phase.{Phase}
use Rattle.protocol.specs.declared.process.Phase.TheVariants.{Idle, Certifying, Running}
use Rattle.protocol.specs.declared.draft.Draft.{Draft}
use Rattle.protocol.specs.declared.process.Process.{Process}
use Rattle.protocol.specs.declared.step.Step.{Step}
use Rattle.protocol.specs.Processes.{idle, running}
use Rattle.protocol.specs.Ranges.{between, last_tick, process_fits}
use Rattle.protocol.specs.Sending.{sent, to_all, view_change}
use Rattle.protocol.specs.Steps.{moves_on, moves}
use Rattle.protocol.specs.Certifying.{proposes}
use Rattle.protocol.specs.Synchronizing.{last_place, view_here, entered, timer_off, spread_off, on_spread_expiry}
use Rattle.protocol.specs.Moments.{Moment, played}
use Rattle.protocol.specs.Plans.{seat, used_of, is_faulty, later, tick_plan, propose_plan, is_due, deadline_of, at_end, view_expiry, spread_expiry, expire_plan, drafted, injecting, inject_plan}
use Rattle.agreement.specs.Wires.{Wire, Correct}
use Rattle.agreement.proofs.Records.{formed}
use Rattle.safety.specs.Ties.{Tied, Capped}
use Rattle.safety.specs.Kept.{committee_of, Kept, Good, Room}
use Rattle.safety.proofs.Fitting.{runs_stand, waits_stand, size_is, seat-fits}
use Rattle.safety.proofs.Keeping.{but, kept_done}
use Rattle.safety.proofs.Receiving.{sendable}
use Rattle.safety.proofs.Certifying.{propose_ready, propose_tied}
use Rattle.safety.proofs.Synchronizing.{tick_tied, next_ready, next_tied, complete_ready, complete_tied, enter_ready, first_ready, enter_tied}
use Rattle.safety.proofs.Moves.{known_kept, roomy-kept, not_correct, correct}

-- a step that marks nothing
carry : (leader : ℕ → ℕ) (m : Moment) (p : ℕ) (z : Step) → Kept leader m → p < (committee_of m).n → Good (committee_of m) leader (used_of m) p z.process z.first z.second
    → (Correct (committee_of m) p → Capped (committee_of m) (used_of m) p z.process) → Room m z.first → Kept leader (played (Ok z) p m)
carry leader m p z k member good cap room = kept_done leader p m z.process (but leader p m k) member cap z.first z.second good room

idle-waits : (s : Phase) → idle s ≡ true → running s ≡ false
idle-waits Idle h = refl
idle-waits Certifying h = refl
idle-waits Running h = absurd (false≢true h)

pub tick_kept : (leader : ℕ → ℕ) (n : ℕ) (m : Moment) (p t : ℕ) → Kept leader m → Kept leader (played (tick_plan n m p t) p m)
tick_kept leader n m p t k =
    let P : Result Step Refusal → Type 0 = λ x. Kept leader (played x p m) in
    let q = seat m.table p in
    known_kept P n m p _ (λ _. k)
    (λ fits member. cond_both (is_faulty m p) _ _ P (λ _. k)
    (λ good.
    let ok = correct m p good in
    cond_both (not (between 1 t 1000000)) _ _ P (λ _. k)
    (λ _. cond_both (ltb last_tick (q.synchronizer.clock + t)) _ _ P (λ _. k)
    (λ _. carry leader m p (moves_on (later q t)) k member (λ _. tick_tied (committee_of m) (used_of m) p q t (k.tied p member ok)) (λ _. k.capped p member ok) tt))))

pub propose_kept : (leader : ℕ → ℕ) (n room : ℕ) (m : Moment) (p x : ℕ) → Kept leader m → Kept leader (played (propose_plan n room m p x) p m)
propose_kept leader n room m p x k =
    let P : Result Step Refusal → Type 0 = λ y. Kept leader (played y p m) in
    let q = seat m.table p in
    let s = m.table.setting in
    let c = committee_of m in
    known_kept P n m p _ (λ _. k)
    (λ fits member. cond_both (is_faulty m p) _ _ P (λ _. k)
    (λ good.
    let ok = correct m p good in
    let t = k.tied p member ok in
    cond_both (eqb x 0) _ _ P (λ _. k)
    (λ _. cond_both (not (idle q.certification.phase)) _ _ P (λ _. k)
    (λ rests. roomy-kept P room m _ (λ _. k)
    (λ free.
    let still = not-false _ rests in
    carry leader m p (proposes s q p x) k member
    (sendable c leader (used_of m) p (to_all c p Disclose 0 x) (propose_ready s leader (used_of m) p q t member x still), λ _. propose_tied s leader (used_of m) p q t member x still)
    (λ _ _. k.capped p member ok (idle-waits _ still)) free)))))

-- ---- expire

module _ (leader : ℕ → ℕ) (m : Moment) (p : ℕ) (k : Kept leader m) (member : p < (committee_of m).n) (ok : Correct (committee_of m) p) (led : (v : ℕ) → leader v < (committee_of m).n)
    (fits : process_fits (committee_of m).f (seat m.table p) ≡ true) (free : m.table.used + 2 ≤ length m.wire) where
  abbrev c : Committee
  c = committee_of m

  abbrev q : Process
  q = seat m.table p

  tie : Tied c (used_of m) p q
  tie = k.tied p member ok

  -- a timer runs only while the process does
  runs : (d : ℕ) → 1 ≤ d → (running q.certification.phase ≡ false → d ≡ 0) → running q.certification.phase ≡ true
  runs d on off = elim (cases_Bool (running q.certification.phase)) [ inl e ↦ e | inr e ↦ absurd (omega (arith, off e)) ]

  busy : (ws : Wire) (u : Process) → running u.certification.phase ≡ true → Correct c p → Capped c ws p u
  busy ws u h _ rests = absurd (both_ways _ rests h)

  pub view_expiry_kept : 1 ≤ q.synchronizer.due → Kept leader (played (view_expiry leader m.table p) p m)
  view_expiry_kept on =
      let P : Result Step Refusal → Type 0 = λ y. Kept leader (played y p m) in
      let S : Step → Type 0 = λ z. Kept leader (played (Ok z) p m) in
      let s = m.table.setting in
      let going = runs q.synchronizer.due on (λ e. (waits_stand c.f q fits e).due) in
      let stands = runs_stand c.f q fits going in
      let v = view_here s q (q.synchronizer.place + 1) in
      cond_both (at_end s q) _ _ P (λ _. k)
      (λ _. cond_both (ltb q.synchronizer.place (last_place s)) _ _ S
      (λ e.
      let l = ltb-true q.synchronizer.place (last_place s) e in
      carry leader m p (moves (entered s q (q.synchronizer.place + 1)) (view_change (leader v) p v q.core)) k member (
        sendable c leader (used_of m) p (view_change (leader v) p v q.core) (next_ready s leader (used_of m) p q tie member (leader v) (led v) on),
        λ _. next_tied s leader (used_of m) p q tie member (leader v) on stands.epoch l,
      )
      (busy (used_of m) (entered s q (q.synchronizer.place + 1)) going) free)
      (λ e.
      let l = ltb-false q.synchronizer.place (last_place s) e in
      carry leader m p (moves (timer_off q) (to_all c p EpochCompleted q.synchronizer.epoch 0)) k member (
        sendable c leader (used_of m) p (to_all c p EpochCompleted q.synchronizer.epoch 0)
            (complete_ready s leader (used_of m) p q tie member on stands.epoch (omega (arith, stands.place.1))),
        λ _. complete_tied s leader (used_of m) p q tie member on,
      )
      (busy (used_of m) (timer_off q) going) free))

  pub spread_expiry_kept : 1 ≤ q.synchronizer.spread → Kept leader (played (Ok (spread_expiry leader m.table p)) p m)
  spread_expiry_kept on =
      let s = m.table.setting in
      let going = runs q.synchronizer.spread on (λ e. (waits_stand c.f q fits e).spread) in
      let stands = runs_stand c.f q fits going in
      let l = leader (view_here s q 1) in
      carry leader m p (on_spread_expiry s q p l) k member (
        sendable c leader (used_of m) p (to_all c p EnterEpoch q.synchronizer.epoch 0) (enter_ready s leader (used_of m) p q tie member on stands.epoch),
        sendable c leader (used_of m ++ (to_all c p EnterEpoch q.synchronizer.epoch 0 ∷ [])) p (view_change l p (view_here s q 1) q.core)
            (first_ready s leader (used_of m) p q tie member l (led (view_here s q 1)) on),
        λ _. enter_tied s leader (used_of m) p q tie member l on stands.epoch,
      )
      (busy (used_of m) (entered s (spread_off q) 1) going) free

pub expire_kept : (leader : ℕ → ℕ) (n room : ℕ) (m : Moment) (p timer : ℕ) → Kept leader m → ((v : ℕ) → leader v < n) → Kept leader (played (expire_plan leader n room m p timer) p m)
expire_kept leader n room m p timer k leads =
    let P : Result Step Refusal → Type 0 = λ y. Kept leader (played y p m) in
    let q = seat m.table p in
    known_kept P n m p _ (λ _. k)
    (λ fits member.
    let led : (v : ℕ) → leader v < (committee_of m).n = λ v. omega (arith, leads v, size_is n m fits) in
    let seated = seat-fits n m fits p member k.seats in
    cond_both (is_faulty m p) _ _ P (λ _. k)
    (λ good.
    let ok = correct m p good in
    cond_both (not (between 1 timer 2)) _ _ P (λ _. k)
    (λ _. cond_both (not (is_due (deadline_of timer q) q.synchronizer.clock)) _ _ P (λ _. k)
    (λ due. roomy-kept P room m _ (λ _. k)
    (λ free.
    let armed = ltb-true 0 (deadline_of timer q) (and_parts (ltb 0 (deadline_of timer q)) _ (not-false _ due)).0 in
    cond_both (eqb timer 1) _ _ P
    (λ e. view_expiry_kept leader m p k member ok led seated free (omega (arith, armed, cond-true (eqb timer 1) q.synchronizer.due q.synchronizer.spread e)))
    (λ e. spread_expiry_kept leader m p k member ok led seated free (omega (arith, armed, cond-false (eqb timer 1) q.synchronizer.due q.synchronizer.spread e))))))))

-- ---- inject

pub inject_kept : (leader : ℕ → ℕ) (n room : ℕ) (m : Moment) (p : ℕ) (d : Draft) → Kept leader m → Kept leader (played (inject_plan n room m p d) p m)
inject_kept leader n room m p d k =
    let P : Result Step Refusal → Type 0 = λ y. Kept leader (played y p m) in
    let c = committee_of m in
    let q = seat m.table p in
    known_kept P n m p _ (λ _. k)
    (λ fits member. cond_both (not (is_faulty m p)) _ _ P (λ _. k)
    (λ bad. go (not_correct m p (not-false _ bad)) member (kind_of d.kind) (vouch_of d.vouch)))
  where
    go : (Correct (committee_of m) p → ⊥) → p < (committee_of m).n → (j : Option Kind) (w : Option Vouch) → Kept leader (played (injecting n room m p (drafted p d j w)) p m)
    go never member None w = k
    go never member (Some j) None = k
    go never member (Some j) (Some w) =
        let P : Result Step Refusal → Type 0 = λ y. Kept leader (played y p m) in
        let c = committee_of m in
        let r = sent d.to p j d.number d.value d.back w in
        cond_both (not (in_range c.n r)) _ _ P (λ _. k)
        (λ e. roomy-kept P room m _ (λ _. k)
        (λ free. carry leader m p (moves (seat m.table p) r) k member
        (record { formed = formed c r (not-false _ e); sender = refl; new = refl; lawful = λ h. absurd (never h) }, λ h. absurd (never h)) (λ h. absurd (never h)) free))
