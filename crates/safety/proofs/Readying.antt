-- What a move sends comes from the process that moves, finds room, and at most its first record is signed. Assumes nothing.
use Rattle.std.proofs.Common.{◌≡◌, ℕ, ◌+◌, ◌<◌, min, Bool, false, not, ◌&&◌, eqb, ltb, leb, length, Some, None, Ok, Err, Option, Result, refl, arith, length-set}
use Rattle.std.proofs.lemmas.Bool.{cond_both, or_parts, leb-false, ltb-false, eqb-false}
use Rattle.refusals.specs.declared.causes.Refusal.{Refusal}
use Rattle.committee.specs.Thresholds.{quorum_of, weak_quorum_of, disclosure_quorum_of}
use Rattle.wire.specs.declared.kind.Kind.{Kind}
use Rattle.wire.specs.declared.kind.Kind.TheVariants.{Disclose, AllowAny, Certificate, EpochCompleted, EnterEpoch, ViewChange, Prepare, PrepareVote, Precommit, PrecommitVote, Commit, CommitVote, Decide}
use Rattle.wire.specs.declared.vouch.Vouch.{Vouch}
use Rattle.wire.specs.declared.record.Record.{Record}
use Rattle.wire.specs.Kinds.{kind_of, vouch_of}
use Rattle.wire.specs.Ranges.{in_range}
use Rattle.protocol.specs.declared.ballot.Ballot.{Ballot}
use Rattle.protocol.specs.declared.ballot.Ballot.TheVariants as ballot
use Rattle.protocol.specs.declared.board.Setting.{Setting}
use Rattle.protocol.specs.declared.draft.Draft.{Draft}
use Rattle.protocol.specs.declared.process.Mark.{Mark}
use Rattle.protocol.specs.declared.process.Process.{Process}
use Rattle.protocol.specs.declared.step.Step.{Step}
use Rattle.protocol.specs.Processes.{idle}
use Rattle.protocol.specs.Ranges.{between, last_tick}
use Rattle.protocol.specs.Sending.{sent}
use Rattle.protocol.specs.Certifying.{on_disclose, on_allow_any, on_certificate}
use Rattle.protocol.specs.Synchronizing.{last_place, view_here, on_view_expiry, on_epoch_completed, on_enter_epoch}
use Rattle.protocol.specs.Voting.{unlocked, phase_of, on_view_change, on_prepare, on_precommit, on_commit, on_decide, on_vote}
use Rattle.protocol.specs.Moments.{Moment, moment, delivered, marked, record_at}
use Rattle.protocol.specs.Plans.{seat, used_of, holding, heard_from, ahead, crowded, full, roomy, asked, best_backing, is_faulty, untimely, of_one_view, stale, undeliverable, at_end, is_due, deadline_of, tick_plan, propose_plan, expire_plan, deliver_plan, inject_plan, injecting, drafted, ruled_by}
use Rattle.protocol.specs.Ready.{Free, Ready, Doable}
use Rattle.safety.specs.Kept.{committee_of}
use Rattle.safety.proofs.Fitting.{used_fits}
use Rattle.safety.proofs.Moves.{known_kept}

module _ (room : ℕ) (m : Moment) (p : ℕ) (free : Free room m) where
  abbrev Fine : Step → Type 0
  Fine z = Ready room p m z.first z.second

  module _ (s : Setting) (q : Process) (r : Record) where
    disclose_ready : (same total l : ℕ) → Fine (on_disclose s q p r same total l)
    disclose_ready same total l =
        cond_both (leb (weak_quorum_of s.committee) same) _ _ Fine (λ _. (free, refl, refl, refl))
        (λ _. cond_both (leb (disclosure_quorum_of s.committee) total && not q.certification.allowed) _ _ Fine (λ _. (free, refl)) (λ _. tt))

    allow_ready : (from l : ℕ) → Fine (on_allow_any s q p from l)
    allow_ready from l = cond_both (leb (weak_quorum_of s.committee) from) _ _ Fine (λ _. (free, refl, refl, refl)) (λ _. tt)

    certificate-ready : (holds : Bool) (l : ℕ) → Fine (on_certificate s q p r holds l)
    certificate-ready holds l = cond_both holds _ _ Fine (λ _. (free, refl, refl, refl)) (λ _. tt)

    completed_ready : (from : ℕ) → Fine (on_epoch_completed s q r from)
    completed_ready from = cond_both (leb q.synchronizer.epoch r.number && leb (quorum_of s.committee) from) _ _ Fine (λ _. tt) (λ _. tt)

    enter_ready : (holds : Bool) → Fine (on_enter_epoch s q r holds)
    enter_ready holds = cond_both (ltb q.synchronizer.epoch r.number && holds) _ _ Fine (λ _. tt) (λ _. tt)

    change_ready : (leads holds : Bool) (from : ℕ) (b : Mark) → Fine (on_view_change s q p r leads holds from b)
    change_ready leads holds from b =
        cond_both (leads && holds) _ _ Fine
        (λ _. cond_both (leb (quorum_of s.committee) from && eqb q.core.lead 0) _ _ Fine (λ _. (free, refl)) (λ _. tt))
        (λ _. tt)

    prepare_ready : (holds : Bool) (l : ℕ) → Fine (on_prepare q p r holds l)
    prepare_ready holds l = cond_both (eqb r.sender l && (eqb q.core.step 0 && (holds && unlocked q.core r))) _ _ Fine (λ _. (free, refl)) (λ _. tt)

    precommit_ready : (holds : Bool) (l : ℕ) → Fine (on_precommit q p r holds l)
    precommit_ready holds l = cond_both (eqb r.sender l && (ltb q.core.step 2 && holds)) _ _ Fine (λ _. (free, refl)) (λ _. tt)

    commit_ready : (holds : Bool) (l : ℕ) → Fine (on_commit q p r holds l)
    commit_ready holds l = cond_both (eqb r.sender l && (ltb q.core.step 3 && holds)) _ _ Fine (λ _. (free, refl)) (λ _. tt)

    decide_ready : (holds : Bool) → Fine (on_decide q r holds)
    decide_ready holds = cond_both (eqb q.core.decided 0 && holds) _ _ Fine (λ _. tt) (λ _. tt)

    vote_ready : (b : Ballot) (leads : Bool) (from : ℕ) → Fine (on_vote s q p r b leads from)
    vote_ready b leads from =
        cond_both (leads && (leb 1 q.core.lead && eqb r.value q.core.led)) _ _ Fine
        (λ _. cond_both (leb (quorum_of s.committee) from && eqb q.core.lead (phase_of b)) _ _ Fine (λ _. (free, refl)) (λ _. tt))
        (λ _. tt)

    expiry_ready : (l : ℕ) → Fine (on_view_expiry s q p l)
    expiry_ready l = cond_both (ltb q.synchronizer.place (last_place s)) _ _ Fine (λ _. (free, refl)) (λ _. (free, refl))

  module _ (leader : ℕ → ℕ) (i : ℕ) where
    abbrev q : Process
    q = seat m.table p

    abbrev r : Record
    r = record_at m.wire i

    abbrev s : Setting
    s = m.table.setting

    abbrev held : Bool
    held = holding m r

    rule_ready : (j : Kind) → Fine (ruled_by leader m p i j r)
    rule_ready Disclose = disclose_ready s q r (heard_from m p r (Some r.value)) (heard_from m p r None) (leader 1)
    rule_ready AllowAny = allow_ready s q r (heard_from m p r None) (leader 1)
    rule_ready Certificate = certificate-ready s q r held (leader 1)
    rule_ready EpochCompleted = completed_ready s q r (heard_from m p r None)
    rule_ready EnterEpoch = enter_ready s q r held
    rule_ready ViewChange = change_ready s q r (eqb (leader r.number) p) held (heard_from m p r None) (best_backing (asked p r None) i (used_of m))
    rule_ready Prepare = prepare_ready s q r held (leader r.number)
    rule_ready PrepareVote = vote_ready s q r ballot.Prepare (eqb (leader r.number) p) (heard_from m p r (Some r.value))
    rule_ready Precommit = precommit_ready s q r held (leader r.number)
    rule_ready PrecommitVote = vote_ready s q r ballot.Precommit (eqb (leader r.number) p) (heard_from m p r (Some r.value))
    rule_ready Commit = commit_ready s q r held (leader r.number)
    rule_ready CommitVote = vote_ready s q r ballot.Commit (eqb (leader r.number) p) (heard_from m p r (Some r.value))
    rule_ready Decide = decide_ready s q r held

-- ---- the five moves

free_of : (room : ℕ) (m : Moment) → crowded m ≡ false → full room m ≡ false → Free room m
free_of room m a b =
    let z = ltb-false (min (length m.wire) 65535) (m.table.used + 2) a in
    record { wire = omega arith; cap = omega arith; register = eqb-false m.signed.size room b }

roomy-free : (P : Result Step Refusal → Type 0) (room : ℕ) (m : Moment) (rest : Result Step Refusal) → ((e : Refusal) → P (Err e)) → (Free room m → P rest) → P (roomy room m rest)
roomy-free P room m rest refused goes =
    cond_both (crowded m) _ _ P (λ _. refused _) (λ a. cond_both (full room m) _ _ P (λ _. refused _) (λ b. goes (free_of room m a b)))

module _ (n room : ℕ) (m : Moment) (p : ℕ) where
  abbrev P : Result Step Refusal → Type 0
  P = Doable room p m

  low : p < (committee_of m).n → p < 31
  low h = let c = committee_of m in omega (arith, h, c.whole, c.high)

  pub tick_doable : (t : ℕ) → P (tick_plan n m p t)
  tick_doable t =
      let q = seat m.table p in
      known_kept P n m p _ (λ _. tt)
      (λ _ l. cond_both (is_faulty m p) _ _ P (λ _. tt)
      (λ _. cond_both (not (between 1 t 1000000)) _ _ P (λ _. tt) (λ _. cond_both (ltb last_tick (q.synchronizer.clock + t)) _ _ P (λ _. tt) (λ _. (low l, tt)))))

  pub propose_doable : (x : ℕ) → P (propose_plan n room m p x)
  propose_doable x =
      let q = seat m.table p in
      known_kept P n m p _ (λ _. tt)
      (λ _ l. cond_both (is_faulty m p) _ _ P (λ _. tt)
      (λ _. cond_both (eqb x 0) _ _ P (λ _. tt)
      (λ _. cond_both (not (idle q.certification.phase)) _ _ P (λ _. tt) (λ _. roomy-free P room m _ (λ _. tt) (λ free. (low l, (free, refl)))))))

  pub expire_doable : (leader : ℕ → ℕ) (timer : ℕ) → P (expire_plan leader n room m p timer)
  expire_doable leader timer =
      let q = seat m.table p in
      let s = m.table.setting in
      known_kept P n m p _ (λ _. tt)
      (λ _ l. cond_both (is_faulty m p) _ _ P (λ _. tt)
      (λ _. cond_both (not (between 1 timer 2)) _ _ P (λ _. tt)
      (λ _. cond_both (not (is_due (deadline_of timer q) q.synchronizer.clock)) _ _ P (λ _. tt)
      (λ _. roomy-free P room m _ (λ _. tt)
      (λ free. cond_both (eqb timer 1) _ _ P
      (λ _. cond_both (at_end s q) _ _ P (λ _. tt) (λ _. (low l, expiry_ready room m p free s q (record_at m.wire 0) (leader (view_here s q (q.synchronizer.place + 1))))))
      (λ _. (low l, (free, refl, refl, refl))))))))

  pub deliver_doable : (leader : ℕ → ℕ) (i : ℕ) → P (deliver_plan leader n room m p i)
  deliver_doable leader i =
      let q = seat m.table p in
      let r = record_at m.wire i in
      known_kept P n m p _ (λ _. tt)
      (λ _ l. cond_both (undeliverable m p i) _ _ P (λ _. tt)
      (λ _. cond_both (is_faulty m p) _ _ P (λ _. (low l, tt))
      (λ _. cond_both (untimely r.kind q.certification.phase) _ _ P (λ _. tt)
      (λ _. cond_both (of_one_view r.kind && ltb q.core.view r.number) _ _ P (λ _. tt)
      (λ _. roomy-free P room m _ (λ _. tt) (λ free. cond_both (stale q r) _ _ P (λ _. (low l, tt)) (λ _. (low l, rule_ready room m p free leader i r.kind))))))))

  pub inject_doable : (d : Draft) → P (inject_plan n room m p d)
  inject_doable d = known_kept P n m p _ (λ _. tt) (λ _ l. cond_both (not (is_faulty m p)) _ _ P (λ _. tt) (λ _. go (low l) (kind_of d.kind) (vouch_of d.vouch)))
    where
      go : p < 31 → (j : Option Kind) (w : Option Vouch) → P (injecting n room m p (drafted p d j w))
      go l None w = tt
      go l (Some j) None = tt
      go l (Some j) (Some w) =
          let r = sent d.to p j d.number d.value d.back w in
          cond_both (not (in_range m.table.setting.committee.n r)) _ _ P (λ _. tt) (λ _. roomy-free P room m _ (λ _. tt) (λ free. (l, (free, refl))))

-- ---- where a delivered record stands

abbrev pub Placed : ℕ → Moment → Result Step Refusal → Type 0
Placed i m (Err e) = Unit {0}
Placed i m (Ok z) = i < length m.wire

pub deliver_placed : (leader : ℕ → ℕ) (n room : ℕ) (m : Moment) (p i : ℕ) → Placed i m (deliver_plan leader n room m p i)
deliver_placed leader n room m p i =
    let q = seat m.table p in
    let r = record_at m.wire i in
    let P : Result Step Refusal → Type 0 = Placed i m in
    known_kept P n m p _ (λ _. tt)
    (λ fits _. cond_both (undeliverable m p i) _ _ P (λ _. tt)
    (λ there.
    let below : i < m.table.used = leb-false m.table.used i (or_parts (leb m.table.used i) _ there).0 in
    let within : i < length m.wire = omega (arith, used_fits n m fits) in
    cond_both (is_faulty m p) _ _ P (λ _. within)
    (λ _. cond_both (untimely r.kind q.certification.phase) _ _ P (λ _. tt)
    (λ _. cond_both (ahead q r) _ _ P (λ _. tt)
    (λ _. roomy-free P room m _ (λ _. tt) (λ _. cond_both (stale q r) _ _ P (λ _. within) (λ _. within)))))))

-- marking a record leaves the room for others

free_marked : (room p : ℕ) (m : Moment) (i : ℕ) (h : Bool) → Free room m → Free room (moment m.table (marked p i h m.wire) m.signed)
free_marked room p m i h free =
    let long = length-set m.wire i (delivered p h (record_at m.wire i)) in
    record { wire = omega (arith, long, free.wire); cap = free.cap; register = free.register }

pub ready_marked : (room p : ℕ) (m : Moment) (i : ℕ) (h : Bool) (a b : Option Record) → Ready room p m a b → Ready room p (moment m.table (marked p i h m.wire) m.signed) a b
ready_marked room p m i h None None r = tt
ready_marked room p m i h (Some x) None r = (free_marked room p m i h r.0, r.1)
ready_marked room p m i h (Some x) (Some y) r = (free_marked room p m i h r.0, r.1, r.2, r.3)
ready_marked room p m i h None (Some y) r = r
