-- No move changes a decision. Assumes nothing.
use Rattle.std.proofs.Common.{◌≡◌, ℕ, ◌+◌, ◌<◌, ◌≤◌, Bool, not, ◌&&◌, eqb, ltb, leb, ◌≢◌, length, get_or, set, Some, None, Ok, Err, Option, Result, sym, refl, ap, ◌∙◌, inl, inr, arith, get_or-set_other, get_or-set_same}
use Rattle.std.proofs.lemmas.Bool.{cond_both, and_parts, eqb-true, cases_eq}
use Rattle.refusals.specs.declared.causes.Refusal.{Refusal}
use Rattle.wire.specs.declared.kind.Kind.{Kind}
use Rattle.wire.specs.declared.kind.Kind.TheVariants.{Disclose, AllowAny, Certificate, EpochCompleted, EnterEpoch, ViewChange, Prepare, PrepareVote, Precommit, PrecommitVote, Commit, CommitVote, Decide}
use Rattle.wire.specs.declared.vouch.Vouch.{Vouch}
use Rattle.wire.specs.declared.record.Record.{Record}
use Rattle.wire.specs.Kinds.{kind_of, vouch_of}
use Rattle.protocol.specs.declared.process.Process.{Process}
use Rattle.protocol.specs.declared.step.Step.{Step}
use Rattle.protocol.specs.declared.ballot.Ballot.{Ballot}
use Rattle.protocol.specs.declared.ballot.Ballot.TheVariants as ballot
use Rattle.protocol.specs.declared.process.Mark.{Mark}
use Rattle.protocol.specs.declared.board.Setting.{Setting}
use Rattle.protocol.specs.declared.draft.Draft.{Draft}
use Rattle.committee.specs.Thresholds.{quorum_of, weak_quorum_of, disclosure_quorum_of}
use Rattle.wire.specs.Ranges.{in_range}
use Rattle.protocol.specs.Processes.{blank_process, idle}
use Rattle.protocol.specs.Ranges.{between, last_tick}
use Rattle.protocol.specs.Sending.{sent}
use Rattle.protocol.specs.Certifying.{on_disclose, on_allow_any, on_certificate}
use Rattle.protocol.specs.Synchronizing.{last_place, view_here, on_view_expiry, on_epoch_completed, on_enter_epoch}
use Rattle.protocol.specs.Voting.{unlocked, phase_of, on_view_change, on_prepare, on_precommit, on_commit, on_decide, on_vote}
use Rattle.protocol.specs.Steps.{is_heed}
use Rattle.protocol.specs.Moments.{Moment, moment, seated, noted, done, played, received, marked, record_at, no_record}
use Rattle.protocol.specs.Plans.{seat, used_of, holding, heard_from, asked, best_backing, is_faulty, untimely, of_one_view, stale, undeliverable, at_end, is_due, deadline_of, tick_plan, propose_plan, expire_plan, deliver_plan, inject_plan, injecting, drafted, ruled_by}
use Rattle.safety.proofs.Moves.{known_kept, roomy-kept}

-- a step leaves the decision, unless there was none
pub record Leaves (q : Process) (z : Step) : Type 0 where
  pub stays : 1 ≤ q.core.decided → z.process.core.decided ≡ q.core.decided

abbrev pub PlanLeaves : Process → Result Step Refusal → Type 0
PlanLeaves q (Err e) = Unit {0}
PlanLeaves q (Ok z) = Leaves q z

module _ (s : Setting) (q : Process) (p : ℕ) (r : Record) where
  disclose_leaves : (same total l : ℕ) → Leaves q (on_disclose s q p r same total l)
  disclose_leaves same total l =
      cond_both (leb (weak_quorum_of s.committee) same) _ _ (Leaves q) (λ _. record { stays = λ _. refl })
      (λ _. cond_both (leb (disclosure_quorum_of s.committee) total && not q.certification.allowed) _ _ (Leaves q) (λ _. record { stays = λ _. refl }) (λ _. record { stays = λ _. refl }))

  allow_leaves : (from l : ℕ) → Leaves q (on_allow_any s q p from l)
  allow_leaves from l = cond_both (leb (weak_quorum_of s.committee) from) _ _ (Leaves q) (λ _. record { stays = λ _. refl }) (λ _. record { stays = λ _. refl })

  certificate-leaves : (holds : Bool) (l : ℕ) → Leaves q (on_certificate s q p r holds l)
  certificate-leaves holds l = cond_both holds _ _ (Leaves q) (λ _. record { stays = λ _. refl }) (λ _. record { stays = λ _. refl })

  completed_leaves : (from : ℕ) → Leaves q (on_epoch_completed s q r from)
  completed_leaves from =
      cond_both (leb q.synchronizer.epoch r.number && leb (quorum_of s.committee) from) _ _ (Leaves q) (λ _. record { stays = λ _. refl }) (λ _. record { stays = λ _. refl })

  enter_leaves : (holds : Bool) → Leaves q (on_enter_epoch s q r holds)
  enter_leaves holds = cond_both (ltb q.synchronizer.epoch r.number && holds) _ _ (Leaves q) (λ _. record { stays = λ _. refl }) (λ _. record { stays = λ _. refl })

  change_leaves : (leads holds : Bool) (from : ℕ) (b : Mark) → Leaves q (on_view_change s q p r leads holds from b)
  change_leaves leads holds from b =
      cond_both (leads && holds) _ _ (Leaves q)
      (λ _. cond_both (leb (quorum_of s.committee) from && eqb q.core.lead 0) _ _ (Leaves q) (λ _. record { stays = λ _. refl }) (λ _. record { stays = λ _. refl }))
      (λ _. record { stays = λ _. refl })

  prepare_leaves : (holds : Bool) (l : ℕ) → Leaves q (on_prepare q p r holds l)
  prepare_leaves holds l =
      cond_both (eqb r.sender l && (eqb q.core.step 0 && (holds && unlocked q.core r))) _ _ (Leaves q) (λ _. record { stays = λ _. refl }) (λ _. record { stays = λ _. refl })

  precommit_leaves : (holds : Bool) (l : ℕ) → Leaves q (on_precommit q p r holds l)
  precommit_leaves holds l = cond_both (eqb r.sender l && (ltb q.core.step 2 && holds)) _ _ (Leaves q) (λ _. record { stays = λ _. refl }) (λ _. record { stays = λ _. refl })

  commit_leaves : (holds : Bool) (l : ℕ) → Leaves q (on_commit q p r holds l)
  commit_leaves holds l = cond_both (eqb r.sender l && (ltb q.core.step 3 && holds)) _ _ (Leaves q) (λ _. record { stays = λ _. refl }) (λ _. record { stays = λ _. refl })

  decide_leaves : (holds : Bool) → Leaves q (on_decide q r holds)
  decide_leaves holds =
      cond_both (eqb q.core.decided 0 && holds) _ _ (Leaves q)
      (λ e. record { stays = λ h. absurd (omega (arith, eqb-true q.core.decided 0 (and_parts (eqb q.core.decided 0) holds e).0)) }) (λ _. record { stays = λ _. refl })

  vote_leaves : (b : Ballot) (leads : Bool) (from : ℕ) → Leaves q (on_vote s q p r b leads from)
  vote_leaves b leads from =
      cond_both (leads && (leb 1 q.core.lead && eqb r.value q.core.led)) _ _ (Leaves q)
      (λ _. cond_both (leb (quorum_of s.committee) from && eqb q.core.lead (phase_of b)) _ _ (Leaves q) (λ _. record { stays = λ _. refl }) (λ _. record { stays = λ _. refl }))
      (λ _. record { stays = λ _. refl })

  expiry_leaves : (l : ℕ) → Leaves q (on_view_expiry s q p l)
  expiry_leaves l = cond_both (ltb q.synchronizer.place (last_place s)) _ _ (Leaves q) (λ _. record { stays = λ _. refl }) (λ _. record { stays = λ _. refl })

module _ (leader : ℕ → ℕ) (m : Moment) (p i : ℕ) where
  abbrev q : Process
  q = seat m.table p

  abbrev r : Record
  r = record_at m.wire i

  abbrev s : Setting
  s = m.table.setting

  pub rule_leaves : (j : Kind) → Leaves q (ruled_by leader m p i j r)
  rule_leaves Disclose = disclose_leaves s q p r (heard_from m p r (Some r.value)) (heard_from m p r None) (leader 1)
  rule_leaves AllowAny = allow_leaves s q p r (heard_from m p r None) (leader 1)
  rule_leaves Certificate = certificate-leaves s q p r (holding m r) (leader 1)
  rule_leaves EpochCompleted = completed_leaves s q p r (heard_from m p r None)
  rule_leaves EnterEpoch = enter_leaves s q p r (holding m r)
  rule_leaves ViewChange =
      change_leaves s q p r (eqb (leader r.number) p) (holding m r) (heard_from m p r None)
      (best_backing (asked p r None) i (used_of m))
  rule_leaves Prepare = prepare_leaves s q p r (holding m r) (leader r.number)
  rule_leaves PrepareVote = vote_leaves s q p r ballot.Prepare (eqb (leader r.number) p) (heard_from m p r (Some r.value))
  rule_leaves Precommit = precommit_leaves s q p r (holding m r) (leader r.number)
  rule_leaves PrecommitVote = vote_leaves s q p r ballot.Precommit (eqb (leader r.number) p) (heard_from m p r (Some r.value))
  rule_leaves Commit = commit_leaves s q p r (holding m r) (leader r.number)
  rule_leaves CommitVote = vote_leaves s q p r ballot.Commit (eqb (leader r.number) p) (heard_from m p r (Some r.value))
  rule_leaves Decide = decide_leaves s q p r (holding m r)

-- ---- the five moves

pub tick_leaves : (n : ℕ) (m : Moment) (p t : ℕ) → PlanLeaves (seat m.table p) (tick_plan n m p t)
tick_leaves n m p t =
    let q = seat m.table p in
    let P : Result Step Refusal → Type 0 = PlanLeaves q in
    known_kept P n m p _ (λ _. tt)
    (λ _ _. cond_both (is_faulty m p) _ _ P (λ _. tt)
    (λ _. cond_both (not (between 1 t 1000000)) _ _ P (λ _. tt) (λ _. cond_both (ltb last_tick (q.synchronizer.clock + t)) _ _ P (λ _. tt) (λ _. record { stays = λ _. refl }))))

pub propose_leaves : (n room : ℕ) (m : Moment) (p x : ℕ) → PlanLeaves (seat m.table p) (propose_plan n room m p x)
propose_leaves n room m p x =
    let q = seat m.table p in
    let P : Result Step Refusal → Type 0 = PlanLeaves q in
    known_kept P n m p _ (λ _. tt)
    (λ _ _. cond_both (is_faulty m p) _ _ P (λ _. tt)
    (λ _. cond_both (eqb x 0) _ _ P (λ _. tt)
    (λ _. cond_both (not (idle q.certification.phase)) _ _ P (λ _. tt) (λ _. roomy-kept P room m _ (λ _. tt) (λ _. record { stays = λ _. refl })))))

pub expire_leaves : (leader : ℕ → ℕ) (n room : ℕ) (m : Moment) (p timer : ℕ) → PlanLeaves (seat m.table p) (expire_plan leader n room m p timer)
expire_leaves leader n room m p timer =
    let q = seat m.table p in
    let s = m.table.setting in
    let P : Result Step Refusal → Type 0 = PlanLeaves q in
    known_kept P n m p _ (λ _. tt)
    (λ _ _. cond_both (is_faulty m p) _ _ P (λ _. tt)
    (λ _. cond_both (not (between 1 timer 2)) _ _ P (λ _. tt)
    (λ _. cond_both (not (is_due (deadline_of timer q) q.synchronizer.clock)) _ _ P (λ _. tt)
    (λ _. roomy-kept P room m _ (λ _. tt)
    (λ _. cond_both (eqb timer 1) _ _ P
    (λ _. cond_both (at_end s q) _ _ P (λ _. tt) (λ _. expiry_leaves s q p no_record (leader (view_here s q (q.synchronizer.place + 1)))))
    (λ _. record { stays = λ _. refl }))))))

pub deliver_leaves : (leader : ℕ → ℕ) (n room : ℕ) (m : Moment) (p i : ℕ) → PlanLeaves (seat m.table p) (deliver_plan leader n room m p i)
deliver_leaves leader n room m p i =
    let q = seat m.table p in
    let r = record_at m.wire i in
    let P : Result Step Refusal → Type 0 = PlanLeaves q in
    known_kept P n m p _ (λ _. tt)
    (λ _ _. cond_both (undeliverable m p i) _ _ P (λ _. tt)
    (λ _. cond_both (is_faulty m p) _ _ P (λ _. record { stays = λ _. refl })
    (λ _. cond_both (untimely r.kind q.certification.phase) _ _ P (λ _. tt)
    (λ _. cond_both (of_one_view r.kind && ltb q.core.view r.number) _ _ P (λ _. tt)
    (λ _. roomy-kept P room m _ (λ _. tt) (λ _. cond_both (stale q r) _ _ P (λ _. record { stays = λ _. refl }) (λ _. rule_leaves leader m p i r.kind)))))))

pub inject_leaves : (n room : ℕ) (m : Moment) (p : ℕ) (d : Draft) → PlanLeaves (seat m.table p) (inject_plan n room m p d)
inject_leaves n room m p d =
    let P : Result Step Refusal → Type 0 = PlanLeaves (seat m.table p) in
    known_kept P n m p _ (λ _. tt) (λ _ _. cond_both (not (is_faulty m p)) _ _ P (λ _. tt) (λ _. go (kind_of d.kind) (vouch_of d.vouch)))
  where
    go : (j : Option Kind) (w : Option Vouch) → PlanLeaves (seat m.table p) (injecting n room m p (drafted p d j w))
    go None w = tt
    go (Some j) None = tt
    go (Some j) (Some w) =
        let P : Result Step Refusal → Type 0 = PlanLeaves (seat m.table p) in
        let r = sent d.to p j d.number d.value d.back w in
        cond_both (not (in_range m.table.setting.committee.n r)) _ _ P (λ _. tt) (λ _. roomy-kept P room m _ (λ _. tt) (λ _. record { stays = λ _. refl }))

-- ---- what a move makes of the seats

notes_processes : (first second : Option Record) (m : Moment) → (noted second (noted first m)).table.processes ≡ m.table.processes
notes_processes None None m = refl
notes_processes (Some r) None m = refl
notes_processes None (Some z) m = refl
notes_processes (Some r) (Some z) m = refl

done_decided : (z : Step) (p o x : ℕ) (m m' : Moment) → m'.table.processes ≡ m.table.processes → o < length m.table.processes → Leaves (seat m.table p) z
    → 1 ≤ x → (seat m.table o).core.decided ≡ x → (seat (done p z m').table o).core.decided ≡ x
done_decided z p o x m m' same short leaves some is =
    let list = notes_processes z.first z.second (moment (seated p z.process m'.table) m'.wire m'.signed) ∙ ap (λ xs. set xs p z.process) same in
    ap (λ xs. (get_or xs o blank_process).core.decided) list
    ∙ (elim (cases_eq o p) [
      | inl e ↦
          let lt : p < length m.table.processes = omega (arith, e) in
          ap (λ (y : ℕ). (get_or (set m.table.processes p z.process) y blank_process).core.decided) e
          ∙ ap (λ (u : Process). u.core.decided) (get_or-set_same m.table.processes p z.process blank_process lt)
          ∙ leaves.stays (omega (arith, is, ap (λ (y : ℕ). (seat m.table y).core.decided) e)) ∙ ap (λ (y : ℕ). (seat m.table y).core.decided) (sym e) ∙ is
      | inr n ↦ let ne : o ≢ p = n in ap (λ (u : Process). u.core.decided) (get_or-set_other m.table.processes p o z.process blank_process ne) ∙ is
    ])

pub played-decided : (plan : Result Step Refusal) (p o x : ℕ) (m : Moment) → o < length m.table.processes → PlanLeaves (seat m.table p) plan
    → 1 ≤ x → (seat m.table o).core.decided ≡ x → (seat (played plan p m).table o).core.decided ≡ x
played-decided (Err e) p o x m short leaves some is = is
played-decided (Ok z) p o x m short leaves some is = done_decided z p o x m m refl short leaves some is

pub received-decided : (plan : Result Step Refusal) (p i o x : ℕ) (m : Moment) → o < length m.table.processes → PlanLeaves (seat m.table p) plan
    → 1 ≤ x → (seat m.table o).core.decided ≡ x → (seat (received plan p i m).table o).core.decided ≡ x
received-decided (Err e) p i o x m short leaves some is = is
received-decided (Ok z) p i o x m short leaves some is = done_decided z p o x m (moment m.table (marked p i (is_heed z.answer) m.wire) m.signed) refl short leaves some is
