-- The rules of the view core and the synchronizer keep everything as a record is delivered. Assumes nothing.
use Rattle.std.proofs.Common.{◌≡◌, ℕ, ◌+◌, ◌-◌, ◌<◌, ◌≤◌, Bool, true, cond, ◌&&◌, eqb, ltb, leb, ◌⊎◌, length, set, None, Ok, sym, refl, subst, inl, inr, arith, length-take-le, get_or-take}
use Rattle.std.proofs.lemmas.Bool.{cond_both, and_parts, or_cases, eqb-true, ltb-true, leb-true}
use Rattle.committee.specs.declared.membership.Committee.{Committee}
use Rattle.committee.specs.Thresholds.{quorum_of}
use Rattle.register.specs.declared.pair.Statement.{Statement}
use Rattle.wire.specs.declared.kind.Kind.TheVariants.{EpochCompleted, EnterEpoch, Prepare, PrepareVote, Precommit, PrecommitVote, Commit, CommitVote, Decide}
use Rattle.wire.specs.declared.vouch.Vouch.TheVariants.{Nothing}
use Rattle.wire.specs.declared.record.Record.{Record}
use Rattle.wire.specs.Kinds.{kind_number}
use Rattle.wire.specs.Shares.{statement}
use Rattle.wire.specs.Claims.{claim_of, claim_holds}
use Rattle.protocol.specs.declared.ballot.Ballot.{Ballot}
use Rattle.protocol.specs.declared.ballot.Ballot.TheVariants as ballot
use Rattle.protocol.specs.declared.process.Mark.{Mark}
use Rattle.protocol.specs.declared.process.Process.{Process}
use Rattle.protocol.specs.declared.step.Step.{Step}
use Rattle.protocol.specs.Processes.{running, mark, with_core}
use Rattle.protocol.specs.Moments.{Moment, received, delivered, record_at, no_record}
use Rattle.protocol.specs.Plans.{seat, used_of, asked, from_senders}
use Rattle.protocol.specs.Sending.{to_one}
use Rattle.protocol.specs.Steps.{drops, heeds}
use Rattle.protocol.specs.Synchronizing.{awaiting, on_epoch_completed, on_enter_epoch}
use Rattle.protocol.specs.Voting.{with_step, with_prepared, with_locked, with_decided, with_lead, unlocked, on_view_change, on_prepare, on_precommit, on_commit, on_decide, phase_of, next_kind, on_vote}
use Rattle.agreement.specs.Wires.{Wire, Correct}
use Rattle.agreement.specs.Facts.{Facts, Formed, ByLeader}
use Rattle.agreement.specs.Signing.{Quorum}
use Rattle.agreement.proofs.Growth.{quorum_more, below_set}
use Rattle.safety.specs.Ties.{Tied, Past, Reached}
use Rattle.safety.specs.Kept.{committee_of, Matches, Kept}
use Rattle.safety.proofs.Claiming.{proposal-backed, quorum_claimed, completed_quorum}
use Rattle.safety.proofs.Voting.{prepare_ready, prepare_tied, precommit_ready, precommit_tied, commit_ready, commit_tied}
use Rattle.safety.proofs.Leading.{leader_ready, leader_tied, decide_tied}
use Rattle.safety.proofs.Pasts.{past_7, past_9, past_11, past_13}
use Rattle.safety.proofs.Synchronizing.{await_tied}
use Rattle.safety.proofs.Marking.{used_marked, delivered-same}
use Rattle.safety.proofs.Receiving.{at, tied_at, rest_at, keep_drop, keep_heed, keep_acts, keep_acts_with}

module _ (leader : ℕ → ℕ) (m : Moment) (k : Kept leader m) (p i : ℕ) (member : p < (committee_of m).n) (ok : Correct (committee_of m) p) (below : i < m.table.used)
    (free : m.table.used + 2 ≤ length m.wire) (led : (v : ℕ) → leader v < (committee_of m).n) (runs : running (seat m.table p).certification.phase ≡ true)
    (form : Formed (committee_of m) (record_at m.wire i)) where
  abbrev c : Committee
  c = committee_of m

  abbrev q : Process
  q = seat m.table p

  abbrev r : Record
  r = record_at m.wire i

  abbrev ws : Wire
  ws = used_of (at leader m k p i member ok below free true)

  abbrev holds : Bool
  holds = claim_holds (claim_of c r) m.signed.has

  abbrev Keeps : Step → Type 0
  Keeps z = Kept leader (received (Ok z) p i m)

  tie : Tied c ws p q
  tie = tied_at leader m k p i member ok below free true

  facts : Facts c leader ws
  facts = (rest_at leader m k p i member ok below free true).facts

  signed : Matches m.signed ws
  signed = (rest_at leader m k p i member ok below free true).signed

  dropped : Keeps (drops q)
  dropped = keep_drop leader m k p i member ok below free

  heeded : Keeps (heeds q)
  heeded = keep_heed leader m k p i member ok below free runs

  -- ---- votes

  pub prepare_kept : r.kind ≡ Prepare → r.number ≡ q.core.view → 1 ≤ r.number → Keeps (on_prepare q p r holds (leader r.number))
  prepare_kept kind view one =
      cond_both (eqb r.sender (leader r.number) && (eqb q.core.step 0 && (holds && unlocked q.core r))) _ (drops q) Keeps
      (λ e.
      let a = and_parts (eqb r.sender (leader r.number)) _ e in
      let b = and_parts (eqb q.core.step 0) _ a.1 in
      let d = and_parts holds (unlocked q.core r) b.1 in
      let step = eqb-true q.core.step 0 b.0 in
      let backed = proposal-backed m.signed ws signed c r kind d.0 in
      let guard : (q.core.locked.view ≡ 0) ⊎ ((r.value ≡ q.core.locked.value) ⊎ ((q.core.locked.view < r.back) × (r.back < r.number) × Quorum c ws (statement 4 r.back r.value)))
      = elim (or_cases (eqb q.core.locked.view 0) _ d.1) [
        | inl j ↦ inl (eqb-true q.core.locked.view 0 j)
        | inr j ↦ elim (or_cases (eqb r.value q.core.locked.value) _ j) [
          | inl n ↦ inr (inl (eqb-true r.value q.core.locked.value n))
          | inr n ↦ let less = ltb-true q.core.locked.view r.back n in let more = backed.1 (omega arith) in inr (inr (less, more.0, more.1))
        ]
      ] in
      keep_acts_with leader m k p i member ok below free (with_core (with_step 1 q.core) q) (to_one (leader r.number) p PrepareVote r.number r.value) runs
      (prepare_ready c leader ws facts p q tie member (leader r.number) r.number r.value r.back (led r.number) view one step backed.0 guard)
      (prepare_tied c leader ws facts p q tie member (leader r.number) r.number r.value view step))
      (λ _. dropped)

  pub precommit_kept : r.kind ≡ Precommit → r.number ≡ q.core.view → 1 ≤ r.number → Keeps (on_precommit q p r holds (leader r.number))
  precommit_kept kind view one =
      cond_both (eqb r.sender (leader r.number) && (ltb q.core.step 2 && holds)) _ (drops q) Keeps
      (λ e.
      let a = and_parts (eqb r.sender (leader r.number)) _ e in
      let b = and_parts (ltb q.core.step 2) holds a.1 in
      let step = ltb-true q.core.step 2 b.0 in
      keep_acts_with leader m k p i member ok below free (with_core (with_prepared (mark r.number r.value) q.core) q) (to_one (leader r.number) p PrecommitVote r.number r.value) runs
      (precommit_ready c leader ws facts p q tie member (leader r.number) r.number r.value (led r.number) view one step
      (quorum_claimed m.signed ws signed c r Precommit (statement 4 r.number r.value) kind refl b.1))
      (precommit_tied c leader ws facts p q tie member (leader r.number) r.number r.value view step))
      (λ _. dropped)

  pub commit_kept : r.kind ≡ Commit → r.number ≡ q.core.view → 1 ≤ r.number → Keeps (on_commit q p r holds (leader r.number))
  commit_kept kind view one =
      cond_both (eqb r.sender (leader r.number) && (ltb q.core.step 3 && holds)) _ (drops q) Keeps
      (λ e.
      let a = and_parts (eqb r.sender (leader r.number)) _ e in
      let b = and_parts (ltb q.core.step 3) holds a.1 in
      let step = ltb-true q.core.step 3 b.0 in
      keep_acts_with leader m k p i member ok below free (with_core (with_locked (mark r.number r.value) q.core) q) (to_one (leader r.number) p CommitVote r.number r.value) runs
      (commit_ready c leader ws facts p q tie member (leader r.number) r.number r.value (led r.number) view one step
      (quorum_claimed m.signed ws signed c r Commit (statement 5 r.number r.value) kind refl b.1))
      (commit_tied c leader ws facts p q tie member (leader r.number) r.number r.value view step))
      (λ _. dropped)

  pub decide_kept : r.kind ≡ Decide → Keeps (on_decide q r holds)
  decide_kept kind =
      cond_both (eqb q.core.decided 0 && holds) _ (drops q) Keeps
      (λ e.
      let b = and_parts (eqb q.core.decided 0) holds e in
      keep_acts leader m k p i member ok below free (with_core (with_decided r.value q.core) q) runs
      (decide_tied c ws p r.number r.value q tie (quorum_claimed m.signed ws signed c r Decide (statement 6 r.number r.value) kind refl b.1)))
      (λ _. dropped)

  -- ---- the leader

  by_next : (b : Ballot) → ByLeader (kind_number (next_kind b))
  by_next ballot.Prepare = inr (inl refl)
  by_next ballot.Precommit = inr (inr (inl refl))
  by_next ballot.Commit = inr (inr (inr refl))

  past_next : (b : Ballot) (u : Process) (v : ℕ) → Reached v u.core.view (phase_of b + 1) u.core.lead → Past u (kind_number (next_kind b)) v
  past_next ballot.Prepare u v h = past_9 u v h
  past_next ballot.Precommit u v h = past_11 u v h
  past_next ballot.Commit u v h = past_13 u v h

  not_past : (b : Ballot) (u : Process) (v : ℕ) → v ≡ u.core.view → u.core.lead ≡ phase_of b → Past u (kind_number (next_kind b)) v → ⊥
  not_past ballot.Prepare u v e n h = omega (arith, (h.precommit refl).1 e)
  not_past ballot.Precommit u v e n h = omega (arith, (h.commit refl).1 e)
  not_past ballot.Commit u v e n h = omega (arith, (h.decide refl).1 e)

  pub vote_kept : (b : Ballot) (from : ℕ) → r.number ≡ q.core.view → 1 ≤ r.number → Keeps (on_vote m.table.setting q p r b (eqb (leader r.number) p) from)
  vote_kept b from view one =
      cond_both (eqb (leader r.number) p && (leb 1 q.core.lead && eqb r.value q.core.led)) _ (drops q) Keeps
      (λ e.
      let mine = eqb-true (leader r.number) p (and_parts (eqb (leader r.number) p) _ e).0 in
      cond_both (leb (quorum_of c) from && eqb q.core.lead (phase_of b)) _ (heeds q) Keeps
      (λ g.
      let lead = eqb-true q.core.lead (phase_of b) (and_parts (leb (quorum_of c) from) _ g).1 in
      let u = with_core (with_lead (q.core.lead + 1) q.core.led q.core) q in
      keep_acts_with leader m k p i member ok below free u _ runs
      (leader_ready c leader ws p q tie member (next_kind b) r.number r.value 0 Nothing (by_next b) (sym mine) one (not_past b q r.number view lead))
      (leader_tied c leader ws p q tie member (next_kind b) r.number r.value 0 (q.core.lead + 1) q.core.led Nothing (by_next b) (omega arith)
      (past_next b u r.number (omega (arith, view), λ _. omega (arith, lead)))))
      (λ _. heeded))
      (λ _. dropped)

  pub change_kept : (from : ℕ) (b : Mark) → r.number ≡ q.core.view → 1 ≤ r.number
      → Keeps (on_view_change m.table.setting q p r (eqb (leader r.number) p) holds from b)
  change_kept from b view one =
      cond_both (eqb (leader r.number) p && holds) _ (drops q) Keeps
      (λ e.
      let mine = eqb-true (leader r.number) p (and_parts (eqb (leader r.number) p) holds e).0 in
      cond_both (leb (quorum_of c) from && eqb q.core.lead 0) _ (heeds q) Keeps
      (λ g.
      let lead = eqb-true q.core.lead 0 (and_parts (leb (quorum_of c) from) _ g).1 in
      let x = cond (eqb b.view 0) q.certification.offer b.value in
      let w = cond (eqb b.view 0) q.certification.vouch Nothing in
      let u = with_core (with_lead 1 x q.core) q in
      keep_acts_with leader m k p i member ok below free u _ runs
      (leader_ready c leader ws p q tie member Prepare r.number x b.view w (inl refl) (sym mine) one (λ h. omega (arith, (h.prepare refl).1 view)))
      (leader_tied c leader ws p q tie member Prepare r.number x b.view 1 x w (inl refl) (omega arith) (past_7 u r.number (omega (arith, view), λ _. omega arith))))
      (λ _. heeded))
      (λ _. dropped)

  -- ---- the synchronizer

  inside : i < length (used_of m)
  inside = rw (length-take-le m.table.used m.wire k.used) below

  same_record : record_at (used_of m) i ≡ r
  same_record = get_or-take m.table.used m.wire i no_record below

  -- what a quorum had signed, it has signed on the marked wire
  marked-quorum : (s : Statement) → Quorum c (used_of m) s → Quorum c ws s
  marked-quorum s h =
      let z = delivered p true (record_at (used_of m) i) in
      let P : Wire → Type 0 = λ vs. Quorum c vs s in
      subst P (sym (used_marked m.wire m.table.used i p true below))
      (quorum_more c (used_of m) (set (used_of m) i z) (below_set (used_of m) i z no_record inside (delivered-same p true (record_at (used_of m) i))) s h)

  pub completed_kept : r.kind ≡ EpochCompleted → Keeps (on_epoch_completed m.table.setting q r (from_senders (asked p r None) r.sender (used_of m)))
  completed_kept kind =
      cond_both (leb q.synchronizer.epoch r.number && leb (quorum_of c) (from_senders (asked p r None) r.sender (used_of m))) _ (heeds q) Keeps
      (λ e.
      let b = and_parts (leb q.synchronizer.epoch r.number) _ e in
      let up = leb-true q.synchronizer.epoch r.number b.0 in
      let P : Record → Type 0 = λ x. x.kind ≡ EpochCompleted → quorum_of c ≤ from_senders (asked p x None) x.sender (used_of m) → Quorum c (used_of m) (statement 3 x.number 0) in
      let quorum = marked-quorum (statement 3 r.number 0)
      (subst P same_record (completed_quorum c (used_of m) p i no_record inside) kind (leb-true (quorum_of c) _ b.1)) in
      keep_acts leader m k p i member ok below free (awaiting m.table.setting q (r.number + 1)) runs
      (await_tied m.table.setting leader ws p q tie member (r.number + 1) (omega arith)
      (λ j _ n. let Q : ℕ → Type 0 = λ x. Quorum c ws (statement 3 x 0) in subst Q (let z : r.number ≡ j = omega arith in z) quorum)))
      (λ _. heeded)

  pub entered_kept : r.kind ≡ EnterEpoch → Keeps (on_enter_epoch m.table.setting q r holds)
  entered_kept kind =
      cond_both (ltb q.synchronizer.epoch r.number && holds) _ (drops q) Keeps
      (λ e.
      let b = and_parts (ltb q.synchronizer.epoch r.number) holds e in
      let up = ltb-true q.synchronizer.epoch r.number b.0 in
      let quorum = quorum_claimed m.signed ws signed c r EnterEpoch (statement 3 (r.number - 1) 0) kind refl b.1 in
      keep_acts leader m k p i member ok below free (awaiting m.table.setting q r.number) runs
      (await_tied m.table.setting leader ws p q tie member r.number up
      (λ j _ n. let Q : ℕ → Type 0 = λ x. Quorum c ws (statement 3 x 0) in subst Q (let z : r.number - 1 ≡ j = omega arith in z) quorum)))
      (λ _. dropped)
