-- The view core: what a leader proposes, and what processes vote for. Assumes nothing.
--   proposing                 the process, leading view v, proposes the value that b backs, or its offer where nothing backs one
--   on_view_change            whether this process leads and the certificate holds, from so many senders, with the best backing b among them
--   unlocked k r              the lock lets the process vote for the proposal
--   on_prepare, on_precommit, on_commit   l is the leader of the view
--   step_of s, vote_of s      how far a voter is behind a stage, and the kind of its vote there
--   on_quorum s               the rule of the stage
--   on_decide                 whether its certificate holds
--   phase_of b, next_kind b   the number of a phase, and the kind that a quorum of its votes leads to
--   on_vote                   a vote of the phase b
use Rattle.std.specs.Prelude.{ℕ, ◌+◌, Bool, cond, ◌&&◌, ◌||◌, ◌==◌, nat_le, nat_lt}
use Rattle.committee.specs.Thresholds.{quorum_of}
use Rattle.wire.specs.declared.kind.Kind.{Kind}
use Rattle.wire.specs.declared.kind.Kind.TheVariants.{PrepareVote, Precommit, PrecommitVote, Commit, CommitVote, Decide}
use Rattle.wire.specs.declared.vouch.Vouch.TheVariants.{Nothing}
use Rattle.wire.specs.declared.record.Record.{Record}
use Rattle.protocol.specs.declared.process.Mark.{Mark}
use Rattle.protocol.specs.declared.process.ViewCore.{ViewCore}
use Rattle.protocol.specs.declared.process.Process.{Process}
use Rattle.protocol.specs.declared.board.Setting.{Setting}
use Rattle.protocol.specs.declared.ballot.Ballot.{Ballot}
use Rattle.protocol.specs.declared.ballot.Ballot.TheVariants as ballot
use Rattle.protocol.specs.declared.stage.Stage.{Stage}
use Rattle.protocol.specs.declared.stage.Stage.TheVariants as stage
use Rattle.protocol.specs.declared.step.Step.{Step}
use Rattle.protocol.specs.Processes.{mark, core_of, with_core}
use Rattle.protocol.specs.Sending.{to_all, to_one, proposal}
use Rattle.protocol.specs.Steps.{drops, heeds, acts, acts_with}

abbrev pub with_lead : ℕ → ℕ → ViewCore → ViewCore
with_lead d w k = core_of k.view k.prepared k.locked k.step d w k.decided

abbrev pub with_step : ℕ → ViewCore → ViewCore
with_step n k = core_of k.view k.prepared k.locked n k.lead k.led k.decided

abbrev pub with_prepared : Mark → ViewCore → ViewCore
with_prepared m k = core_of k.view m k.locked 2 k.lead k.led k.decided

abbrev pub with_locked : Mark → ViewCore → ViewCore
with_locked m k = core_of k.view k.prepared m 3 k.lead k.led k.decided

abbrev pub with_decided : ℕ → ViewCore → ViewCore
with_decided x k = core_of k.view k.prepared k.locked k.step k.lead k.led x

-- the backed value, or the offer where nothing backs one
abbrev pub proposing : Setting → Process → ℕ → ℕ → Mark → Step
proposing s q p v b =
    let c = q.certification in
    let x = cond (b.view == 0) c.offer b.value in
    let w = cond (b.view == 0) c.vouch Nothing in
    acts_with (with_core (with_lead 1 x q.core) q) (proposal s.committee p v x b.view w)

abbrev pub on_view_change : Setting → Process → ℕ → Record → Bool → Bool → ℕ → Mark → Step
on_view_change s q p r leads holds from b =
    cond (leads && holds)
    (cond (nat_le (quorum_of s.committee) from && q.core.lead == 0) (proposing s q p r.number b) (heeds q))
    (drops q)

abbrev pub unlocked : ViewCore → Record → Bool
unlocked k r = k.locked.view == 0 || (r.value == k.locked.value || nat_lt k.locked.view r.back)

abbrev pub on_prepare : Process → ℕ → Record → Bool → ℕ → Step
on_prepare q p r holds l =
    cond (r.sender == l && (q.core.step == 0 && (holds && unlocked q.core r)))
    (acts_with (with_core (with_step 1 q.core) q) (to_one l p PrepareVote r.number r.value))
    (drops q)

abbrev pub on_precommit : Process → ℕ → Record → Bool → ℕ → Step
on_precommit q p r holds l =
    cond (r.sender == l && (nat_lt q.core.step 2 && holds))
    (acts_with (with_core (with_prepared (mark r.number r.value) q.core) q) (to_one l p PrecommitVote r.number r.value))
    (drops q)

abbrev pub on_commit : Process → ℕ → Record → Bool → ℕ → Step
on_commit q p r holds l =
    cond (r.sender == l && (nat_lt q.core.step 3 && holds))
    (acts_with (with_core (with_locked (mark r.number r.value) q.core) q) (to_one l p CommitVote r.number r.value))
    (drops q)

abbrev pub step_of : Stage → ℕ
step_of stage.Precommit = 2
step_of stage.Commit = 3

abbrev pub vote_of : Stage → Kind
vote_of stage.Precommit = PrecommitVote
vote_of stage.Commit = CommitVote

abbrev pub on_quorum : Stage → Process → ℕ → Record → Bool → ℕ → Step
on_quorum stage.Precommit = on_precommit
on_quorum stage.Commit = on_commit

abbrev pub on_decide : Process → Record → Bool → Step
on_decide q r holds = cond (q.core.decided == 0 && holds) (acts (with_core (with_decided r.value q.core) q)) (drops q)

abbrev pub phase_of : Ballot → ℕ
phase_of ballot.Prepare = 1
phase_of ballot.Precommit = 2
phase_of ballot.Commit = 3

abbrev pub next_kind : Ballot → Kind
next_kind ballot.Prepare = Precommit
next_kind ballot.Precommit = Commit
next_kind ballot.Commit = Decide

abbrev pub on_vote : Setting → Process → ℕ → Record → Ballot → Bool → ℕ → Step
on_vote s q p r b leads from =
    let k = q.core in
    cond (leads && (nat_le 1 k.lead && r.value == k.led))
    (cond (nat_le (quorum_of s.committee) from && k.lead == phase_of b)
    (acts_with (with_core (with_lead (k.lead + 1) k.led k) q) (to_all s.committee p (next_kind b) r.number r.value))
    (heeds q))
    (drops q)
