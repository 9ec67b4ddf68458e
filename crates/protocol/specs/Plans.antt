-- Each move as the rules give it: the first cause of a refusal, or the step that it comes to. Assumes nothing.
--   seat t p              the fields of a process
--   used_of m             the records that are used
--   board_fits n m        the rota, of size n, fits the committee, and board and used records are in range
--   crowded m             fewer than two records are free
--   from_senders h s ws   how many distinct senders there are of the records that h asks for, with s, the sender of the delivered one
--   best_backing          the first largest backing among the records that h asks for, with the one at place i
--   ruled                 the rule of the delivered record's kind
--   tick_plan, propose_plan, expire_plan, deliver_plan, inject_plan   the five moves on a board
use Rattle.std.specs.Prelude.{ℕ, ◌+◌, min, Bool, cond, not, ◌&&◌, ◌||◌, List, [], ◌∷◌, length, take, Some, None, Ok, Err, Option, Result, ◌==◌, nat_le, nat_lt, slice_index_or}
use Rattle.refusals.specs.declared.causes.Refusal.{Refusal}
use Rattle.refusals.specs.declared.causes.Refusal.TheVariants.{BoardOutOfRange, NoSuchProcess, WrongSide, FieldOutOfRange, NoSuchRecord, Untimely, ViewAhead, WireFull, RegisterFull, ClockAtEnd, LastEpoch}
use Rattle.counting.specs.Counts.{count_to}
use Rattle.committee.specs.Sets.{contains}
use Rattle.register.specs.Distinct.{seen}
use Rattle.wire.specs.declared.kind.Kind.{Kind}
use Rattle.wire.specs.declared.kind.Kind.TheVariants.{Disclose, AllowAny, Certificate, EpochCompleted, EnterEpoch, ViewChange, Prepare, PrepareVote, Precommit, PrecommitVote, Commit, CommitVote, Decide}
use Rattle.wire.specs.declared.vouch.Vouch.{Vouch}
use Rattle.wire.specs.declared.record.Record.{Record}
use Rattle.wire.specs.declared.heeded.Heeded.{Heeded}
use Rattle.wire.specs.Kinds.{kind_number, kind_of, vouch_of}
use Rattle.wire.specs.Ranges.{in_range}
use Rattle.wire.specs.Claims.{claim_of, claim_holds}
use Rattle.wire.specs.Heeding.{is_heeded}
use Rattle.protocol.specs.declared.ballot.Ballot.{Ballot}
use Rattle.protocol.specs.declared.ballot.Ballot.TheVariants as ballot
use Rattle.protocol.specs.declared.process.Phase.{Phase}
use Rattle.protocol.specs.declared.process.Mark.{Mark}
use Rattle.protocol.specs.declared.process.Process.{Process}
use Rattle.protocol.specs.declared.board.Setting.{Setting}
use Rattle.protocol.specs.declared.board.Table.{Table}
use Rattle.protocol.specs.declared.draft.Draft.{Draft}
use Rattle.protocol.specs.declared.step.Step.{Step}
use Rattle.protocol.specs.Processes.{blank_process, idle, running, mark, synchronizer_of, with_synchronizer}
use Rattle.protocol.specs.Ranges.{between, last_tick, table_fits, wire_fits}
use Rattle.protocol.specs.Steps.{moves_on, moves, drops}
use Rattle.protocol.specs.Sending.{sent}
use Rattle.protocol.specs.Certifying.{proposes, on_disclose, on_allow_any, on_certificate}
use Rattle.protocol.specs.Synchronizing.{last_place, view_here, on_view_expiry, on_spread_expiry, on_epoch_completed, on_enter_epoch}
use Rattle.protocol.specs.Voting.{on_view_change, on_prepare, on_precommit, on_commit, on_decide, on_vote}
use Rattle.protocol.specs.Moments.{Moment, record_at}

abbrev pub seat : Table → ℕ → Process
seat t p = slice_index_or t.processes p blank_process

abbrev pub used_of : Moment → List Record
used_of m = take m.table.used m.wire

abbrev pub board_fits : ℕ → Moment → Bool
board_fits n m = n == m.table.setting.committee.n && (table_fits m.table && wire_fits m.table m.wire)

abbrev pub crowded : Moment → Bool
crowded m = nat_lt (min (length m.wire) 65535) (m.table.used + 2)

abbrev pub full : ℕ → Moment → Bool
full room m = m.signed.size == room

abbrev pub is_faulty : Moment → ℕ → Bool
is_faulty m p = contains m.table.setting.committee.faulty p

-- the causes that every move on a board meets first
abbrev pub known : ℕ → Moment → ℕ → Result Step Refusal → Result Step Refusal
known n m p rest =
    cond (not (board_fits n m)) (Err BoardOutOfRange)
    (cond (nat_le m.table.setting.committee.n p) (Err NoSuchProcess) rest)

-- the causes that a move which may append meets last
abbrev pub roomy : ℕ → Moment → Result Step Refusal → Result Step Refusal
roomy room m rest = cond (crowded m) (Err WireFull) (cond (full room m) (Err RegisterFull) rest)

-- ---- tick

abbrev pub later : Process → ℕ → Process
later q k = let y = q.synchronizer in with_synchronizer (synchronizer_of y.epoch y.place (y.clock + k) y.due y.spread) q

abbrev pub tick_plan : ℕ → Moment → ℕ → ℕ → Result Step Refusal
tick_plan n m p k =
    let q = seat m.table p in
    known n m p
    (cond (is_faulty m p) (Err WrongSide)
    (cond (not (between 1 k 1000000)) (Err FieldOutOfRange)
    (cond (nat_lt last_tick (q.synchronizer.clock + k)) (Err ClockAtEnd)
    (Ok (moves_on (later q k))))))

-- ---- propose

abbrev pub propose_plan : ℕ → ℕ → Moment → ℕ → ℕ → Result Step Refusal
propose_plan n room m p x =
    let q = seat m.table p in
    known n m p
    (cond (is_faulty m p) (Err WrongSide)
    (cond (x == 0) (Err FieldOutOfRange)
    (cond (not (idle q.certification.phase)) (Err Untimely)
    (roomy room m (Ok (proposes m.table.setting q p x))))))

-- ---- expire: timer 1 is the view timer, timer 2 the spread timer

-- armed, and reached by the clock
abbrev pub is_due : ℕ → ℕ → Bool
is_due deadline clock = nat_lt 0 deadline && nat_le deadline clock

abbrev pub deadline_of : ℕ → Process → ℕ
deadline_of timer q = cond (timer == 1) q.synchronizer.due q.synchronizer.spread

-- the last place of the last epoch
abbrev pub at_end : Setting → Process → Bool
at_end s q = nat_le (last_place s) q.synchronizer.place && q.synchronizer.epoch == 65535

abbrev pub view_expiry : (ℕ → ℕ) → Table → ℕ → Result Step Refusal
view_expiry leads t p =
    let s = t.setting in
    let q = seat t p in
    cond (at_end s q) (Err LastEpoch) (Ok (on_view_expiry s q p (leads (view_here s q (q.synchronizer.place + 1)))))

abbrev pub spread_expiry : (ℕ → ℕ) → Table → ℕ → Step
spread_expiry leads t p =
    let s = t.setting in
    let q = seat t p in
    on_spread_expiry s q p (leads (view_here s q 1))

abbrev pub expiry : (ℕ → ℕ) → Table → ℕ → ℕ → Result Step Refusal
expiry leads t p timer = cond (timer == 1) (view_expiry leads t p) (Ok (spread_expiry leads t p))

abbrev pub expire_plan : (ℕ → ℕ) → ℕ → ℕ → Moment → ℕ → ℕ → Result Step Refusal
expire_plan leads n room m p timer =
    let q = seat m.table p in
    known n m p
    (cond (is_faulty m p) (Err WrongSide)
    (cond (not (between 1 timer 2)) (Err FieldOutOfRange)
    (cond (not (is_due (deadline_of timer q) q.synchronizer.clock)) (Err Untimely)
    (roomy room m (expiry leads m.table p timer)))))

-- ---- deliver

abbrev pub asked : ℕ → Record → Option ℕ → Heeded
asked p r x = record { by = p; kind = r.kind; number = r.number; value = x }

abbrev pub from_senders : Heeded → ℕ → List Record → ℕ
from_senders h s ws = count_to (λ q. (s == q) || seen (λ r. r.sender) (is_heeded h) ws q) 31

abbrev pub better : Bool → Record → Mark → Mark
better counts r b = cond (counts && nat_lt b.view r.back) (mark r.back r.value) b

unfoldable pub best_from : Heeded → ℕ → ℕ → List Record → Mark → Mark
best_from h i j [] b = b
best_from h i j (r ∷ rs) b = best_from h i (j + 1) rs (better (is_heeded h r || j == i) r b)

abbrev pub best_backing : Heeded → ℕ → List Record → Mark
best_backing h i ws = best_from h i 0 ws (mark 0 0)

-- the certificate that a record claims holds by what is signed
abbrev pub holding : Moment → Record → Bool
holding m r = claim_holds (claim_of m.table.setting.committee r) m.signed.has

-- from how many senders process p has heeded such records, the record's own included
abbrev pub heard_from : Moment → ℕ → Record → Option ℕ → ℕ
heard_from m p r x = from_senders (asked p r x) r.sender (used_of m)

module _ (leads : ℕ → ℕ) (m : Moment) (p i : ℕ) where
  abbrev s : Setting
  s = m.table.setting

  abbrev q : Process
  q = seat m.table p

  abbrev pub voted : Ballot → Record → Step
  voted b r = on_vote s q p r b (leads r.number == p) (heard_from m p r (Some r.value))

  abbrev pub ruled_by : Kind → Record → Step
  ruled_by Disclose r = on_disclose s q p r (heard_from m p r (Some r.value)) (heard_from m p r None) (leads 1)
  ruled_by AllowAny r = on_allow_any s q p (heard_from m p r None) (leads 1)
  ruled_by Certificate r = on_certificate s q p r (holding m r) (leads 1)
  ruled_by EpochCompleted r = on_epoch_completed s q r (heard_from m p r None)
  ruled_by EnterEpoch r = on_enter_epoch s q r (holding m r)
  ruled_by ViewChange r =
      on_view_change s q p r (leads r.number == p) (holding m r) (heard_from m p r None) (best_backing (asked p r None) i (used_of m))
  ruled_by Prepare r = on_prepare q p r (holding m r) (leads r.number)
  ruled_by PrepareVote r = voted ballot.Prepare r
  ruled_by Precommit r = on_precommit q p r (holding m r) (leads r.number)
  ruled_by PrecommitVote r = voted ballot.Precommit r
  ruled_by Commit r = on_commit q p r (holding m r) (leads r.number)
  ruled_by CommitVote r = voted ballot.Commit r
  ruled_by Decide r = on_decide q r (holding m r)

  abbrev pub ruled : Record → Step
  ruled r = ruled_by r.kind r

-- kinds 1 to 3 to an idle process, the others to one that is not running
abbrev pub untimely : Kind → Phase → Bool
untimely k s = cond (nat_le (kind_number k) 3) (idle s) (not (running s))

-- kinds 6 to 12 belong to one view
abbrev pub of_one_view : Kind → Bool
of_one_view k = nat_le 6 (kind_number k) && nat_le (kind_number k) 12

-- of a view that the process has not reached
abbrev pub ahead : Process → Record → Bool
ahead q r = of_one_view r.kind && nat_lt q.core.view r.number

-- kinds 1 to 3 to a running process, kinds 6 to 12 of an earlier view
abbrev pub stale : Process → Record → Bool
stale q r = (nat_le (kind_number r.kind) 3 && running q.certification.phase) || (of_one_view r.kind && nat_lt r.number q.core.view)

abbrev pub undeliverable : Moment → ℕ → ℕ → Bool
undeliverable m p i = let r = record_at m.wire i in nat_le m.table.used i || (not (contains r.to p) || contains r.got p)

-- what a correct process makes of the record at place i: the first cause that stands in the way, and else the step z
abbrev pub taken : ℕ → Moment → ℕ → ℕ → Step → Result Step Refusal
taken room m p i z =
    let q = seat m.table p in
    let r = record_at m.wire i in
    cond (untimely r.kind q.certification.phase) (Err Untimely)
    (cond (ahead q r) (Err ViewAhead)
    (roomy room m (cond (stale q r) (Ok (drops q)) (Ok z))))

-- the same of any process; a faulty one drops what is delivered to it
abbrev pub admitted : ℕ → ℕ → Moment → ℕ → ℕ → Step → Result Step Refusal
admitted n room m p i z =
    known n m p
    (cond (undeliverable m p i) (Err NoSuchRecord)
    (cond (is_faulty m p) (Ok (drops (seat m.table p))) (taken room m p i z)))

abbrev pub deliver_plan : (ℕ → ℕ) → ℕ → ℕ → Moment → ℕ → ℕ → Result Step Refusal
deliver_plan leads n room m p i = admitted n room m p i (ruled leads m p i (record_at m.wire i))

-- ---- inject

abbrev pub drafted : ℕ → Draft → Option Kind → Option Vouch → Option Record
drafted p d None w = None
drafted p d (Some k) None = None
drafted p d (Some k) (Some w) = Some (sent d.to p k d.number d.value d.back w)

abbrev pub draft_of : ℕ → Draft → Option Record
draft_of p d = drafted p d (kind_of d.kind) (vouch_of d.vouch)

abbrev pub injecting : ℕ → ℕ → Moment → ℕ → Option Record → Result Step Refusal
injecting n room m p None = Err FieldOutOfRange
injecting n room m p (Some r) =
    cond (not (in_range m.table.setting.committee.n r)) (Err FieldOutOfRange) (roomy room m (Ok (moves (seat m.table p) r)))

abbrev pub inject_plan : ℕ → ℕ → Moment → ℕ → Draft → Result Step Refusal
inject_plan n room m p d = known n m p (cond (not (is_faulty m p)) (Err WrongSide) (injecting n room m p (draft_of p d)))
