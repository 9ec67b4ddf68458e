-- The edge cases of single moves, played on the definitions. Assumes nothing.
--   is_refused k, is_answered t   a plan that is refused with this number, or whose answer passes the test
--   expiring t                    the view timer of a process that began at 0, with delays of 10 and 5 ticks, expires at t
--   entering k                    ENTER-EPOCH 2 comes to a process in epoch 1, where k processes have completed it
--   move_cases                    each case as a test
use Rattle.std.specs.Prelude.{ℕ, ◌%◌, Bool, true, false, List, [], ◌∷◌, replicate, slice_set, take, Ok, Err, Result, eqb}
use Rattle.refusals.specs.declared.causes.Refusal.{Refusal}
use Rattle.refusals.specs.Numbers.{refusal_number}
use Rattle.committee.specs.Sets.{of_bits}
use Rattle.register.specs.declared.pair.Pair.{Pair}
use Rattle.wire.specs.declared.kind.Kind.TheVariants.{EnterEpoch}
use Rattle.wire.specs.declared.record.Record.{Record}
use Rattle.wire.specs.declared.vouch.Vouch.TheVariants.{Nothing, Disclosed}
use Rattle.wire.specs.Shares.{statement}
use Rattle.protocol.specs.declared.board.Setting.{Setting}
use Rattle.protocol.specs.declared.process.Phase.TheVariants.{Certifying}
use Rattle.protocol.specs.declared.process.Process.{Process}
use Rattle.protocol.specs.declared.step.Answer.{Answer}
use Rattle.protocol.specs.declared.step.Answer.TheVariants.{Moved, Dropped, Heeded, Acted}
use Rattle.protocol.specs.declared.step.Step.{Step}
use Rattle.protocol.specs.Processes.{blank_process, certification_of, with_certification}
use Rattle.protocol.specs.Sending.{sent}
use Rattle.protocol.specs.Certifying.{begun}
use Rattle.protocol.specs.Moments.{Moment, moment, signed_of, no_record}
use Rattle.protocol.specs.Plans.{later, expire_plan, deliver_plan}
use Rattle.safety.specs.Witnesses.{four}

abbrev pub is_refused : ℕ → Result Step Refusal → Bool
is_refused k (Err e) = eqb (refusal_number e) k
is_refused k (Ok z) = false

abbrev pub is_answered : (Answer → Bool) → Result Step Refusal → Bool
is_answered t (Err e) = false
is_answered t (Ok z) = t z.answer

abbrev pub is_moved : Answer → Bool
is_moved (Moved k) = true
is_moved Dropped = false
is_moved Heeded = false
is_moved (Acted k) = false

abbrev pub is_dropped : Answer → Bool
is_dropped (Moved k) = false
is_dropped Dropped = true
is_dropped Heeded = false
is_dropped (Acted k) = false

abbrev pub is_acted : Answer → Bool
is_acted (Moved k) = false
is_acted Dropped = false
is_acted Heeded = false
is_acted (Acted k) = true

abbrev pub by_turns : ℕ → ℕ
by_turns v = v % 4

abbrev pub setting : Setting
setting = record { committee = four; delay = 10; overlap = 5 }

-- a process that has proposed 7 and then begun with it, so many ticks ago
abbrev pub begun_before : ℕ → Process
begun_before t = later (begun setting (with_certification (certification_of Certifying 7 0 Nothing false) blank_process) 7 Disclosed) t

-- process 0 is the only one that runs
abbrev pub after : ℕ → List Record → ℕ → List Pair → Moment
after t wire used pairs = moment (record { setting = setting; processes = slice_set (replicate 31 blank_process) 0 (begun_before t); used = used }) wire (signed_of pairs)

abbrev pub expiring : ℕ → Result Step Refusal
expiring t = expire_plan by_turns 4 64 (after t (replicate 2 no_record) 0 []) 0 1

abbrev pub completed : ℕ → Pair
completed p = record { process = p; statement = statement 3 1 0 }

abbrev pub entering : ℕ → Result Step Refusal
entering k =
    deliver_plan by_turns 4 64
    (after 0 (sent (of_bits 1) 3 EnterEpoch 2 0 0 Nothing ∷ no_record ∷ no_record ∷ []) 1 (take k (completed 0 ∷ completed 1 ∷ completed 2 ∷ []))) 0 0

abbrev pub move_cases : List Bool
move_cases =
    -- the view timer measures 25 ticks: at 24 it is not due, at 25 it is
    is_refused 10 (expiring 24)
    ∷ is_answered is_moved (expiring 25)
    -- f = 1: two signers do not open epoch 2, three do
    ∷ is_answered is_dropped (entering 2)
    ∷ is_answered is_acted (entering 3)
    ∷ []
