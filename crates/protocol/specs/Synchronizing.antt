-- The synchronizer: from view to view, and from epoch to epoch. Assumes nothing.
--   last_place s         the last place of an epoch
--   on_view_expiry       the next view of the epoch, whose leader is l; or the epoch is completed
--   awaiting s q e       the process in epoch e, its view timer off and its spread timer armed afresh
--   on_epoch_completed   from so many senders
--   on_enter_epoch       whether its certificate holds
--   on_spread_expiry     the first view of the epoch is entered; l is its leader
use Rattle.std.specs.Prelude.{ℕ, ◌+◌, Bool, cond, ◌&&◌, nat_le, nat_lt}
use Rattle.committee.specs.Thresholds.{quorum_of}
use Rattle.committee.specs.Views.{view_of}
use Rattle.wire.specs.declared.kind.Kind.TheVariants.{EpochCompleted, EnterEpoch}
use Rattle.wire.specs.declared.record.Record.{Record}
use Rattle.protocol.specs.declared.process.Process.{Process}
use Rattle.protocol.specs.declared.board.Setting.{Setting}
use Rattle.protocol.specs.declared.step.Step.{Step}
use Rattle.protocol.specs.Processes.{process_of, synchronizer_of, with_synchronizer}
use Rattle.protocol.specs.Sending.{to_all, view_change}
use Rattle.protocol.specs.Steps.{moves, moves_twice, drops, heeds, acts}
use Rattle.protocol.specs.Certifying.{entering, view_ticks}

abbrev pub last_place : Setting → ℕ
last_place s = s.committee.f + 1

-- the view at a place of the process's epoch
abbrev pub view_here : Setting → Process → ℕ → ℕ
view_here s q place = view_of s.committee.f q.synchronizer.epoch place

-- the process that enters the view at a place of its epoch, with its view timer armed
abbrev pub entered : Setting → Process → ℕ → Process
entered s q place =
    let y = q.synchronizer in
    process_of q.certification (synchronizer_of y.epoch place y.clock (y.clock + view_ticks s) y.spread) (entering (view_here s q place) q.core)

abbrev pub timer_off : Process → Process
timer_off q = let y = q.synchronizer in with_synchronizer (synchronizer_of y.epoch y.place y.clock 0 y.spread) q

abbrev pub spread_off : Process → Process
spread_off q = let y = q.synchronizer in with_synchronizer (synchronizer_of y.epoch y.place y.clock y.due 0) q

abbrev pub on_view_expiry : Setting → Process → ℕ → ℕ → Step
on_view_expiry s q p l =
    let next = q.synchronizer.place + 1 in
    cond (nat_lt q.synchronizer.place (last_place s))
    (moves (entered s q next) (view_change l p (view_here s q next) q.core))
    (moves (timer_off q) (to_all s.committee p EpochCompleted q.synchronizer.epoch 0))

abbrev pub awaiting : Setting → Process → ℕ → Process
awaiting s q e = let y = q.synchronizer in with_synchronizer (synchronizer_of e y.place y.clock 0 (y.clock + s.delay)) q

abbrev pub on_epoch_completed : Setting → Process → Record → ℕ → Step
on_epoch_completed s q r from =
    cond (nat_le q.synchronizer.epoch r.number && nat_le (quorum_of s.committee) from) (acts (awaiting s q (r.number + 1))) (heeds q)

abbrev pub on_enter_epoch : Setting → Process → Record → Bool → Step
on_enter_epoch s q r holds = cond (nat_lt q.synchronizer.epoch r.number && holds) (acts (awaiting s q r.number)) (drops q)

abbrev pub on_spread_expiry : Setting → Process → ℕ → ℕ → Step
on_spread_expiry s q p l =
    moves_twice (entered s (spread_off q) 1) (to_all s.committee p EnterEpoch q.synchronizer.epoch 0) (view_change l p (view_here s q 1) q.core)
