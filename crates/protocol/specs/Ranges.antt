-- Which processes and boards are in range. Assumes nothing.
--   between a x b       x is from a to b
--   last_tick           the end of every clock
--   last_deadline       the greatest deadline
--   standing_fits f q   where the process stands: epoch, place and view count from 1 while it runs; otherwise these and both deadlines are 0
--   clock_fits q        clock and deadlines
--   votes_fit q         prepared, locked, step and lead
--   values_fit q        a proposal of 0 needs idle, an offer or a vouch of 0 needs not running
--   process_fits f q    all of these
--   setting_fits s      the two durations
--   table_fits t        the setting, and each process below n
--   wire_fits t w       as many records as are used are there, and each of them is in range
use Rattle.std.specs.Prelude.{ℕ, ◌+◌, ◌^◌, Bool, cond, not, ◌&&◌, ◌||◌, List, length, take, ◌==◌, nat_le, nat_lt}
use Rattle.std.specs.List.{list_all}
use Rattle.committee.specs.Views.{is_view, last_view}
use Rattle.wire.specs.declared.record.Record.{Record}
use Rattle.wire.specs.Kinds.{vouch_number}
use Rattle.wire.specs.Ranges.{in_range}
use Rattle.protocol.specs.declared.process.Process.{Process}
use Rattle.protocol.specs.declared.board.Setting.{Setting}
use Rattle.protocol.specs.declared.board.Table.{Table}
use Rattle.protocol.specs.Processes.{idle, running}

abbrev pub between : ℕ → ℕ → ℕ → Bool
between a x b = nat_le a x && nat_le x b

abbrev pub last_tick : ℕ
last_tick = 2 ^ 40

abbrev pub last_deadline : ℕ
last_deadline = 2 ^ 40 + 3000000

abbrev pub standing_fits : ℕ → Process → Bool
standing_fits f q =
    let s = q.synchronizer in
    cond (running q.certification.phase)
    (between 1 s.epoch 65535 && (between 1 s.place (f + 1) && is_view q.core.view))
    (s.epoch == 0 && (s.place == 0 && (q.core.view == 0 && (s.due == 0 && s.spread == 0))))

abbrev pub clock_fits : Process → Bool
clock_fits q = nat_le q.synchronizer.clock last_tick && (nat_le q.synchronizer.due last_deadline && nat_le q.synchronizer.spread last_deadline)

abbrev pub votes_fit : Process → Bool
votes_fit q =
    let k = q.core in
    nat_le k.prepared.view last_view
    && (cond (k.prepared.view == 0) (k.prepared.value == 0) (nat_lt 0 k.prepared.value)
    && (nat_le k.locked.view last_view && (nat_le k.step 3 && nat_le k.lead 4)))

abbrev pub values_fit : Process → Bool
values_fit q =
    let c = q.certification in
    (idle c.phase || nat_lt 0 c.proposal) && (not (running c.phase) || (nat_lt 0 c.offer && nat_lt 0 (vouch_number c.vouch)))

abbrev pub process_fits : ℕ → Process → Bool
process_fits f q = standing_fits f q && (clock_fits q && (votes_fit q && values_fit q))

abbrev pub setting_fits : Setting → Bool
setting_fits s = between 1 s.delay 1000000 && between 1 s.overlap 1000000

abbrev pub table_fits : Table → Bool
table_fits t = setting_fits t.setting && list_all (process_fits t.setting.committee.f) (take t.setting.committee.n t.processes)

abbrev pub wire_fits : Table → List Record → Bool
wire_fits t w = nat_le t.used (length w) && list_all (in_range t.setting.committee.n) (take t.used w)
