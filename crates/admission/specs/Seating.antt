-- The board and the process that a move is tested for, and whether the process takes a record. Assumes nothing.
--   in_order n t w   the rota, of size n, fits the committee, and board and used records are in range
--   FindsOrder       they are, or that is the cause
--   Seated t p s     this is the seat of the process, which stands at a place of its epoch
--   Admits           the process takes records of this kind and view, or the first cause that stands in the way
use Rattle.std.specs.Prelude.{◌≡◌, ℕ, ◌+◌, ◌≤◌, Bool, true, false, cond, ◌&&◌, List, Ok, Err, Result, ◌==◌}
use Rattle.refusals.specs.declared.causes.Refusal.{Refusal}
use Rattle.refusals.specs.declared.causes.Refusal.TheVariants.{BoardOutOfRange, Untimely, ViewAhead}
use Rattle.wire.specs.declared.record.Record.{Record}
use Rattle.protocol.specs.declared.board.Table.{Table}
use Rattle.protocol.specs.declared.process.Process.{Process}
use Rattle.protocol.specs.declared.seat.Seat.{Seat}
use Rattle.protocol.specs.declared.step.Step.{Step}
use Rattle.protocol.specs.Ranges.{table_fits, wire_fits}
use Rattle.protocol.specs.Plans.{seat, ahead, untimely}

abbrev pub in_order : ℕ → Table → List Record → Bool
in_order n t w = n == t.setting.committee.n && (table_fits t && wire_fits t w)

abbrev pub FindsOrder : ℕ → Table → List Record → Result (Unit {0}) Refusal → Type 0
FindsOrder n t w (Ok u) = in_order n t w ≡ true
FindsOrder n t w (Err e) = (in_order n t w ≡ false) × (e ≡ BoardOutOfRange)

pub record Seated (t : Table) (p : ℕ) (s : Seat) : Type 0 where
  pub setting : s.setting ≡ t.setting
  pub number : s.number ≡ p
  pub process : s.process ≡ seat t p
  pub place : s.process.synchronizer.place ≤ s.setting.committee.f + 1

abbrev pub Admits : Process → Record → Result (Unit {0}) Refusal → Type 0
Admits q r (Ok u) = (untimely r.kind q.certification.phase ≡ false) × (ahead q r ≡ false)
Admits q r (Err e) = (rest : Result Step Refusal) → Err e ≡ cond (untimely r.kind q.certification.phase) (Err Untimely) (cond (ahead q r) (Err ViewAhead) rest)
