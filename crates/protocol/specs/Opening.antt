-- What open answers, and the board that it makes. Assumes nothing.
--   open_cause   the first cause that stands in the way: of f, the faulty set, the durations, the pairs held, and the rota's size, if there is a rota
--   Fresh        the table for these numbers: every process is blank, and no record is used
--   Opened       the board with such a table and this rota
--   Opens        a board that is opened, or the cause
use Rattle.std.specs.Prelude.{◌≡◌, ℕ, Bool, false, cond, not, ◌&&◌, replicate, Some, None, Ok, Err, Option, Result, ◌==◌}
use Rattle.std.specs.Option.{option_map}
use Rattle.refusals.specs.declared.causes.Refusal.{Refusal}
use Rattle.refusals.specs.declared.causes.Refusal.TheVariants.{NotACommittee, DurationOutOfRange, RegisterNotEmpty, RotaUnfit}
use Rattle.committee.specs.declared.rota.Rota.{Ghosts as RotaMeans}
use Rattle.committee.specs.declared.sets.ProcessSet.{ProcessSet}
use Rattle.committee.specs.Membership.{is_committee, size_for}
use Rattle.protocol.specs.declared.board.Board.{Board}
use Rattle.protocol.specs.declared.board.Table.{Table}
use Rattle.protocol.specs.Processes.{blank_process}
use Rattle.protocol.specs.Ranges.{between}

abbrev pub is_size : ℕ → Option ℕ → Bool
is_size n None = false
is_size n (Some size) = size == n

abbrev pub open_cause : ℕ → ProcessSet → ℕ → ℕ → ℕ → Option ℕ → Option Refusal
open_cause f faulty delay overlap held size =
    cond (not (is_committee f faulty.bits)) (Some NotACommittee)
    (cond (not (between 1 delay 1000000 && between 1 overlap 1000000)) (Some DurationOutOfRange)
    (cond (not (held == 0)) (Some RegisterNotEmpty)
    (cond (not (is_size (size_for f) size)) (Some RotaUnfit)
    None)))

pub record Fresh (f : ℕ) (faulty : ProcessSet) (delay overlap : ℕ) (t : Table) : Type 0 where
  pub size : t.setting.committee.n ≡ size_for f
  pub bound : t.setting.committee.f ≡ f
  pub faults : t.setting.committee.faulty ≡ faulty
  pub spreads : t.setting.delay ≡ delay
  pub overlaps : t.setting.overlap ≡ overlap
  pub still : t.processes ≡ replicate 31 blank_process
  pub unused : t.used ≡ 0

pub record Opened {R : Type 0} (f : ℕ) (faulty : ProcessSet) (delay overlap : ℕ) (rota : Option R) (b : Board R) : Type 0 where
  pub fresh : Fresh f faulty delay overlap b.table
  pub led : Some b.rota ≡ rota

module _ {R : Type 0} (ρ : RotaMeans R) (f : ℕ) (faulty : ProcessSet) (delay overlap : ℕ) (rota : Option R) (held : ℕ) where
  abbrev pub cause : Option Refusal
  cause = open_cause f faulty delay overlap held (option_map ρ.size rota)

  abbrev pub Opens : Result (Board R) Refusal → Type 0
  Opens (Ok b) = (cause ≡ None) × Opened f faulty delay overlap rota b
  Opens (Err e) = cause ≡ Some e
