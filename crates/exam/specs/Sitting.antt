-- The lines of a sitting on a board and a register. Assumes nothing.
--   lines_on       what is printed from a board that is open on
--   cause_of       why OPEN is refused: of the pairs held, and of the size of its rota, if there is a rota
--   OpensNamed     a board that is opened, with a register that there is, or the cause
--   ShowsBy        what is printed once OPEN, with a rota of this size, if there is a rota, is judged
--   leads_by       who leads by a rota; without one nobody is asked
use Rattle.std.specs.Prelude.{◌≡◌, ℕ, List, ◌++◌, map, replicate, Some, None, Ok, Err, Option, Result}
use Rattle.std.specs.Option.{option_map}
use Rattle.refusals.specs.declared.causes.Refusal.{Refusal}
use Rattle.committee.specs.Sets.{of_bits}
use Rattle.committee.specs.declared.rota.Rota.{Ghosts as RotaMeans}
use Rattle.register.specs.declared.ledger.Register.{Ghosts as RegisterMeans}
use Rattle.protocol.specs.declared.board.Board.{Board}
use Rattle.protocol.specs.Moments.{moment, signed_of, no_record}
use Rattle.protocol.specs.Opening.{open_cause, Opened as IsOpened}
use Rattle.moves.specs.declared.orders.Opening.{Opening}
use Rattle.moves.specs.Orders.{placed_of}
use Rattle.exam.specs.declared.sitting.Rest.{Rest}
use Rattle.player.specs.declared.outcome.Outcome.TheVariants.{Opened}
use Rattle.player.specs.Outcomes.{line_of}
use Rattle.player.specs.Playing.{playing}
use Rattle.exam.specs.Schedules.{ending, judged, Shows}

abbrev pub lines_on : {R G : Type 0} → RotaMeans R → RegisterMeans G → Board R → G → Rest → List ℕ
lines_on ρ γ b g rest =
    let p = playing (ρ.leader b.rota) (ρ.size b.rota) γ.ROOM 2 (moment b.table (replicate 1024 no_record) (signed_of (γ.pairs g))) (map placed_of rest.moves.now) in
    line_of 1 (Opened b.table.setting.committee.n) ++ (p.text ++ ending p.last.table rest.fault)

abbrev pub cause_of : Opening → ℕ → Option ℕ → Option Refusal
cause_of o held size = judged o.register (open_cause o.f (of_bits o.faulty) o.delay o.overlap held size)

abbrev pub OpensNamed : {R : Type 0} → RotaMeans R → Opening → Option R → ℕ → Result (Board R) Refusal → Type 0
OpensNamed ρ o rota held (Ok b) =
    (cause_of o held (option_map ρ.size rota) ≡ None) × IsOpened o.f (of_bits o.faulty) o.delay o.overlap rota b × (ρ.size b.rota ≡ b.table.setting.committee.n)
OpensNamed ρ o rota held (Err e) = cause_of o held (option_map ρ.size rota) ≡ Some e

abbrev pub leads_by : {R : Type 0} → RotaMeans R → Option R → (ℕ → ℕ)
leads_by ρ None = λ v. 0
leads_by ρ (Some r) = ρ.leader r

abbrev pub ShowsBy : (ℕ → ℕ) → ℕ → Opening → Option ℕ → Rest → List ℕ → Type 0
ShowsBy leads room o size rest text =
    Shows leads room o.f o.faulty o.delay o.overlap (map placed_of rest.moves.now) rest.fault (cause_of o 0 size) text
