-- What is read off a schedule, as a function of its bytes. Assumes nothing.
--   ReadsOne       what one call of the reader answers, and where it stands after
--   walk           steps from place to place, at most so many
--   Reading        the moves up to the end or the first fault, and that fault
--   reading_from   what is read from a place on; as many steps as bytes are left always suffice
--   reading        what is read off a whole schedule
--   Unrolled       that reading goes from move to move, and that no bound on the steps cuts it short
--   Appends        that these moves, and nothing else, were put behind what a list held
--   ReadsAll       what is answered where this was to be read, and what is appended
use Rattle.std.specs.Prelude.{◌≡◌, ℕ, zero, suc, ◌-◌, ◌<◌, ◌≤◌, cond, List, [], ◌∷◌, ◌++◌, map, length, take, Some, None, Ok, Err, Option, Result, nat_lt}
use Rattle.moves.specs.declared.faults.Fault.{Fault}
use Rattle.moves.specs.declared.orders.Placed.{Placed}
use Rattle.schedule.specs.declared.reader.Reader.{Reader}
use Rattle.schedule.specs.declared.reading.Stop.{Stop}
use Rattle.schedule.specs.declared.reading.Stop.TheVariants as stop
use Rattle.moves.specs.Orders.{PlacedOrder, order_of, placed_of}
use Rattle.schedule.specs.Moves.{Step, move_at}

abbrev pub schedule_of : Reader → List ℕ
schedule_of reader = reader.bytes.now

abbrev pub ReadsOne : Reader → Result (Option Placed) Fault → Reader → Type 0
ReadsOne before (Ok None) after = (length (schedule_of before) ≤ before.at) × (after ≡ before)
ReadsOne before (Ok (Some placed)) after =
    (before.at < length (schedule_of before))
    × (placed.byte ≡ before.at)
    × (move_at (schedule_of before) before.at ≡ Ok (record { order = order_of placed.order; next = after.at }))
    × (after.bytes ≡ before.bytes)
ReadsOne before (Err fault) after =
    (before.at < length (schedule_of before)) × (move_at (schedule_of before) before.at ≡ Err fault) × (after ≡ before)

-- a step is told what comes of the place that it goes on to
unfoldable pub walk : {R : Type 0} → ((ℕ → R) → ℕ → R) → R → ℕ → ℕ → R
walk step nothing zero at = nothing
walk step nothing (suc n) at = step (walk step nothing n) at

pub record Reading : Type 0 where
  pub moves : List PlacedOrder
  pub fault : Option Fault

abbrev pub nothing : Reading
nothing = record { moves = []; fault = None }

abbrev pub after_move : (ℕ → Reading) → ℕ → Result Step Fault → Reading
after_move rest at (Err fault) = record { moves = []; fault = Some fault }
after_move rest at (Ok step) =
    record { moves = record { byte = at; order = step.order } ∷ (rest step.next).moves; fault = (rest step.next).fault }

abbrev pub onward : List ℕ → (ℕ → Reading) → ℕ → Reading
onward bs rest at = cond (nat_lt at (length bs)) (after_move rest at (move_at bs at)) nothing

abbrev pub reading_from : List ℕ → ℕ → Reading
reading_from bs at = walk (onward bs) nothing (length bs - at) at

abbrev pub reading : List ℕ → Reading
reading bs = reading_from bs 0

abbrev pub Unrolled : List ℕ → Type 0
Unrolled bs = (at : ℕ) → reading_from bs at ≡ onward bs (reading_from bs) at

pub record Appends (before after : List Placed) (moves : List PlacedOrder) : Type 0 where
  pub added : List Placed
  pub items : after ≡ before ++ added
  pub same : map placed_of added ≡ moves

-- where memory fails, the moves before the one that found no place stand
abbrev pub ReadsAll : Reading → List Placed → Result (Unit {0}) Stop → List Placed → Type 0
ReadsAll whole before (Ok done) after = Appends before after whole.moves × (whole.fault ≡ None)
ReadsAll whole before (Err (stop.Fault fault)) after = Appends before after whole.moves × (whole.fault ≡ Some fault)
ReadsAll whole before (Err stop.NoMemory) after =
    (k : ℕ) × (k < length whole.moves) × Appends before after (take k whole.moves)
