-- The listing of a schedule. Assumes nothing.
--   move_line, fault_line   a line of text for a move, and for the fault, if there is one
--   listing                 a line for each move, then that of the fault
use Rattle.std.specs.Prelude.{ℕ, List, [], ◌++◌, Some, None, codes, Option}
use Rattle.std.specs.List.{flat_map}
use Rattle.moves.specs.declared.faults.Fault.{Fault}
use Rattle.moves.specs.Orders.{PlacedOrder}
use Rattle.moves.specs.Texts.{fault_text, placed_text}
use Rattle.schedule.specs.Reading.{reading}

abbrev pub move_line : PlacedOrder → List ℕ
move_line placed = placed_text placed ++ codes "\n"

abbrev pub fault_line : Option Fault → List ℕ
fault_line None = []
fault_line (Some fault) = fault_text fault ++ codes "\n"

abbrev pub listing : List ℕ → List ℕ
listing bs = flat_map move_line (reading bs).moves ++ fault_line (reading bs).fault
