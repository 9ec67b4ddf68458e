-- Moves and faults as text, the numbers in decimal. Assumes nothing.
--   fault_text    the word, the number of the cause, the byte
--   spaced        a number, with a blank before it
--   rota_text     what stands behind the numbers of OPEN
--   order_text    the move's name and its numbers, in the order of its content
--   placed_text   the byte and the move
use Rattle.std.specs.Prelude.{ℕ, List, [], ◌++◌, Some, None, codes, decimal, Option}
use Rattle.std.specs.List.{flat_map}
use Rattle.refusals.specs.Numbers.{refusal_number}
use Rattle.moves.specs.declared.faults.Fault.{Fault}
use Rattle.moves.specs.Orders.{Order, opens, proposes, ticks, expires, delivers, injects, PlacedOrder}

abbrev pub fault_text : Fault → List ℕ
fault_text fault = codes "fault " ++ (decimal (refusal_number fault.cause) ++ (codes " " ++ decimal fault.byte))

abbrev pub spaced : ℕ → List ℕ
spaced n = codes " " ++ decimal n

abbrev pub rota_text : Option (List ℕ) → List ℕ
rota_text None = []
rota_text (Some processes) = codes " ROTA" ++ flat_map spaced processes

abbrev pub order_text : Order → List ℕ
order_text (opens register f faulty delay overlap rota) =
    codes "OPEN" ++ (spaced register ++ (spaced f ++ (spaced faulty ++ (spaced delay ++ (spaced overlap ++ rota_text rota)))))
order_text (proposes process value) = codes "PROPOSE" ++ (spaced process ++ spaced value)
order_text (ticks process count) = codes "TICK" ++ (spaced process ++ spaced count)
order_text (expires process timer) = codes "EXPIRE" ++ (spaced process ++ spaced timer)
order_text (delivers entry process) = codes "DELIVER" ++ (spaced entry ++ spaced process)
order_text (injects sender kind to number value back vouch) =
    codes "INJECT" ++ (spaced sender ++ (spaced kind ++ (spaced to ++ (spaced number ++ (spaced value ++ (spaced back ++ spaced vouch))))))

abbrev pub placed_text : PlacedOrder → List ℕ
placed_text placed = decimal placed.byte ++ (codes " " ++ order_text placed.order)
