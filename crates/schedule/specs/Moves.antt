-- The move that begins at a place of a schedule. Assumes nothing.
--   Step          an order, and the place behind its fields
--   opened        OPEN with the numbers in its content, and the list behind it, if any
--   open_at       OPEN with the ROTA behind it, or the fault of that ROTA
--   later_order   the order of a field that is not the first, if it begins a move
--   move_at       the move that begins at a place, or the fault that stands in its way
--   Makes         that the code answers such a move or fault
use Rattle.std.specs.Prelude.{◌≡◌, ℕ, Bool, cond, List, Some, None, Ok, Err, Option, Result, ◌==◌, slice_index}
use Rattle.refusals.specs.declared.causes.Refusal.TheVariants.{OutOfPlace}
use Rattle.moves.specs.Orders.{Order, opens, proposes, ticks, expires, delivers, injects, order_of}
use Rattle.moves.specs.declared.faults.Fault.{Fault}
use Rattle.moves.specs.declared.orders.Move.{Move}
use Rattle.schedule.specs.declared.tags.Tag.{Tag}
use Rattle.schedule.specs.declared.tags.Tag.TheVariants.{Open, Rota, Propose, Tick, Expire, Deliver, Inject}
use Rattle.schedule.specs.Numbers.{two_at, four_at}
use Rattle.schedule.specs.Tags.{is_open}
use Rattle.schedule.specs.Fields.{tag_at, behind_at, content_at, known_at, move_fault}

pub record Step : Type 0 where
  pub order : Order
  pub next : ℕ

abbrev pub opened : List ℕ → Option (List ℕ) → Order
opened content rota = opens (slice_index content 0) (slice_index content 1) (four_at content 2) (four_at content 6) (four_at content 10) rota

abbrev pub with_rota : List ℕ → List ℕ → ℕ → Result Tag Fault → Result Step Fault
with_rota bs content at (Err fault) = Err fault
with_rota bs content at (Ok tag) = Ok (record { order = opened content (Some (content_at bs at)); next = behind_at bs at })

-- the field behind OPEN belongs to it if its tag is that of ROTA, be it in order or not
abbrev pub open_at : List ℕ → ℕ → Result Step Fault
open_at bs at =
    cond (tag_at bs (behind_at bs at) == 0x02)
    (with_rota bs (content_at bs at) (behind_at bs at) (known_at bs (behind_at bs at)))
    (Ok (record { order = opened (content_at bs at) None; next = behind_at bs at }))

abbrev pub injected : List ℕ → Order
injected content = injects (slice_index content 0) (slice_index content 1) (four_at content 2) (four_at content 6) (two_at content 10) (four_at content 12) (slice_index content 16)

-- the order of a field that is not the first: neither OPEN nor ROTA begins a move there
abbrev pub later_order : Tag → List ℕ → Option Order
later_order Open content = None
later_order Rota content = None
later_order Propose content = Some (proposes (slice_index content 0) (two_at content 1))
later_order Tick content = Some (ticks (slice_index content 0) (four_at content 1))
later_order Expire content = Some (expires (slice_index content 0) (slice_index content 1))
later_order Deliver content = Some (delivers (two_at content 0) (slice_index content 2))
later_order Inject content = Some (injected content)

abbrev pub later_at : List ℕ → ℕ → Option Order → Result Step Fault
later_at bs at None = Err (move_fault OutOfPlace at)
later_at bs at (Some order) = Ok (record { order = order; next = behind_at bs at })

abbrev pub first_at : List ℕ → ℕ → Bool → Result Step Fault
first_at bs at is_open = cond is_open (open_at bs at) (Err (move_fault OutOfPlace at))

abbrev pub made_at : List ℕ → ℕ → Tag → Result Step Fault
made_at bs at tag = cond (at == 0) (first_at bs at (is_open tag)) (later_at bs at (later_order tag (content_at bs at)))

abbrev pub started_at : List ℕ → ℕ → Result Tag Fault → Result Step Fault
started_at bs at (Err fault) = Err fault
started_at bs at (Ok tag) = made_at bs at tag

abbrev pub move_at : List ℕ → ℕ → Result Step Fault
move_at bs at = started_at bs at (known_at bs at)

-- what the code answers, a move and the place behind it, is this step or this fault
abbrev pub Makes : Result Step Fault → Result (Move × ℕ) Fault → Type 0
Makes step (Ok made) = step ≡ Ok (record { order = order_of made.0; next = made.1 })
Makes step (Err fault) = step ≡ Err fault
