-- What is printed of a whole schedule. Assumes nothing.
--   is_lawful n xs        a list of leaders for n processes
--   rota_size, leads_of   the size of the rota that OPEN names, if it is lawful, and who leads; without a list they lead in turn
--   room_of               the room of the register that OPEN names
--   judged                the number of the register is tested last
--   start t               a new board on a wire of 1,024 records, with an empty register
--   ending                the line of the fault, or the lines of the processes that run
--   Shows                 what is printed once OPEN is judged
--   Sits                  what is printed of moves that are read, and of the fault behind them
--   Sat                   what is printed of a schedule's bytes, behind what was printed before
use Rattle.std.specs.Prelude.{◌≡◌, ℕ, ◌%◌, Bool, cond, ◌&&◌, List, [], ◌∷◌, ◌++◌, length, take, replicate, Some, None, Option, ◌==◌, nat_le, nat_lt, slice_index}
use Rattle.refusals.specs.declared.causes.Refusal.{Refusal}
use Rattle.refusals.specs.declared.causes.Refusal.TheVariants.{FieldOutOfRange}
use Rattle.std.specs.List.{list_all}
use Rattle.committee.specs.Membership.{size_for}
use Rattle.committee.specs.Sets.{of_bits}
use Rattle.protocol.specs.declared.board.Table.{Table}
use Rattle.protocol.specs.Moments.{Moment, moment, signed_of, no_record}
use Rattle.protocol.specs.Opening.{open_cause, Fresh}
use Rattle.protocol.specs.Ranges.{between}
use Rattle.moves.specs.declared.faults.Fault.{Fault}
use Rattle.moves.specs.Orders.{Order, opens, proposes, ticks, expires, delivers, injects, PlacedOrder}
use Rattle.listing.specs.Lines.{fault_line}
use Rattle.schedule.specs.Reading.{reading}
use Rattle.player.specs.declared.outcome.Outcome.TheVariants.{Opened, Refused}
use Rattle.player.specs.Outcomes.{line_of, process_lines}
use Rattle.player.specs.Playing.{playing}

abbrev pub is_lawful : ℕ → List ℕ → Bool
is_lawful n xs = (nat_le 1 (length xs) && nat_le (length xs) 31) && list_all (λ x. nat_lt x n) xs

abbrev pub rota_size : ℕ → Option (List ℕ) → Option ℕ
rota_size n None = Some n
rota_size n (Some xs) = cond (is_lawful n xs) (Some n) None

abbrev pub leads_of : ℕ → Option (List ℕ) → (ℕ → ℕ)
leads_of n None = λ v. v % n
leads_of n (Some xs) = λ v. slice_index xs (v % length xs)

abbrev pub room_of : ℕ → ℕ
room_of register = cond (register == 1) 1024 2048

abbrev pub judged : ℕ → Option Refusal → Option Refusal
judged register (Some e) = Some e
judged register None = cond (between 1 register 2) None (Some FieldOutOfRange)

abbrev pub start : Table → Moment
start t = moment t (replicate 1024 no_record) (signed_of [])

abbrev pub ending : Table → Option Fault → List ℕ
ending t None = process_lines 0 (take t.setting.committee.n t.processes)
ending t (Some fault) = fault_line (Some fault)

-- the lines of a sitting on a fresh table
abbrev pub lines : (ℕ → ℕ) → ℕ → Table → List PlacedOrder → Option Fault → List ℕ
lines leads room t os fault =
    let n = t.setting.committee.n in
    let p = playing leads n room 2 (start t) os in
    line_of 1 (Opened n) ++ (p.text ++ ending p.last.table fault)

abbrev pub Shows : (ℕ → ℕ) → ℕ → ℕ → ℕ → ℕ → ℕ → List PlacedOrder → Option Fault → Option Refusal → List ℕ → Type 0
Shows leads room f faulty delay overlap os fault (Some e) text = text ≡ line_of 1 (Refused e)
Shows leads room f faulty delay overlap os fault None text = (t : Table) × Fresh f (of_bits faulty) delay overlap t × (text ≡ lines leads room t os fault)

-- the first move that is read is always OPEN
abbrev pub SitsFrom : Order → List PlacedOrder → Option Fault → List ℕ → Type 0
SitsFrom (opens register f faulty delay overlap rota) os fault text =
    let n = size_for f in
    Shows (leads_of n rota) (room_of register) f faulty delay overlap os fault (judged register (open_cause f (of_bits faulty) delay overlap 0 (rota_size n rota))) text
SitsFrom (proposes p x) os fault text = text ≡ []
SitsFrom (ticks p k) os fault text = text ≡ []
SitsFrom (expires p t) os fault text = text ≡ []
SitsFrom (delivers i p) os fault text = text ≡ []
SitsFrom (injects p kind to number value back vouch) os fault text = text ≡ []

abbrev pub Sits : List PlacedOrder → Option Fault → List ℕ → Type 0
Sits [] fault text = text ≡ fault_line fault
Sits (o ∷ os) fault text = SitsFrom o.order os fault text

abbrev pub Behind : (List ℕ → Type 0) → List ℕ → List ℕ → Type 0
Behind P before after = (text : List ℕ) × (after ≡ before ++ text) × P text

abbrev pub Sat : List ℕ → List ℕ → List ℕ → Type 0
Sat bs before after = Behind (Sits (reading bs).moves (reading bs).fault) before after
