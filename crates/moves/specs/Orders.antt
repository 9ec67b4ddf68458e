-- The moves of a schedule as plain numbers and lists. Assumes nothing.
--   Order         a move with its numbers; of OPEN the small delta stands before the capital one
--   order_of      the order that a move of the code is
--   PlacedOrder   an order, and the byte at which its first field's tag stands
--   placed_of     the placed order that a placed move of the code is
use Rattle.std.specs.Prelude.{ℕ, List, Option}
use Rattle.std.specs.Option.{option_map}
use Rattle.moves.specs.declared.orders.Move.{Move}
use Rattle.moves.specs.declared.orders.Move.TheVariants as move
use Rattle.moves.specs.declared.orders.Placed.{Placed}

pub data Order : Type 0 where
  opens : (register f faulty delay overlap : ℕ) → (rota : Option (List ℕ)) → Order
  proposes : (process value : ℕ) → Order
  ticks : (process count : ℕ) → Order
  expires : (process timer : ℕ) → Order
  delivers : (entry process : ℕ) → Order
  injects : (sender kind to number value back vouch : ℕ) → Order

abbrev pub order_of : Move → Order
order_of (move.Open o) = opens o.register o.f o.faulty o.delay o.overlap (option_map (λ x. x.now) o.rota)
order_of (move.Propose process value) = proposes process value
order_of (move.Tick process count) = ticks process count
order_of (move.Expire process timer) = expires process timer
order_of (move.Deliver entry process) = delivers entry process
order_of (move.Inject i) = injects i.sender i.kind i.to i.number i.value i.back i.vouch

pub record PlacedOrder : Type 0 where
  pub byte : ℕ
  pub order : Order

abbrev pub placed_of : Placed → PlacedOrder
placed_of placed = record { byte = placed.byte; order = order_of placed.order }
