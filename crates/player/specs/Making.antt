-- What the moves of a schedule make of a sitting. Assumes nothing.
--   PlaysOut    what is printed and what is left are those of the moves in their order, numbered from 2 on
--   MakesMove   the answer and the moment are those of the move, the rota stays, and the sitting goes on
use Rattle.std.specs.Prelude.{◌≡◌, ℕ, List, ◌++◌, Result}
use Rattle.refusals.specs.declared.causes.Refusal.{Refusal}
use Rattle.committee.specs.declared.rota.Rota.{Ghosts as RotaMeans}
use Rattle.register.specs.declared.ledger.Register.{Ghosts as RegisterMeans}
use Rattle.protocol.specs.declared.step.Answer.{Answer}
use Rattle.protocol.specs.Runs.{Sitting, moment_of, Onward}
use Rattle.moves.specs.Orders.{Order, PlacedOrder}
use Rattle.player.specs.Playing.{Told, made, Played, playing}

module _ {R G : Type 0} (ρ : RotaMeans R) (γ : RegisterMeans G) where
  abbrev pub made_of : Sitting R G → Order → Told
  made_of a o = made (ρ.leader a.board.rota) (ρ.size a.board.rota) γ.ROOM (moment_of γ a) o

  pub record MakesMove (a : Sitting R G) (o : Order) (b : Sitting R G) (r : Result Answer Refusal) : Type 0 where
    pub answer : r ≡ (made_of a o).answer
    pub after : moment_of γ b ≡ (made_of a o).after
    pub same : b.board.rota ≡ a.board.rota
    pub onward : Onward ρ γ a b

  abbrev pub playing_of : Sitting R G → ℕ → List PlacedOrder → Played
  playing_of a k os = playing (ρ.leader a.board.rota) (ρ.size a.board.rota) γ.ROOM k (moment_of γ a) os

  -- what is left, and what is printed behind what was printed before
  pub record PlaysOut (a : Sitting R G) (os : List PlacedOrder) (b : Sitting R G) (before after : List ℕ) : Type 0 where
    pub text : after ≡ before ++ (playing_of a 2 os).text
    pub last : moment_of γ b ≡ (playing_of a 2 os).last
    pub same : b.board.rota ≡ a.board.rota
