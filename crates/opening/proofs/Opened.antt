-- An opened board is a new one, for the durations that it holds, and what every run promises holds of it. Assumes nothing.
use Rattle.std.proofs.Common.{ℕ, ◌<◌, length, Ok, Option}
use Rattle.committee.specs.declared.rota.Rota.{Ghosts as RotaMeans}
use Rattle.committee.specs.declared.sets.ProcessSet.{ProcessSet}
use Rattle.register.specs.declared.ledger.Register.{Ghosts as RegisterMeans}
use Rattle.protocol.specs.declared.board.Board.{Board}
use Rattle.protocol.specs.Opening.{Opens}
use Rattle.safety.specs.Promises.{Begins}
use Rattle.safety.proofs.Going.{opens_begins}

module _ {R G : Type 0} (ρ : RotaMeans R) (γ : RegisterMeans G) (law : (r : R) (v : ℕ) → ρ.leader r v < ρ.size r) where
  pub opened_begins : (f : ℕ) (faulty : ProcessSet) (rota : Option R) (g : G) (b : Board R)
      → Opens ρ f faulty b.table.setting.delay b.table.setting.overlap rota (length (γ.pairs g)) (Ok b) → Begins ρ γ b g
  opened_begins f faulty rota g b o = opens_begins ρ γ law f faulty b.table.setting.delay b.table.setting.overlap rota g (Ok b) o
