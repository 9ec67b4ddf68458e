-- Sittings that there are: the promises are not kept by there being no runs. Assumes nothing.
--   in_turn       four processes that lead in turn, process v mod 4 in view v
--   pairs_held    a register that is its list of pairs
--   four          a committee of four, none of them faulty
--   SomeDecide    a run at whose end two correct processes have decided one value
--   SomeAdvance   a run at whose end a correct process is in epoch 2
use Rattle.std.specs.Prelude.{◌≡◌, ℕ, ◌%◌, ◌<◌, ◌≤◌, List, refl}
use Rattle.std.proofs.Common.{sym, subst, lit<, lit≤}
use lib.Count.{ones}
use Rattle.committee.specs.declared.membership.Committee.{Committee}
use Rattle.committee.specs.Sets.{of_bits}
use Rattle.committee.specs.declared.rota.Rota.{Ghosts as RotaMeans}
use Rattle.register.specs.declared.ledger.Register.{Ghosts as RegisterMeans}
use Rattle.register.specs.declared.pair.Pair.{Pair}
use Rattle.protocol.specs.Plans.{seat}
use Rattle.protocol.specs.Runs.{Sitting, moment_of, Run}
use Rattle.safety.specs.Kept.{committee_of}
use Rattle.safety.specs.Promises.{IsMember, HasDecided}

abbrev pub in_turn : RotaMeans (Unit {0})
in_turn = record { size = λ _. 4; leader = λ _ v. v % 4 }

abbrev pub pairs_held : RegisterMeans (List Pair)
pairs_held = record { ROOM = 2048; pairs = λ xs. xs }

pub none_faulty : ones 0 ≡ 0
unfolding ones
none_faulty = refl

unfoldable pub four : Committee
four =
    let Few : ℕ → Type 0 = λ k. k ≤ 1 in
    record { n = 4; f = 1; faulty = of_bits 0; low = lit≤ tt; high = lit≤ tt; whole = refl; inside = lit< tt; few = subst Few (sym none_faulty) (lit≤ tt) }

pub record SomeDecide : Type 0 where
  pub end : Sitting (Unit {0}) (List Pair)
  pub run : Run in_turn pairs_held end
  pub one : ℕ
  pub other : ℕ
  pub value : ℕ
  pub two : one < other
  pub members : IsMember (committee_of (moment_of pairs_held end)) one × IsMember (committee_of (moment_of pairs_held end)) other
  pub decided : HasDecided end.board.table one value × HasDecided end.board.table other value

pub record SomeAdvance : Type 0 where
  pub end : Sitting (Unit {0}) (List Pair)
  pub run : Run in_turn pairs_held end
  pub one : ℕ
  pub member : IsMember (committee_of (moment_of pairs_held end)) one
  pub epoch : (seat end.board.table one).synchronizer.epoch ≡ 2
