use Rattle.std.proofs.Common.{◌≡◌, ℕ, Ok, refl, rules}
use Rattle.protocol.specs.Plans.{tick_plan}
use Rattle.protocol.specs.Runs.{sitting, moment_of}
use Rattle.protocol.specs.Runs.Move.{ticks}
use Rattle.safety.proofs.Readying.{tick_doable}
use Rattle.board.proofs.Moving.{step_doable, stays, carried}
use Rattle.board.proofs.carrying.moves.tick.Goals as goal

pub returns-in_err-step-clause-keeps : goal.returns-in_err-step-clause-keeps
returns-in_err-step-clause-keeps g c = stays g.R.Rota g.G.Register g.met.R.Rota.inside (sitting c.args.board.now c.args.wire.now c.args.register.now)

-- both hold for whatever number of ticks was planned
pub carry_out-requires : goal.carry_out-requires
carry_out-requires g c =
    let m = moment_of g.G.Register (sitting c.args.board.now c.args.wire.now c.args.register.now) in
    let planned : (k : ℕ) × (Ok c.in_ok-step.step ≡ tick_plan (g.R.Rota.size c.args.board.now.rota) m c.args.process k) = search rules in
    step_doable g.G.Register.ROOM _ m _ c.in_ok-step.step planned.1 (tick_doable _ g.G.Register.ROOM m _ planned.0)

pub returns-clause-keeps : goal.returns-clause-keeps
returns-clause-keeps g c =
    let a = sitting c.args.board.now c.args.wire.now c.args.register.now in
    let planned : (k : ℕ) × (Ok c.in_ok-step.step ≡ tick_plan (g.R.Rota.size c.args.board.now.rota) (moment_of g.G.Register a) c.args.process k) = search rules in
    carried g.R.Rota g.G.Register g.met.R.Rota.inside a _ _ c.in_ok-step.step _ planned.1 refl c.carry_out.ensures.leaves (ticks _ planned.0 _)
