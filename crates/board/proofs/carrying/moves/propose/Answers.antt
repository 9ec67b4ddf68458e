use Rattle.std.proofs.Common.{refl}
use Rattle.protocol.specs.Runs.{sitting, moment_of}
use Rattle.protocol.specs.Runs.Move.{proposes}
use Rattle.safety.proofs.Readying.{propose_doable}
use Rattle.board.proofs.Moving.{step_doable, stays, carried}
use Rattle.board.proofs.carrying.moves.propose.Goals as goal

pub returns-in_err-step-clause-keeps : goal.returns-in_err-step-clause-keeps
returns-in_err-step-clause-keeps g c = stays g.R.Rota g.G.Register g.met.R.Rota.inside (sitting c.args.board.now c.args.wire.now c.args.register.now)

pub carry_out-requires : goal.carry_out-requires
carry_out-requires g c =
    let m = moment_of g.G.Register (sitting c.args.board.now c.args.wire.now c.args.register.now) in
    step_doable g.G.Register.ROOM _ m _ c.in_ok-step.step c.in_ok-step.ensures (propose_doable _ _ m _ _)

pub returns-clause-keeps : goal.returns-clause-keeps
returns-clause-keeps g c =
    let a = sitting c.args.board.now c.args.wire.now c.args.register.now in
    carried g.R.Rota g.G.Register g.met.R.Rota.inside a _ _ c.in_ok-step.step _ c.in_ok-step.ensures refl c.carry_out.ensures.leaves (proposes _ _ _)
