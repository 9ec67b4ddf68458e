use Rattle.std.proofs.Common.{sym, refl, subst}
use Rattle.protocol.specs.Runs.{sitting, moment_of}
use Rattle.protocol.specs.Runs.Move.{delivers}
use Rattle.safety.proofs.Readying.{Placed, deliver_placed, deliver_doable}
use Rattle.board.proofs.Moving.{marked_doable, stays, carried_marked}
use Rattle.board.proofs.carrying.moves.deliver.Goals as goal

pub returns-in_err-step-clause-keeps : goal.returns-in_err-step-clause-keeps
returns-in_err-step-clause-keeps g c = stays g.R.Rota g.G.Register g.met.R.Rota.inside (sitting c.args.board.now c.args.wire.now c.args.register.now)

pub mark-requires : goal.mark-requires
mark-requires g c =
    let m = moment_of g.G.Register (sitting c.args.board.now c.args.wire.now c.args.register.now) in
    subst (Placed _ m) (sym c.in_ok-step.ensures) (deliver_placed (g.R.Rota.leader c.args.board.now.rota) _ _ m _ _)

pub carry_out-requires : goal.carry_out-requires
carry_out-requires g c =
    let m = moment_of g.G.Register (sitting c.args.board.now c.args.wire.now c.args.register.now) in
    marked_doable g.G.Register.ROOM _ m _ _ _ c.in_ok-step.step _ c.in_ok-step.ensures (deliver_doable _ _ m _ (g.R.Rota.leader c.args.board.now.rota) _) c.mark.ensures

pub returns-clause-keeps : goal.returns-clause-keeps
returns-clause-keeps g c =
    let a = sitting c.args.board.now c.args.wire.now c.args.register.now in
    carried_marked g.R.Rota g.G.Register g.met.R.Rota.inside a _ _ c.in_ok-step.step _ c.in_ok-step.ensures refl _ _ _ c.is_heed.ensures c.mark.ensures c.carry_out.ensures.leaves (delivers _ _ _)
