use Rattle.std.proofs.Common.{◌≡◌, ℕ, Ok, refl, rules}
use Rattle.protocol.specs.Plans.{expire_plan}
use Rattle.protocol.specs.Runs.{sitting, moment_of}
use Rattle.protocol.specs.Runs.Move.{expires}
use Rattle.safety.proofs.Readying.{expire_doable}
use Rattle.board.proofs.Moving.{step_doable, stays, carried}
use Rattle.board.proofs.carrying.moves.expire.Goals as goal

pub returns-in_err-step-clause-keeps : goal.returns-in_err-step-clause-keeps
returns-in_err-step-clause-keeps g c = stays g.R.Rota g.G.Register g.met.R.Rota.inside (sitting c.args.board.now c.args.wire.now c.args.register.now)

-- both hold for whatever timer was planned: the one that was given, or the view timer
pub carry_out-requires : goal.carry_out-requires
carry_out-requires g c =
    let m = moment_of g.G.Register (sitting c.args.board.now c.args.wire.now c.args.register.now) in
    let Planned : ℕ → Type 0 = λ t. Ok c.in_ok-step.step ≡ expire_plan (g.R.Rota.leader c.args.board.now.rota) (g.R.Rota.size c.args.board.now.rota) g.G.Register.ROOM m c.args.process t in
    let given : Planned c.args.timer → (t : ℕ) × Planned t = λ e. (c.args.timer, e) in
    let view : Planned 1 → (t : ℕ) × Planned t = λ e. (1, e) in
    let planned : (t : ℕ) × Planned t = search (rules, given, view) in
    step_doable g.G.Register.ROOM _ m _ c.in_ok-step.step planned.1 (expire_doable _ _ m _ (g.R.Rota.leader c.args.board.now.rota) planned.0)

pub returns-clause-keeps : goal.returns-clause-keeps
returns-clause-keeps g c =
    let a = sitting c.args.board.now c.args.wire.now c.args.register.now in
    let Planned : ℕ → Type 0 = λ t. Ok c.in_ok-step.step ≡ expire_plan (g.R.Rota.leader c.args.board.now.rota) (g.R.Rota.size c.args.board.now.rota) g.G.Register.ROOM (moment_of g.G.Register a) c.args.process t in
    let given : Planned c.args.timer → (t : ℕ) × Planned t = λ e. (c.args.timer, e) in
    let view : Planned 1 → (t : ℕ) × Planned t = λ e. (1, e) in
    let planned : (t : ℕ) × Planned t = search (rules, given, view) in
    carried g.R.Rota g.G.Register g.met.R.Rota.inside a _ _ c.in_ok-step.step _ planned.1 refl c.carry_out.ensures.leaves (expires _ planned.0 _)
