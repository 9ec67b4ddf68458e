use Rattle.std.proofs.Common.{◌≡◌, cond, not, Ok, Some, Option, Err, sym, subst, rules}
use Rattle.refusals.specs.declared.causes.Refusal.TheVariants.{WrongSide}
use Rattle.wire.specs.declared.record.Record.{Record}
use Rattle.protocol.specs.Moments.{moment, signed_of}
use Rattle.protocol.specs.Steps.{moves}
use Rattle.protocol.specs.Plans.{seat, known, is_faulty, injecting, draft_of}
use Rattle.plans.proofs.Drafting.{drafted}
use Rattle.plans.proofs.own_moves.plan_inject.Goals as goal

pub returns-then-not-in_range : goal.returns-then-not-in_range
returns-then-not-in_range g c =
    let d : draft_of c.args.process c.args.draft ≡ Some c.in_ok-record.record = drafted (draft_of c.args.process c.args.draft) c.in_ok-record.record (search rules) in
    search rules

pub returns-in_err-find_room : goal.returns-in_err-find_room
returns-in_err-find_room g c =
    let d : draft_of c.args.process c.args.draft ≡ Some c.in_ok-record.record = drafted (draft_of c.args.process c.args.draft) c.in_ok-record.record (search rules) in
    let s = c.in_ok-scene.ensures in
    let room = rw (s.table, s.wire) at c.in_err-find_room.ensures in
    let here = room (Ok (moves (seat c.args.board.now.table c.args.process) c.in_ok-record.record)) in
    let m = moment c.args.board.now.table c.args.wire.now (signed_of (g.G.Register.pairs c.args.register.now)) in
    let P : Option Record → Type 0 = λ o. c.from_residual-in_err-find_room.result ≡ known (g.R.Rota.size c.args.board.now.rota) m c.args.process (cond (not (is_faulty m c.args.process)) (Err WrongSide) (injecting (g.R.Rota.size c.args.board.now.rota) g.G.Register.ROOM m c.args.process o)) in
    subst P (sym d) (search rules)

pub returns : goal.returns
returns g c =
    let d : draft_of c.args.process c.args.draft ≡ Some c.in_ok-record.record = drafted (draft_of c.args.process c.args.draft) c.in_ok-record.record (search rules) in
    search rules
