use Rattle.std.proofs.Common.{map, replicate, string_bytes, ap}
use Rattle.std.proofs.lemmas.Result.{IfOk-weaker}
use Rattle.moves.specs.Orders.{placed_of}
use Rattle.protocol.specs.Moments.{Moment, moment, signed_of, no_record}
use Rattle.player.specs.declared.outcome.Outcome.TheVariants.{Opened}
use Rattle.player.specs.Outcomes.{line_of}
use Rattle.player.specs.Playing.{playing}
use Rattle.exam.specs.Schedules.{ending}
use Rattle.exam.proofs.Opening.{lined_up}
use Rattle.exam.proofs.sitting.Rest.sit.Goals as goal

pub returns : goal.returns
returns g c =
    let b = c.args.board in
    let rest = c.args.self in
    let before = string_bytes c.args.text.now in
    let p = playing (g.R.Rota.leader b.rota) (g.R.Rota.size b.rota) g.G.Register.ROOM 2 (moment b.table (replicate 1024 no_record) (signed_of (g.G.Register.pairs c.args.register.now))) (map placed_of rest.moves.now) in
    let played = c.in_ok-play.ensures.plays in
    IfOk-weaker c.write_ending.result _ _
    (λ _ e. lined_up before _ _ _ (line_of 1 (Opened b.table.setting.committee.n)) p.text (ending p.last.table rest.fault) _ c.in_ok-write_opening.ensures played.text e
    (ap (λ (m : Moment). ending m.table rest.fault) played.last))
    c.write_ending.ensures
