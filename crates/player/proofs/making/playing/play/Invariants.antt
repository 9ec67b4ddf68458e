use Rattle.std.proofs.Common.{string_bytes}
use Rattle.protocol.specs.Runs.{sitting}
use Rattle.player.proofs.Sofar.{Sofar}
use Rattle.player.proofs.making.playing.play.Given as goal

abbrev pub invariant-loop-index : goal.invariant-loop-index
invariant-loop-index g l =
    Sofar g.R.Rota g.G.Register (sitting l.initial.board l.initial.wire l.initial.register) l.moves l.index (sitting l.board l.wire l.register) (string_bytes l.initial.text) (string_bytes l.text)
