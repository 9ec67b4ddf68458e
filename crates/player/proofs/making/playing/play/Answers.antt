use Rattle.std.proofs.Common.{◌+◌, ◌++◌, string_bytes, ap, ◌∙◌}
use Rattle.safety.proofs.Going.{onward_on, all-go_on}
use Rattle.player.specs.declared.outcome.Outcome.{Outcome}
use Rattle.player.specs.Outcomes.{line_of}
use Rattle.player.proofs.Sofar.{at-start, at-end, and_then}
use Rattle.player.proofs.making.playing.play.Goals as goal

pub loop-index-init : goal.loop-index-init
loop-index-init g c = at-start g.R.Rota g.G.Register _ _ _

pub loop-index-preserved : goal.loop-index-preserved
loop-index-preserved g c =
    let l = c.loop-index in
    let written = c.in_ok-writeln.ensures.bytes ∙ ap (λ (o : Outcome). string_bytes l.text ++ line_of (2 + l.index) o) c.from-outcome.ensures in
    and_then g.R.Rota g.G.Register _ _ _ _ _ _ l.invariant _ _ _ _ c.loop-index-test.true c.make.ensures written

pub returns-in_err-writeln-clause-keeps : goal.returns-in_err-writeln-clause-keeps
returns-in_err-writeln-clause-keeps g c =
    all-go_on g.R.Rota g.G.Register g.met.R.Rota.inside _ _ (onward_on g.R.Rota g.G.Register _ _ _ c.loop-index.invariant.onward c.make.ensures.onward)

pub returns-clause-plays : goal.returns-clause-plays
returns-clause-plays g c = at-end g.R.Rota g.G.Register _ _ _ _ _ _ c.loop-index.invariant c.loop-index-test.false

pub returns-clause-keeps : goal.returns-clause-keeps
returns-clause-keeps g c = all-go_on g.R.Rota g.G.Register g.met.R.Rota.inside _ _ c.loop-index.invariant.onward
