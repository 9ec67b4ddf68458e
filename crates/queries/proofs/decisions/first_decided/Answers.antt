use Rattle.std.proofs.Common.{sym, ◌∙◌}
use Rattle.protocol.specs.Processes.{blank_process}
use Rattle.queries.proofs.Deciding.{decided_here, decided_later, decided_nowhere}
use Rattle.queries.proofs.decisions.first_decided.Goals as goal

pub returns-then-has_decided : goal.returns-then-has_decided
returns-then-has_decided c =
    decided_here c.args.committee.now c.args.members.now blank_process c.loop-number.number _ c.loop-number.invariant c.loop-number-test.true (sym c.has_decided.ensures ∙ c.if-has_decided.true)

pub loop-number-preserved : goal.loop-number-preserved
loop-number-preserved c =
    decided_later c.args.committee.now c.args.members.now blank_process c.loop-number.number _ c.loop-number.invariant c.loop-number-test.true (sym c.has_decided.ensures ∙ c.if-has_decided.false)

pub returns : goal.returns
returns c = decided_nowhere c.args.committee.now c.args.members.now blank_process c.loop-number.number _ c.loop-number.invariant c.loop-number-test.false
