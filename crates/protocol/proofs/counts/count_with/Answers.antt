use Rattle.std.proofs.Common.{ap, ◌∙◌}
use Rattle.register.proofs.Gathering.{gathered_with, gathered_without}
use Rattle.committee.specs.Sets.{size}
use Rattle.protocol.proofs.counts.count_with.Goals as goal

pub returns-then-process-le30 : goal.returns-then-process-le30
returns-then-process-le30 c = λ t g. c.len.ensures.value ∙ ap size c.with.ensures ∙ gathered_with t c.args.found c.args.process g c.if-process-le30.true

pub returns-else-process-le30 : goal.returns-else-process-le30
returns-else-process-le30 c = λ t g. c.len-else-process-le30.ensures.value ∙ gathered_without t c.args.found c.args.process g c.if-process-le30.false
