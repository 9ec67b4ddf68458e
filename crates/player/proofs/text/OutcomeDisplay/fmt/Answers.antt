use Rattle.std.proofs.Common.{rules}
use Rattle.std.specs.Fmt.{digits}
use Rattle.player.proofs.text.OutcomeDisplay.fmt.Goals as goal

pub returns-in-Answered-Dropped-clause-writes : goal.returns-in-Answered-Dropped-clause-writes
unfolding digits
returns-in-Answered-Dropped-clause-writes g c = search rules

pub returns-in-Answered-Heeded-clause-writes : goal.returns-in-Answered-Heeded-clause-writes
unfolding digits
returns-in-Answered-Heeded-clause-writes g c = search rules
