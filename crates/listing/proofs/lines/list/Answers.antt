use Rattle.std.proofs.Common.{rules}
use Rattle.schedule.proofs.Ends.{laid_out}
use Rattle.listing.proofs.lines.list.Goals as goal

-- the law holds of every schedule, whatever was read of it
pub returns-in_err-write_moves-clause-laid : goal.returns-in_err-write_moves-clause-laid
returns-in_err-write_moves-clause-laid c = search (rules, laid_out)

pub returns-in_err-fault-clause-laid : goal.returns-in_err-fault-clause-laid
returns-in_err-fault-clause-laid c = search (rules, laid_out)

pub returns-clause-laid : goal.returns-clause-laid
returns-clause-laid c = search (rules, laid_out)
