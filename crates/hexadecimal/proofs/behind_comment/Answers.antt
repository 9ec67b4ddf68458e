use Rattle.std.proofs.Common.{sym, ◌∙◌}
use Rattle.hexadecimal.proofs.Comments.{behind, unended}
use Rattle.hexadecimal.proofs.behind_comment.Goals as goal

pub returns-in-Some-clause-kept : goal.returns-in-Some-clause-kept
returns-in-Some-clause-kept c = behind c.args.text.now c.in-Some.end (sym c.newline.ensures ∙ c.in-Some.is)

pub returns-in-None-clause-kept : goal.returns-in-None-clause-kept
returns-in-None-clause-kept c = unended c.args.text.now (sym c.newline.ensures ∙ c.in-None.is)
