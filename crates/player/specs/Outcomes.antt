-- What a move comes to, as it is printed. Assumes nothing.
--   answer_word, answer_number     each answer's word, and its number: how many records were appended
--   outcome_word, outcome_number   the same of opening and of refusals, whose numbers are n and the cause's
--   outcome_text                   the word, a blank, the number
--   outcome_of                     the outcome of a move on a board
--   line_of k o                    the line of the move with the number k
--   process_line p q               the line of a process
--   process_lines p qs             the lines of those that run; the list begins with the process p
use Rattle.std.specs.Prelude.{ℕ, ◌+◌, cond, List, [], ◌∷◌, ◌++◌, Ok, Err, codes, decimal, Result}
use Rattle.refusals.specs.declared.causes.Refusal.{Refusal}
use Rattle.refusals.specs.Numbers.{refusal_number}
use Rattle.protocol.specs.declared.process.Process.{Process}
use Rattle.protocol.specs.declared.step.Answer.{Answer}
use Rattle.protocol.specs.declared.step.Answer.TheVariants.{Moved, Dropped, Heeded, Acted}
use Rattle.protocol.specs.Processes.{running}
use Rattle.player.specs.declared.outcome.Outcome.{Outcome}
use Rattle.player.specs.declared.outcome.Outcome.TheVariants.{Opened, Answered, Refused}

abbrev pub answer_word : Answer → List ℕ
answer_word (Moved k) = codes "moved"
answer_word Dropped = codes "dropped"
answer_word Heeded = codes "heeded"
answer_word (Acted k) = codes "acted"

abbrev pub answer_number : Answer → ℕ
answer_number (Moved k) = k
answer_number Dropped = 0
answer_number Heeded = 0
answer_number (Acted k) = k

abbrev pub outcome_word : Outcome → List ℕ
outcome_word (Opened n) = codes "opened"
outcome_word (Answered a) = answer_word a
outcome_word (Refused e) = codes "refused"

abbrev pub outcome_number : Outcome → ℕ
outcome_number (Opened n) = n
outcome_number (Answered a) = answer_number a
outcome_number (Refused e) = refusal_number e

abbrev pub outcome_text : Outcome → List ℕ
outcome_text o = outcome_word o ++ (codes " " ++ decimal (outcome_number o))

abbrev pub outcome_of : Result Answer Refusal → Outcome
outcome_of (Ok a) = Answered a
outcome_of (Err e) = Refused e

abbrev pub line_of : ℕ → Outcome → List ℕ
line_of k o = decimal k ++ (codes " " ++ (outcome_text o ++ codes "\n"))

abbrev pub process_line : ℕ → Process → List ℕ
process_line p q =
    codes "p "
    ++ (decimal p ++ (codes " " ++ (decimal q.synchronizer.epoch ++ (codes " " ++ (decimal q.core.view ++ (codes " " ++ (decimal q.core.decided ++ codes "\n")))))))

unfoldable pub process_lines : ℕ → List Process → List ℕ
process_lines p [] = []
process_lines p (q ∷ qs) = cond (running q.certification.phase) (process_line p q) [] ++ process_lines (p + 1) qs
