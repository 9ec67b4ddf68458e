-- A loop that writes the lines of processes. Assumes nothing.
use Rattle.std.proofs.Common.{◌≡◌, ℕ, ◌+◌, ◌<◌, ◌≤◌, cond, List, [], ◌++◌, length, get_or, drop, ap, append_assoc, append-nil}
use Rattle.std.proofs.lemmas.List.{drop_more, drop_all}
use Rattle.protocol.specs.declared.process.Process.{Process}
use Rattle.protocol.specs.Processes.{running}
use Rattle.player.specs.Outcomes.{process_line, process_lines}

pub one_more : (p : ℕ) (qs : List Process) (z : Process) → p < length qs
    → process_lines p (drop p qs) ≡ cond (running (get_or qs p z).certification.phase) (process_line p (get_or qs p z)) [] ++ process_lines (p + 1) (drop (p + 1) qs)
unfolding process_lines
one_more p qs z l = ap (process_lines p) (drop_more qs p z l)

pub no_more : (p : ℕ) (qs : List Process) → length qs ≤ p → process_lines p (drop p qs) ≡ []
unfolding process_lines
no_more p qs l = ap (process_lines p) (drop_all p qs l)

pub ruleset standing = (one_more, no_more, append_assoc, append-nil)
