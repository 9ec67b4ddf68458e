use Rattle.std.proofs.Common.{◌≡◌, ◌++◌, drop, string_bytes}
use Rattle.player.specs.Outcomes.{process_lines}
use Rattle.player.proofs.processes.write_processes.Given as goal

abbrev pub invariant-loop-number : goal.invariant-loop-number
invariant-loop-number l = string_bytes l.text ++ process_lines l.number (drop l.number l.members) ≡ string_bytes l.initial.text ++ process_lines 0 l.members
