use Rattle.std.proofs.Common.{◌≡◌, drop}
use Rattle.queries.specs.Asking.{first_decided}
use Rattle.queries.proofs.decisions.first_decided.Given as goal

abbrev pub invariant-loop-number : goal.invariant-loop-number
invariant-loop-number l = first_decided l.committee l.number (drop l.number l.members) ≡ first_decided l.committee 0 l.members
