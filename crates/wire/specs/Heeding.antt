-- The records that a process has heeded. Assumes nothing.
--   of_value w x      the value x is asked for
--   is_heeded h r     the record is one that h asks for
--   senders_of h rs   how many processes sent such records
use Rattle.std.specs.Prelude.{ℕ, Bool, true, ◌&&◌, List, Some, None, Option, ◌==◌}
use Rattle.counting.specs.Counts.{count_to}
use Rattle.committee.specs.Sets.{contains}
use Rattle.register.specs.Distinct.{seen}
use Rattle.wire.specs.declared.record.Record.{Record}
use Rattle.wire.specs.declared.heeded.Heeded.{Heeded}
use Rattle.wire.specs.Kinds.{kind_number}

abbrev pub of_value : Option ℕ → ℕ → Bool
of_value None x = true
of_value (Some w) x = x == w

abbrev pub is_heeded : Heeded → Record → Bool
is_heeded h r =
    contains r.heeded h.by
    && (kind_number r.kind == kind_number h.kind && (r.number == h.number && of_value h.value r.value))

abbrev pub senders_of : Heeded → List Record → ℕ
senders_of h rs = count_to (seen (λ r. r.sender) (is_heeded h) rs) 31
