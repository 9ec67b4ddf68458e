-- The field at a place of a schedule with its tag known. Assumes nothing.
--   HandsTagged   what is answered at a place: the field, with the schedule it was read in, or its first fault
use Rattle.std.specs.Prelude.{◌≡◌, ℕ, List, Err, Result, MatchResult}
use Rattle.moves.specs.declared.faults.Fault.{Fault}
use Rattle.schedule.specs.declared.tagged.Tagged.{Tagged}
use Rattle.schedule.specs.Fields.{known_at, IsTagged}

abbrev pub HandsTagged : List ℕ → ℕ → Result Tagged Fault → Type 0
HandsTagged bs at r =
    MatchResult r (λ t. (t.schedule.now ≡ bs) × IsTagged bs at t.field t.tag) (λ fault. known_at bs at ≡ Err fault)
