use Rattle.std.proofs.Common.{◌-◌, length, vec_items}
use Rattle.schedule.specs.Reading.{reading_from, schedule_of}
use Rattle.schedule.proofs.Sofar.{Sofar}
use Rattle.schedule.proofs.reading.read_on.Given as goal

abbrev pub invariant-loop-placed : goal.invariant-loop-placed
invariant-loop-placed l =
    Sofar (reading_from (schedule_of l.initial.reader) l.initial.reader.at) (schedule_of l.reader) (vec_items l.initial.moves) (vec_items l.moves) l.reader.at

abbrev pub decreases-loop-placed : goal.decreases-loop-placed
decreases-loop-placed l = length (schedule_of l.reader) - l.reader.at
