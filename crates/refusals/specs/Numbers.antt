-- The number of each cause of refusal. Assumes nothing.
--   refusal_number   the number that is answered and printed
use Rattle.std.specs.Prelude.{ℕ}
use Rattle.refusals.specs.declared.causes.Refusal.{Refusal}
use Rattle.refusals.specs.declared.causes.Refusal.TheVariants.{NotACommittee, DurationOutOfRange, RegisterNotEmpty, RotaUnfit, BoardOutOfRange, NoSuchProcess, WrongSide, FieldOutOfRange, NoSuchRecord, Untimely, ViewAhead, WireFull, RegisterFull, ClockAtEnd, LastEpoch, CutShort, UnknownTag, WrongLength, OutOfPlace}

abbrev pub refusal_number : Refusal → ℕ
refusal_number NotACommittee = 1
refusal_number DurationOutOfRange = 2
refusal_number RegisterNotEmpty = 3
refusal_number RotaUnfit = 4
refusal_number BoardOutOfRange = 5
refusal_number NoSuchProcess = 6
refusal_number WrongSide = 7
refusal_number FieldOutOfRange = 8
refusal_number NoSuchRecord = 9
refusal_number Untimely = 10
refusal_number ViewAhead = 11
refusal_number WireFull = 12
refusal_number RegisterFull = 13
refusal_number ClockAtEnd = 14
refusal_number LastEpoch = 15
refusal_number CutShort = 16
refusal_number UnknownTag = 17
refusal_number WrongLength = 18
refusal_number OutOfPlace = 19
