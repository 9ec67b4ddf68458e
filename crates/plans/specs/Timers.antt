-- The numbers of the two timers. Assumes nothing.
--   timer_number   1 for the view timer, 2 for the spread timer
--   Numbers        the timer with this number, or the cause where there is none
use Rattle.std.specs.Prelude.{◌≡◌, ℕ, false, Ok, Err, Result}
use Rattle.refusals.specs.declared.causes.Refusal.{Refusal}
use Rattle.refusals.specs.declared.causes.Refusal.TheVariants.{FieldOutOfRange}
use Rattle.protocol.specs.Ranges.{between}
use Rattle.plans.specs.declared.timer.Timer.{Timer}
use Rattle.plans.specs.declared.timer.Timer.TheVariants.{View, Spread}

abbrev pub timer_number : Timer → ℕ
timer_number View = 1
timer_number Spread = 2

abbrev pub Numbers : ℕ → Result Timer Refusal → Type 0
Numbers n (Ok t) = timer_number t ≡ n
Numbers n (Err e) = (between 1 n 2 ≡ false) × (e ≡ FieldOutOfRange)
