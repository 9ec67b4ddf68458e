-- Which record can be delivered. Assumes nothing.
--   Arrives   the record at this place of a scene's wire for its process, or the cause where there is none
use Rattle.std.specs.Prelude.{◌≡◌, ℕ, true, false, Ok, Err, Result}
use Rattle.refusals.specs.declared.causes.Refusal.{Refusal}
use Rattle.refusals.specs.declared.causes.Refusal.TheVariants.{NoSuchRecord}
use Rattle.protocol.specs.Plans.{undeliverable}
use Rattle.admission.specs.declared.scene.Scene.{Scene}
use Rattle.admission.specs.Scenes.{unsigned}
use Rattle.plans.specs.declared.arrival.Arrival.{Arrival}

abbrev pub Arrives : Scene → ℕ → Result Arrival Refusal → Type 0
Arrives s i (Ok a) = (undeliverable (unsigned s.table.now s.wire.now) s.seat.number i ≡ false) × (a.scene ≡ s) × (a.index ≡ i)
Arrives s i (Err e) = (undeliverable (unsigned s.table.now s.wire.now) s.seat.number i ≡ true) × (e ≡ NoSuchRecord)
