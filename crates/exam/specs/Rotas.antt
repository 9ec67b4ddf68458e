-- A list of leaders, as a rota. Assumes nothing.
--   Lists ρ n xs o   the rota for n processes that the list makes, or none where it is unlawful
use Rattle.std.specs.Prelude.{◌≡◌, ℕ, true, false, List, Some, None, Option}
use Rattle.committee.specs.declared.rota.Rota.{Ghosts as RotaMeans}
use Rattle.exam.specs.Schedules.{is_lawful, leads_of}

abbrev pub Lists : {R : Type 0} → RotaMeans R → ℕ → List ℕ → Option R → Type 0
Lists ρ n xs None = is_lawful n xs ≡ false
Lists ρ n xs (Some r) = (is_lawful n xs ≡ true) × (ρ.size r ≡ n) × (ρ.leader r ≡ leads_of n (Some xs))
