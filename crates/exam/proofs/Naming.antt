-- The rota and the register that are made are those that OPEN names. Assumes nothing.
use Rattle.std.proofs.Common.{◌≡◌, ◌==◌, ℕ, ◌%◌, Bool, true, false, cond, List, Some, None, Ok, Err, Option, Result, refl, ap, ◌∙◌, subst}
use Rattle.std.specs.Result.{result_unwrap_or}
use Rattle.refusals.specs.declared.causes.Refusal.{Refusal}
use Rattle.refusals.specs.declared.causes.Refusal.TheVariants.{FieldOutOfRange}
use Rattle.committee.specs.Membership.{size_for}
use Rattle.moves.specs.declared.orders.Opening.{Opening}
use Rattle.exam.specs.declared.sitting.Rest.{Rest}
use Rattle.exam.specs.declared.sitting.registers.RegisterKind.{RegisterKind}
use Rattle.exam.specs.declared.sitting.registers.RegisterKind.TheVariants.{Tally, Roll}
use Rattle.exam.specs.Registers.{register_named}
use Rattle.exam.specs.Schedules.{rota_size, leads_of, room_of, Behind}
use Rattle.exam.specs.Sitting.{ShowsBy}

module _ (room : ℕ) (o : Opening) (rest : Rest) (before after : List ℕ) where
  pub in_turn_lem : (n m : ℕ) → n ≡ m → Behind (ShowsBy (λ v. v % n) room o (Some n) rest) before after → Behind (ShowsBy (leads_of m None) room o (rota_size m None) rest) before after
  in_turn_lem n m e shown =
      let P : ℕ → Type 0 = λ k. Behind (ShowsBy (λ v. v % k) room o (Some k) rest) before after in
      subst P e shown

abbrev pub room_by : RegisterKind → ℕ
room_by Tally = 1024
room_by Roll = 2048

room_cases : (a b : Bool) → room_by (result_unwrap_or (cond a (Ok Tally) (cond b (Ok Roll) (Err FieldOutOfRange))) Roll) ≡ cond a 1024 2048
room_cases true b = refl
room_cases false true = refl
room_cases false false = refl

-- a number that names no register takes a roll
pub registered : (rota : Option (List ℕ)) (o : Opening) (rest : Rest) (before after : List ℕ) (r : Result RegisterKind Refusal) (k : RegisterKind) → r ≡ register_named o.register → k ≡ result_unwrap_or r Roll
    → Behind (ShowsBy (leads_of (size_for o.f) rota) (room_by k) o (rota_size (size_for o.f) rota) rest) before after
    → Behind (ShowsBy (leads_of (size_for o.f) rota) (room_of o.register) o (rota_size (size_for o.f) rota) rest) before after
registered rota o rest before after r k named taken shown =
    let P : ℕ → Type 0 = λ room. Behind (ShowsBy (leads_of (size_for o.f) rota) room o (rota_size (size_for o.f) rota) rest) before after in
    let by = ap room_by (taken ∙ ap (λ (x : Result RegisterKind Refusal). result_unwrap_or x Roll) named) in
    subst P (by ∙ room_cases (o.register == 1) (o.register == 2)) shown
