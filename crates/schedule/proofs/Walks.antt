-- A walk whose steps only go forward is not cut short by the bound on its steps. Assumes nothing.
use Rattle.std.proofs.Common.{◌≡◌, ℕ, zero, suc, ◌-◌, ◌<◌, ◌≤◌, sym, refl, ap, ◌∙◌, ⊎_elim, arith}
use Rattle.std.proofs.lemmas.Bool.{cases_lt}
use Rattle.schedule.specs.Reading.{walk}

module _ {R : Type 0} (step : (ℕ → R) → ℕ → R) (nothing : R) (len : ℕ) (ends : (f : ℕ → R) (at : ℕ) → len ≤ at → step f at ≡ nothing) (same : (f g : ℕ → R) (at : ℕ) → ((next : ℕ) → at < next → f next ≡ g next) → step f at ≡ step g at) where
  enough : (n m at : ℕ) → len - at ≤ n → len - at ≤ m → walk step nothing n at ≡ walk step nothing m at
  unfolding walk
  enough zero zero at h k = refl
  enough zero (suc m) at h k = sym (ends (walk step nothing m) at (omega arith))
  enough (suc n) zero at h k = ends (walk step nothing n) at (omega arith)
  enough (suc n) (suc m) at h k =
      same (walk step nothing n) (walk step nothing m) at (λ next lt. enough n m next (omega arith) (omega arith))

  one_step : (n at : ℕ) → walk step nothing (suc n) at ≡ step (walk step nothing n) at
  unfolding walk
  one_step n at = refl

  no_step : (at : ℕ) → walk step nothing zero at ≡ nothing
  unfolding walk
  no_step at = refl

  pub unrolls : (at : ℕ) → walk step nothing (len - at) at ≡ step (λ next. walk step nothing (len - next) next) at
  unrolls at =
      ⊎_elim
      (λ before.
      let k : len - at ≡ suc (len - at - 1) = omega arith in
      ap (λ n. walk step nothing n at) k
      ∙ one_step (len - at - 1) at
      ∙ same (walk step nothing (len - at - 1)) (λ next. walk step nothing (len - next) next) at
      (λ next lt. enough (len - at - 1) (len - next) next (omega arith) (omega arith)))
      (λ past.
      let k : len - at ≡ zero = omega arith in
      ap (λ n. walk step nothing n at) k ∙ no_step at ∙ sym (ends (λ next. walk step nothing (len - next) next) at past))
      (cases_lt at len)
