-- The view of an epoch and a place has that epoch and that place. Assumes nothing.
use Rattle.std.proofs.Common.{◌≡◌, ℕ, ◌+◌, ◌-◌, ◌*◌, ◌/◌, ◌%◌, ◌<◌, ap, ◌∙◌, mod-eq_of_lt, arith}
use native.Mathlib.Nat.{mul-add-div_right, mul-add-mod_self_right, div-eq_of_lt}
use Rattle.committee.specs.Views.{view_of, Placed}

pub placed : (f e p : ℕ) → Placed f e p (view_of f e p)
placed f e p he hp hf =
    let before : view_of f e p - 1 ≡ (e - 1) * (f + 1) + (p - 1) = omega arith in
    let short : p - 1 < f + 1 = omega arith in
    let quotient = ap (λ (x : ℕ). x / (f + 1)) before ∙ mul-add-div_right {m = f + 1} (omega arith) (e - 1) (p - 1) in
    let rest = ap (λ (x : ℕ). x % (f + 1)) before ∙ mul-add-mod_self_right (e - 1) (f + 1) (p - 1) in
    (omega (arith, quotient, div-eq_of_lt short), omega (arith, rest, mod-eq_of_lt short))
