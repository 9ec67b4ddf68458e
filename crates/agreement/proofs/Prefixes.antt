-- The first elements of a list. Assumes nothing.
use Rattle.std.proofs.Common.{◌≡◌, ℕ, zero, suc, ◌<◌, List, [], ◌∷◌, take, set, refl, ap, arith}

-- one of the first n is changed
pub take-set_in : {X : Type 0} (n : ℕ) (xs : List X) (i : ℕ) (y : X) → i < n → take n (set xs i y) ≡ set (take n xs) i y
take-set_in zero xs i y l = absurd (omega arith)
take-set_in (suc n) [] i y l = refl
take-set_in (suc n) (x ∷ xs) zero y l = refl
take-set_in (suc n) (x ∷ xs) (suc i) y l = ap (λ ys. x ∷ ys) (take-set_in n xs i y (omega arith))
