-- Sums over numbers and over lists. Assumes nothing.
use Rattle.std.proofs.Common.{◌≡◌, ℕ, zero, suc, ◌+◌, ◌*◌, ◌<◌, ◌≤◌, Bool, cond, List, [], ◌∷◌, sum_by, count_by, sym, refl, subst, inl, inr, suc-mul, add-mul, zero-mul, arith}
use Rattle.std.specs.List.{AllByRecursion}
use Rattle.std.proofs.lemmas.List.Sums.{sum_by-cons}
use Rattle.std.proofs.lemmas.Bool.{cases_Bool, cases_eq}
use Rattle.counting.specs.Counts.{sum_to}

-- one of the terms
pub sum-has : (t : ℕ → ℕ) (n p : ℕ) → p < n → t p ≤ sum_to t n
unfolding sum_to
sum-has t zero p h = absurd (omega arith)
sum-has t (suc n) p h =
    elim (cases_eq p n) [
      | inl e ↦ subst (λ (q : ℕ). t q ≤ t n + sum_to t n) (sym e) (omega arith)
      | inr e ↦ omega (arith, sum-has t n p (omega (arith, e)))
    ]

module _ {X : Type 0} where
  pub sum_by_le : (P : X → Type 0) (s t : X → ℕ) (xs : List X) → AllByRecursion P xs → ((x : X) → P x → s x ≤ t x) → sum_by s xs ≤ sum_by t xs
  sum_by_le P s t [] a h = omega arith
  sum_by_le P s t (x ∷ xs) a h = rw (sum_by-cons s x xs, sum_by-cons t x xs) (omega (arith, h x a.0, sum_by_le P s t xs a.1 h))

  pub sum_by-add : (s t : X → ℕ) (xs : List X) → sum_by (λ x. s x + t x) xs ≡ sum_by s xs + sum_by t xs
  sum_by-add s t [] = refl
  sum_by-add s t (x ∷ xs) = rw (sum_by-cons s x xs, sum_by-cons t x xs, sum_by-cons (λ y. s y + t y) x xs) (omega (arith, sum_by-add s t xs))

  pub sum_by-zero : (xs : List X) → sum_by (λ x. 0) xs ≡ 0
  sum_by-zero [] = refl
  sum_by-zero (x ∷ xs) = rw (sum_by-cons (λ y. 0) x xs) (omega (arith, sum_by-zero xs))

  -- what is capped for each j below n is capped n times over for their sum
  pub sum_by-sum : (b : ℕ → X → ℕ) (cap n : ℕ) (xs : List X) → ((j : ℕ) → j < n → sum_by (b j) xs ≤ cap) → sum_by (λ x. sum_to (λ j. b j x) n) xs ≤ n * cap
  unfolding sum_to
  sum_by-sum b cap zero xs h = omega (arith, sum_by-zero xs)
  sum_by-sum b cap (suc n) xs h =
      omega (
        arith,
        sum_by-add (b n) (λ x. sum_to (λ j. b j x) n) xs,
        h n (omega arith),
        sum_by-sum b cap n xs (λ j l. h j (omega arith)),
        suc-mul n cap,
      )

  -- each that passes costs the price
  pub sum_by-price : (t : X → Bool) (price : ℕ) (xs : List X) → sum_by (λ x. cond (t x) price 0) xs ≡ count_by t xs * price
  sum_by-price t price [] = sym (zero-mul price)
  sum_by-price t price (x ∷ xs) =
      rw (sum_by-cons (λ y. cond (t y) price 0) x xs, sum_by-cons (λ y. cond {A = ℕ} (t y) 1 0) x xs)
      (elim (cases_Bool (t x)) [
        | inl e ↦ rw (e, sum_by-price t price xs) (omega (arith, add-mul 1 (count_by t xs) price))
        | inr e ↦ rw (e, sum_by-price t price xs) (omega (arith, add-mul 0 (count_by t xs) price))
      ])
