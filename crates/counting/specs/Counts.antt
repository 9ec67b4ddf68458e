-- Counts over processes. Assumes nothing.
--   sum_to t n     the sum of t over the numbers below n
--   count_to t n   how many of the numbers below n pass the test t
--   any t xs       whether some element of the list passes the test t
--   bit_at s p     whether process p is in the set s, a number whose bit p stands for process p
use Rattle.std.specs.Prelude.{ℕ, zero, suc, ◌+◌, ◌/◌, ◌%◌, ◌^◌, Bool, true, false, cond, ◌&&◌, ◌||◌, List, [], ◌∷◌, ◌==◌}

unfoldable pub sum_to : (ℕ → ℕ) → ℕ → ℕ
sum_to t zero = 0
sum_to t (suc n) = t n + sum_to t n

abbrev pub count_to : (ℕ → Bool) → ℕ → ℕ
count_to t n = sum_to (λ p. cond (t p) 1 0) n

unfoldable pub any : {X : Type 0} → (X → Bool) → List X → Bool
any t [] = false
any t (x ∷ xs) = t x || any t xs

abbrev pub bit_at : ℕ → ℕ → Bool
bit_at s p = s / 2 ^ p % 2 == 1
