-- Sums and counts over the numbers below a bound. Assumes nothing.
use Rattle.std.proofs.Common.{◌≡◌, ℕ, zero, suc, ◌+◌, ◌<◌, ◌≤◌, Bool, true, false, cond, ◌||◌, eqb, ltb, sym, refl, ap, ◌∙◌, ap₂, inl, inr, arith}
use Rattle.std.proofs.lemmas.Bool.{cases_lt, cond-true, cond-false, lt-ltb, le-ltb}
use Rattle.std.proofs.lemmas.Bool.Decides.{nat_tests}
use Rattle.counting.specs.Counts.{sum_to, count_to}

pub sum-le : (t u : ℕ → ℕ) (n : ℕ) → ((p : ℕ) → p < n → t p ≤ u p) → sum_to t n ≤ sum_to u n
unfolding sum_to
sum-le t u zero h = omega arith
sum-le t u (suc n) h = omega (arith, h n (omega arith), sum-le t u n (λ p b. h p (omega arith)))

pub sum-add : (t u : ℕ → ℕ) (n : ℕ) → sum_to (λ p. t p + u p) n ≡ sum_to t n + sum_to u n
unfolding sum_to
sum-add t u zero = refl
sum-add t u (suc n) = omega (arith, sum-add t u n)

-- two tests that agree below n count the same
pub count_same : (t u : ℕ → Bool) (n : ℕ) → ((p : ℕ) → p < n → t p ≡ u p) → count_to t n ≡ count_to u n
unfolding sum_to
count_same t u zero h = refl
count_same t u (suc n) h = ap₂ (λ (b : Bool) (x : ℕ). cond b 1 0 + x) (h n (omega arith)) (count_same t u n (λ p l. h p (omega arith)))

pub count_none : (n : ℕ) → count_to (λ _. false) n ≡ 0
unfolding sum_to
count_none zero = refl
count_none (suc n) = ap (λ (x : ℕ). 0 + x) (count_none n)

-- of a count above 0, one that passes
pub found : (t : ℕ → Bool) (n : ℕ) → 0 < count_to t n → (p : ℕ) × (p < n) × (t p ≡ true)
unfolding sum_to
found t zero h = absurd (omega arith)
found t (suc n) h = go (t n) refl (found t n)
  where
    go : (b : Bool) → t n ≡ b → (0 < count_to t n → (p : ℕ) × (p < n) × (t p ≡ true)) → (p : ℕ) × (p < suc n) × (t p ≡ true)
    go true e more = (n, omega arith, e)
    go false e more =
        let k : cond {A = ℕ} (t n) 1 0 ≡ 0 = cond-false (t n) 1 0 e in
        let r = more (omega arith) in
        (r.0, omega (arith, r.1), r.2)

-- the numbers below n are n at most
pub below_few : (n m : ℕ) → (count_to (λ p. ltb p n) m ≤ n) × (count_to (λ p. ltb p n) m ≤ m)
unfolding sum_to
below_few n zero = (omega arith, omega arith)
below_few n (suc m) = go (below_few n m)
  where
    go : (count_to (λ p. ltb p n) m ≤ n) × (count_to (λ p. ltb p n) m ≤ m)
        → (cond {A = ℕ} (ltb m n) 1 0 + count_to (λ p. ltb p n) m ≤ n) × (cond {A = ℕ} (ltb m n) 1 0 + count_to (λ p. ltb p n) m ≤ suc m)
    go h =
        elim (cases_lt m n) [
          | inl l ↦ let e : cond {A = ℕ} (ltb m n) 1 0 ≡ 1 = cond-true (ltb m n) 1 0 (lt-ltb m n l) in (omega arith, omega arith)
          | inr l ↦ let e : cond {A = ℕ} (ltb m n) 1 0 ≡ 0 = cond-false (ltb m n) 1 0 (le-ltb m n l) in (omega arith, omega arith)
        ]

-- one member more
one_more : (x p n : ℕ) (b : Bool) → (p ≡ n → b ≡ false) → cond (b || eqb p n) 1 0 + (x + cond (ltb p n) 1 0) ≡ (cond b 1 0 + x) + cond (ltb p (suc n)) 1 0
one_more x p n b h = grind (arith, nat_tests)

pub count_more : (n p : ℕ) (t u : ℕ → Bool) → ((q : ℕ) → q < n → u q ≡ (t q || eqb p q)) → t p ≡ false → count_to u n ≡ count_to t n + cond (ltb p n) 1 0
unfolding sum_to
count_more zero p t u e out = sym (ap (λ (b : Bool). 0 + cond b 1 0) (le-ltb p 0 (omega arith)))
count_more (suc n) p t u e out =
    ap₂ (λ (b : Bool) (x : ℕ). cond b 1 0 + x) (e n (omega arith)) (count_more n p t u (λ q l. e q (omega arith)) out)
    ∙ one_more (count_to t n) p n (t n) (λ q. ap t (sym q) ∙ out)
