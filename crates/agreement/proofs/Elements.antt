-- Elements of a list that pass a test, in a list that grows or changes at one place. Assumes nothing.
use Rattle.std.proofs.Common.{◌≡◌, ℕ, zero, suc, ◌<◌, ◌≤◌, Bool, true, false, cond, ◌||◌, ◌⊎◌, List, [], ◌∷◌, ◌++◌, length, get_or, set, count_by, sym, refl, ap, ◌∙◌, inl, inr, arith}
use Rattle.std.specs.List.{AllByRecursion}
use Rattle.std.proofs.ByRecursion.{All-weaker}
use Rattle.std.proofs.lemmas.List.Sums.{sum_by-cons}
use Rattle.std.proofs.lemmas.Bool.{cases_Bool, cond-true, cond-false, or_cases, or_parts, or_left, or_right, false≢true}
use Rattle.counting.specs.Counts.{any}
use Rattle.counting.proofs.Any.{any_append, any_push}

pub not_any : (b : Bool) → (b ≡ true → ⊥) → b ≡ false
not_any b h = elim (cases_Bool b) [ inl e ↦ absurd (h e) | inr e ↦ e ]

-- a test that implies another passes no more often
pub test_le : (a b : Bool) → (a ≡ true → b ≡ true) → cond {A = ℕ} a 1 0 ≤ cond b 1 0
test_le true b h = omega (arith, ap (λ (c : Bool). cond {A = ℕ} c 1 0) (h refl))
test_le false b h = omega arith

module _ {X : Type 0} where
  pub all-unit : (xs : List X) → AllByRecursion (λ x. Unit {0}) xs
  all-unit [] = tt
  all-unit (x ∷ xs) = (tt, all-unit xs)

  pub all_both : (P Q : X → Type 0) (xs : List X) → AllByRecursion P xs → AllByRecursion Q xs → AllByRecursion (λ x. P x × Q x) xs
  all_both P Q [] a b = tt
  all_both P Q (x ∷ xs) a b = ((a.0, b.0), all_both P Q xs a.1 b.1)

  -- what follows from an element that passes
  pub any-gives : (P : X → Type 0) (Q : Type 0) (s : X → Bool) (xs : List X) → AllByRecursion P xs → ((x : X) → P x → s x ≡ true → Q) → any s xs ≡ true → Q
  unfolding any
  any-gives P Q s [] a h e = absurd (false≢true e)
  any-gives P Q s (x ∷ xs) a h e =
      elim (or_cases (s x) (any s xs) e) [ inl i ↦ h x a.0 i | inr i ↦ any-gives P Q s xs a.1 h i ]

  -- where each element that passes s passes t
  pub any-from : (P : X → Type 0) (s t : X → Bool) (xs : List X) → AllByRecursion P xs → ((x : X) → P x → s x ≡ true → t x ≡ true) → any s xs ≡ true → any t xs ≡ true
  unfolding any
  any-from P s t [] a h e = e
  any-from P s t (x ∷ xs) a h e =
      elim (or_cases (s x) (any s xs) e)
      [ inl i ↦ or_left (t x) (any t xs) (h x a.0 i) | inr i ↦ or_right (t x) (any t xs) (any-from P s t xs a.1 h i) ]

  module _ (t : X → Bool) where
    pub any-longer : (xs ys : List X) → any t xs ≡ true → any t (xs ++ ys) ≡ true
    any-longer xs ys e = any_append t xs ys ∙ or_left (any t xs) (any t ys) e

    pub any_last : (xs : List X) (y : X) → t y ≡ true → any t (xs ++ (y ∷ [])) ≡ true
    any_last xs y e = any_push t xs y ∙ or_right (any t xs) (t y) e

    pub any-push_cases : (xs : List X) (y : X) → any t (xs ++ (y ∷ [])) ≡ true → (any t xs ≡ true) ⊎ (t y ≡ true)
    any-push_cases xs y e = or_cases (any t xs) (t y) (sym (any_push t xs y) ∙ e)

    -- an element is put in for one of which the test says the same
    pub any-set : (xs : List X) (i : ℕ) (y d : X) → i < length xs → t (get_or xs i d) ≡ t y → any t (set xs i y) ≡ any t xs
    unfolding any
    any-set [] i y d l e = absurd (omega arith)
    any-set (x ∷ xs) zero y d l e = ap (λ (b : Bool). b || any t xs) (sym e)
    any-set (x ∷ xs) (suc i) y d l e = ap (λ (b : Bool). t x || b) (any-set xs i y d (omega arith) e)

    pub any_none : (xs : List X) → any t xs ≡ false → count_by t xs ≡ 0
    unfolding any
    any_none [] e = refl
    any_none (x ∷ xs) e =
        let h = or_parts (t x) (any t xs) e in
        rw sum_by-cons (omega (arith, cond-false {A = ℕ} (t x) 1 0 h.0, any_none xs h.1))

    pub any-one : (xs : List X) → any t xs ≡ true → 1 ≤ count_by t xs
    unfolding any
    any-one [] e = absurd (false≢true e)
    any-one (x ∷ xs) e =
        rw sum_by-cons
        (elim (or_cases (t x) (any t xs) e) [ inl i ↦ omega (arith, cond-true {A = ℕ} (t x) 1 0 i) | inr i ↦ omega (arith, any-one xs i) ])

  -- what an element passes, some element of the list does
  pub all_any : (xs : List X) → AllByRecursion (λ x. (t : X → Bool) → t x ≡ true → any t xs ≡ true) xs
  unfolding any
  all_any [] = tt
  all_any (x ∷ xs) = (
    (λ t e. or_left (t x) (any t xs) e),
    All-weaker (λ y. (t : X → Bool) → t y ≡ true → any t xs ≡ true) (λ y. (t : X → Bool) → t y ≡ true → any t (x ∷ xs) ≡ true)
        (λ y h t e. or_right (t x) (any t xs) (h t e)) xs (all_any xs),
  )
