-- Whether some element of a list passes a test. Assumes nothing.
use Rattle.std.proofs.Common.{◌≡◌, ℕ, ◌+◌, ◌<◌, Bool, false, ◌||◌, List, [], ◌∷◌, ◌++◌, length, get_or, take, sym, refl, ap, ◌∙◌}
use Rattle.std.proofs.lemmas.List.{take_more}
use Rattle.counting.specs.Counts.{any}
use Rattle.counting.proofs.Booleans.{or_assoc, or_false}

module _ {X : Type 0} (t : X → Bool) where
  pub any_append : (xs ys : List X) → any t (xs ++ ys) ≡ (any t xs || any t ys)
  unfolding any
  any_append [] ys = refl
  any_append (x ∷ xs) ys = ap (λ (b : Bool). t x || b) (any_append xs ys) ∙ sym (or_assoc (t x) (any t xs) (any t ys))

  pub any_push : (xs : List X) (x : X) → any t (xs ++ x ∷ []) ≡ (any t xs || t x)
  unfolding any
  any_push xs x = any_append xs (x ∷ []) ∙ ap (λ (b : Bool). any t xs || b) (or_false (t x) false refl)

  -- one element further; x is the element as the code has read it
  pub any-more : (xs : List X) (i : ℕ) (x : X) → i < length xs → x ≡ get_or xs i x → any t (take (i + 1) xs) ≡ (any t (take i xs) || t x)
  any-more xs i x l read =
      ap (any t) (take_more xs i x l ∙ ap (λ (y : X). take i xs ++ (y ∷ [])) (sym read)) ∙ any_push (take i xs) x
