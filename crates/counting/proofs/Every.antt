-- A test that each element passes. Assumes nothing.
use Rattle.std.proofs.Common.{◌≡◌, ℕ, zero, suc, ◌<◌, Bool, true, List, [], ◌∷◌, length, get_or, arith}
use Rattle.std.specs.List.{list_all}
use Rattle.std.proofs.lemmas.Bool.{and_parts}

pub every-at : {A : Type 0} (f : A → Bool) (xs : List A) (i : ℕ) (d : A) → list_all f xs ≡ true → i < length xs → f (get_or xs i d) ≡ true
every-at f [] i d e h = absurd (omega arith)
every-at f (x ∷ xs) zero d e h = (and_parts (f x) (list_all f xs) e).0
every-at f (x ∷ xs) (suc i) d e h = every-at f xs i d (and_parts (f x) (list_all f xs) e).1 (omega arith)
