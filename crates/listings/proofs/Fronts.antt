-- The plain bytes at the front of a line are what stands before its comment, or the line is not plain. Assumes nothing.
use Rattle.std.proofs.Common.{◌≡◌, ℕ, suc, ◌+◌, ◌<◌, Bool, true, false, not, ◌&&◌, eqb, List, [], ◌∷◌, length, get_or, take, sym, refl, ap, ◌∙◌, arith}
use Rattle.std.proofs.lemmas.Bool.{cond-true, cond-false, eq-eqb, ne_eqb}
use Rattle.std.proofs.lemmas.Bool.Decides.{nat_tests}
use Rattle.std.specs.List.{list_all, prefix_len, take_while}
use Rattle.listings.specs.Lines.{plain, before_comment}

next : (n : ℕ) → suc n ≡ 1 + n
next n = omega arith

-- one byte more at the front
takes : (p : ℕ → Bool) (c : ℕ) (cs : List ℕ) → p c ≡ true → take_while p (c ∷ cs) ≡ c ∷ take_while p cs
takes p c cs e =
    ap (λ n. take n (c ∷ cs)) (cond-true (p c) (1 + prefix_len p cs) 0 e ∙ sym (next (prefix_len p cs)))

leaves : (p : ℕ → Bool) (c : ℕ) (cs : List ℕ) → p c ≡ false → take_while p (c ∷ cs) ≡ []
leaves p c cs e = ap (λ n. take n (c ∷ cs)) (cond-false (p c) (1 + prefix_len p cs) 0 e)

module _ (c : ℕ) where
  no_sign : plain c ≡ true → not (eqb c 35) ≡ true
  no_sign e = grind (arith, nat_tests)

  sign : c ≡ 35 → not (eqb c 35) ≡ false
  sign e = ap not (eq-eqb c 35 e)

  other : (c ≡ 35 → ⊥) → not (eqb c 35) ≡ true
  other e = ap not (ne_eqb c 35 e)

-- what follows the plain bytes, where something does
abbrev pub Ends : List ℕ → Type 0
Ends line = prefix_len plain line < length line → get_or line (prefix_len plain line) 0 ≡ 35

same_step : (b : Bool) (c : ℕ) (cs : List ℕ) → plain c ≡ b → Ends (c ∷ cs) → (Ends cs → take_while plain cs ≡ before_comment cs) → take_while plain (c ∷ cs) ≡ before_comment (c ∷ cs)
same_step true c cs e ends rest =
    let more : prefix_len plain (c ∷ cs) ≡ suc (prefix_len plain cs) = cond-true (plain c) (1 + prefix_len plain cs) 0 e ∙ sym (next (prefix_len plain cs)) in
    let behind : Ends cs = λ h.
    let inside : prefix_len plain (c ∷ cs) < length (c ∷ cs) = omega (arith, more, h) in
    ap (λ n. get_or (c ∷ cs) n 0) (sym more) ∙ ends inside in
    takes plain c cs e ∙ ap (λ l. c ∷ l) (rest behind) ∙ sym (takes (λ k. not (eqb k 35)) c cs (no_sign c e))
same_step false c cs e ends rest =
    let none : prefix_len plain (c ∷ cs) ≡ 0 = cond-false (plain c) (1 + prefix_len plain cs) 0 e in
    let inside : prefix_len plain (c ∷ cs) < length (c ∷ cs) = omega (arith, none) in
    let here : c ≡ 35 = ap (λ n. get_or (c ∷ cs) n 0) (sym none) ∙ ends inside in
    leaves plain c cs e ∙ sym (leaves (λ k. not (eqb k 35)) c cs (sign c here))

pub same : (line : List ℕ) → Ends line → take_while plain line ≡ before_comment line
same [] ends = refl
same (c ∷ cs) ends = same_step (plain c) c cs refl ends (same cs)

all_step : (b : Bool) (c : ℕ) (cs : List ℕ) → plain c ≡ b → list_all plain (take_while plain cs) ≡ true → list_all plain (take_while plain (c ∷ cs)) ≡ true
all_step true c cs e rest = ap (list_all plain) (takes plain c cs e) ∙ ap (λ b. b && list_all plain (take_while plain cs)) e ∙ rest
all_step false c cs e rest = ap (list_all plain) (leaves plain c cs e)

pub all : (line : List ℕ) → list_all plain (take_while plain line) ≡ true
all [] = refl
all (c ∷ cs) = all_step (plain c) c cs refl (all cs)

bad_step : (b : Bool) (c : ℕ) (cs : List ℕ) → plain c ≡ b → (get_or (c ∷ cs) (prefix_len plain (c ∷ cs)) 0 ≡ 35 → ⊥) → prefix_len plain (c ∷ cs) < length (c ∷ cs) → (prefix_len plain cs < length cs → (get_or cs (prefix_len plain cs) 0 ≡ 35 → ⊥) → list_all plain (before_comment cs) ≡ false) → list_all plain (before_comment (c ∷ cs)) ≡ false
bad_step true c cs e other_sign inside rest =
    let more : prefix_len plain (c ∷ cs) ≡ suc (prefix_len plain cs) = cond-true (plain c) (1 + prefix_len plain cs) 0 e ∙ sym (next (prefix_len plain cs)) in
    let left : prefix_len plain cs < length cs = omega (arith, more, inside) in
    ap (list_all plain) (takes (λ k. not (eqb k 35)) c cs (no_sign c e))
    ∙ ap (λ b. b && list_all plain (before_comment cs)) e
    ∙ rest left (λ h. other_sign (ap (λ n. get_or (c ∷ cs) n 0) more ∙ h))
bad_step false c cs e other_sign inside rest =
    let none : prefix_len plain (c ∷ cs) ≡ 0 = cond-false (plain c) (1 + prefix_len plain cs) 0 e in
    ap (list_all plain) (takes (λ k. not (eqb k 35)) c cs (other c (λ h. other_sign (ap (λ n. get_or (c ∷ cs) n 0) none ∙ h))))
    ∙ ap (λ b. b && list_all plain (before_comment cs)) e

pub bad : (line : List ℕ) → prefix_len plain line < length line → (get_or line (prefix_len plain line) 0 ≡ 35 → ⊥) → list_all plain (before_comment line) ≡ false
bad [] inside other_sign = absurd (omega (arith, inside))
bad (c ∷ cs) inside other_sign = bad_step (plain c) c cs refl other_sign inside (bad cs)
