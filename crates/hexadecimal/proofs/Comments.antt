-- What is left of a text that begins in a comment. Assumes nothing.
use Rattle.std.proofs.Common.{◌≡◌, ℕ, suc, ◌+◌, ◌-◌, ◌<◌, ◌≤◌, Bool, true, false, cond, not, ◌||◌, eqb, List, [], ◌∷◌, length, get_or, drop, take, Some, None, sym, refl, ap, ◌∙◌, arith}
use Rattle.std.proofs.lemmas.Bool.{cond-true, eqb-true, not_from_false, or_left, ltb-true, ltb-false}
use Rattle.std.proofs.lemmas.List.{drop_all, take_all, at_drop_more}
use Rattle.std.proofs.Math.ListN.{length-drop}
use Rattle.std.specs.List.{position, position_or_len}
use Rattle.hexadecimal.specs.Bytes.{blank, in_comment, stripped_in}

abbrev newline_at : List ℕ → ℕ
newline_at text = position_or_len (λ c. eqb c 10) text

next : (n : ℕ) → suc n ≡ 1 + n
next n = omega arith

step : (b : Bool) (c : ℕ) (cs : List ℕ) → b ≡ eqb c 10 → stripped_in true cs ≡ stripped_in false (drop (newline_at cs) cs) → stripped_in true (c ∷ cs) ≡ stripped_in false (drop (cond (not b) (1 + newline_at cs) 0) (c ∷ cs))
step true c cs e rest =
    let ten : c ≡ 10 = eqb-true c 10 (sym e) in
    ap (λ k. stripped_in true (k ∷ cs)) ten ∙ ap (λ k. stripped_in false (k ∷ cs)) (sym ten)
step false c cs e rest =
    let on : in_comment true c ≡ true = not_from_false (eqb c 10) (sym e) in
    cond-true (in_comment true c || blank c) _ _ (or_left (in_comment true c) (blank c) on) ∙ ap (λ b. stripped_in b cs) on ∙ rest ∙ ap (λ k. stripped_in false (drop k (c ∷ cs))) (next (newline_at cs))

ended : (text : List ℕ) → stripped_in true text ≡ stripped_in false (drop (newline_at text) text)
ended [] = refl
ended (c ∷ cs) = step (eqb c 10) c cs refl (ended cs)

some_place : (b : Bool) (p n : ℕ) → cond b (Some p) None ≡ Some n → p ≡ n
some_place true p n e = cc
some_place false p n e = cc

none_place : (b : Bool) (p : ℕ) → cond b (Some p) None ≡ None → b ≡ false
none_place true p e = cc
none_place false p e = refl

at_newline_step : (b : Bool) (c : ℕ) (cs : List ℕ) → b ≡ eqb c 10 → cond (not b) (1 + newline_at cs) 0 < length (c ∷ cs) → (newline_at cs < length cs → get_or cs (newline_at cs) 0 ≡ 10) → get_or (c ∷ cs) (cond (not b) (1 + newline_at cs) 0) 0 ≡ 10
at_newline_step true c cs e inside rest = eqb-true c 10 (sym e)
at_newline_step false c cs e inside rest =
    let left : newline_at cs < length cs = omega (arith, inside) in
    ap (λ k. get_or (c ∷ cs) k 0) (sym (next (newline_at cs))) ∙ rest left

at_newline : (text : List ℕ) → newline_at text < length text → get_or text (newline_at text) 0 ≡ 10
at_newline [] inside = absurd (omega (arith, inside))
at_newline (c ∷ cs) inside = at_newline_step (eqb c 10) c cs refl inside (at_newline cs)

inside_of : (b : Bool) (p n : ℕ) → cond b (Some p) None ≡ Some n → b ≡ true
inside_of true p n e = refl
inside_of false p n e = cc

-- the newline itself is a blank
pub behind : (text : List ℕ) (n : ℕ) → position (λ c. eqb c 10) text ≡ Some n → stripped_in true text ≡ stripped_in false (take (length text - (n + 1)) (drop (n + 1) text))
behind text n e =
    let here : newline_at text ≡ n = some_place _ _ n e in
    let within : newline_at text < length text = ltb-true _ _ (inside_of _ _ n e) in
    let inside : n < length text = omega (arith, here, within) in
    let sign : get_or text n 0 ≡ 10 = ap (λ k. get_or text k 0) (sym here) ∙ at_newline text within in
    let whole : take (length text - (n + 1)) (drop (n + 1) text) ≡ drop (n + 1) text = take_all _ _ (omega (arith, length-drop (n + 1) text)) in
    ended text
    ∙ ap (λ k. stripped_in false (drop k text)) here
    ∙ at_drop_more (stripped_in false) text n 0 inside
    ∙ ap (λ c. stripped_in false (c ∷ drop (n + 1) text)) sign
    ∙ ap (stripped_in false) (sym whole)

pub unended : (text : List ℕ) → position (λ c. eqb c 10) text ≡ None → stripped_in true text ≡ []
unended text e =
    let beyond : length text ≤ newline_at text = ltb-false _ _ (none_place _ _ e) in
    ended text ∙ ap (stripped_in false) (drop_all (newline_at text) text beyond)
