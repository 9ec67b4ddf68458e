-- Why what is written is read back, and why a comment does not count. Assumes nothing.
use Rattle.std.proofs.Common.{◌≡◌, ℕ, ◌/◌, ◌%◌, ◌<◌, Bool, true, false, cond, ◌||◌, eqb, List, [], ◌∷◌, ◌++◌, Some, refl, ap, ◌∙◌, mod-lt, div-add-mod', arith, lit<}
use Rattle.std.proofs.lemmas.Bool.{cond-true, cond-false, ne_eqb, not_from_false, or_from, or_left}
use Rattle.std.proofs.lemmas.Bool.Decides.{nat_tests}
use Rattle.std.specs.List.{AllByRecursion}
use Rattle.hexadecimal.specs.Bytes.{blank, in_comment, stripped_in, stripped, digit_of, byte_of, followed, paired}
use Rattle.hexadecimal.specs.Laws.{digit_for, written, ReadsBack, SkipsComments}

-- a digit has its value
value_of : (small : Bool) (d : ℕ) → d < 16 → digit_of (digit_for small d) ≡ Some d
value_of true d h = grind (arith, nat_tests)
value_of false d h = grind (arith, nat_tests)

-- a digit begins no comment and is no blank
plain : (small : Bool) (d : ℕ) → d < 16 → (in_comment false (digit_for small d) ≡ false) × (blank (digit_for small d) ≡ false)
plain true d h = (grind (arith, nat_tests), grind (arith, nat_tests))
plain false d h = (grind (arith, nat_tests), grind (arith, nat_tests))

stays : (c : ℕ) (cs : List ℕ) → (in_comment false c ≡ false) × (blank c ≡ false) → stripped_in false (c ∷ cs) ≡ c ∷ stripped_in false cs
stays c cs p =
    cond-false (in_comment false c || blank c) _ _ (or_from (in_comment false c) (blank c) p.0 p.1) ∙ ap (λ b. c ∷ stripped_in b cs) p.0

module _ (b : ℕ) (h : b < 256) where
  high : b / 16 < 16
  high = omega (arith, div-add-mod' b 16)

  low : b % 16 < 16
  low = mod-lt b (lit< tt)

-- nothing is stripped of what is written
stripped-written : (small : Bool) (bs : List ℕ) → AllByRecursion (λ b. b < 256) bs → stripped (written small bs) ≡ written small bs
stripped-written small [] hs = refl
stripped-written small (b ∷ bs) hs =
    stays (digit_for small (b / 16)) (digit_for small (b % 16) ∷ written small bs) (plain small (b / 16) (high b hs.0))
    ∙ ap (λ l. digit_for small (b / 16) ∷ l) (stays (digit_for small (b % 16)) (written small bs) (plain small (b % 16) (low b hs.0)))
    ∙ ap (λ l. digit_for small (b / 16) ∷ digit_for small (b % 16) ∷ l) (stripped-written small bs hs.1)

paired-written : (small : Bool) (bs : List ℕ) → AllByRecursion (λ b. b < 256) bs → paired (written small bs) ≡ Some bs
paired-written small [] hs = refl
paired-written small (b ∷ bs) hs =
    ap (λ o. followed (byte_of o (digit_of (digit_for small (b % 16)))) (paired (written small bs))) (value_of small (b / 16) (high b hs.0))
    ∙ ap (λ o. followed (byte_of (Some (b / 16)) o) (paired (written small bs))) (value_of small (b % 16) (low b hs.0))
    ∙ ap (λ n. followed (Some n) (paired (written small bs))) (div-add-mod' b 16)
    ∙ ap (λ o. followed (Some b) o) (paired-written small bs hs.1)

pub reads_back : ReadsBack
reads_back small bs hs = ap paired (stripped-written small bs hs) ∙ paired-written small bs hs

-- a comment up to its newline
ends : (comment back : List ℕ) → AllByRecursion (λ c. c ≡ 10 → ⊥) comment → stripped_in true (comment ++ 10 ∷ back) ≡ stripped_in false back
ends [] back hs = refl
ends (c ∷ cs) back hs =
    let on : in_comment true c ≡ true = not_from_false (eqb c 10) (ne_eqb c 10 hs.0) in
    cond-true (in_comment true c || blank c) _ _ (or_left (in_comment true c) (blank c) on) ∙ ap (λ b. stripped_in b (cs ++ 10 ∷ back)) on ∙ ends cs back hs.1

skips : (front comment back : List ℕ) (before : Bool) → AllByRecursion (λ c. c ≡ 10 → ⊥) comment → stripped_in before (front ++ 35 ∷ comment ++ 10 ∷ back) ≡ stripped_in before (front ++ 10 ∷ back)
skips [] comment back true hs = ends comment back hs
skips [] comment back false hs = ends comment back hs
skips (c ∷ front) comment back before hs =
    ap (λ l. cond (in_comment before c || blank c) l (c ∷ l)) (skips front comment back (in_comment before c) hs)

pub skips_comments : SkipsComments
skips_comments front comment back hs = ap paired (skips front comment back false hs)
