-- The table of digits says what a digit is. Assumes nothing.
use Rattle.std.proofs.Common.{◌≡◌, ℕ, ◌<◌, ◌≤◌, true, eqb, List, get_or, Some, None, Option, refl, ap, arith}
use Rattle.std.proofs.lemmas.Bool.{eqb-true, agree_below, agree_below_at}
use Rattle.std.proofs.lemmas.Bool.Decides.{nat_tests}
use Rattle.hexadecimal.specs.Bytes.{digit_of}

-- what the table holds of a digit
abbrev code : Option ℕ → ℕ
code None = 255
code (Some d) = d

abbrev pub AgreesTo : ℕ → List ℕ → Type 0
AgreesTo n table = agree_below (λ c. eqb (get_or table c 0) (code (digit_of c))) (λ c. true) n ≡ true

holds : (table : List ℕ) (n c : ℕ) → AgreesTo n table → c < n → get_or table c 0 ≡ code (digit_of c)
holds table n c same below = eqb-true _ _ (agree_below_at _ _ n c same below)

low : (c d : ℕ) → digit_of c ≡ Some d → d < 16
low c d e = grind (arith, nat_tests)

found_as : (o : Option ℕ) (v : ℕ) → v ≡ code o → v < 16 → Some v ≡ o
found_as None v e small = absurd (omega arith)
found_as (Some d) v e small = ap Some e

missed_as : (o : Option ℕ) (v : ℕ) → ((d : ℕ) → o ≡ Some d → d < 16) → v ≡ code o → 16 ≤ v → None ≡ o
missed_as None v few e big = refl
missed_as (Some d) v few e big = let small : d < 16 = few d refl in absurd (omega arith)

pub found : (table : List ℕ) (c : ℕ) → AgreesTo 256 table → c < 256 → get_or table c 0 < 16 → Some (get_or table c 0) ≡ digit_of c
found table c same below small = found_as (digit_of c) _ (holds table 256 c same below) small

pub missed : (table : List ℕ) (c : ℕ) → AgreesTo 256 table → c < 256 → 16 ≤ get_or table c 0 → None ≡ digit_of c
missed table c same below big = missed_as (digit_of c) _ (low c) (holds table 256 c same below) big
