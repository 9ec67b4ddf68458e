-- What a hexadecimal text is, told by what can be written. Assumes nothing.
--   digit_for       the digit of a value below 16, with small letters or capital ones
--   written         bytes as digits, two to a byte, the high one first
--   ReadsBack       what is written is read back
--   SkipsComments   a comment with the newline that ends it counts for as much as that newline
use Rattle.std.specs.Prelude.{◌≡◌, ℕ, ◌+◌, ◌/◌, ◌%◌, ◌<◌, Bool, cond, List, [], ◌∷◌, ◌++◌, Some, ◌≢◌, nat_lt}
use Rattle.std.specs.List.{AllByRecursion}
use Rattle.hexadecimal.specs.Bytes.{bytes_of}

abbrev pub digit_for : Bool → ℕ → ℕ
digit_for small d = cond (nat_lt d 10) (48 + d) (cond small (87 + d) (55 + d))

abbrev pub written : Bool → List ℕ → List ℕ
written small [] = []
written small (b ∷ bs) = digit_for small (b / 16) ∷ digit_for small (b % 16) ∷ written small bs

abbrev pub ReadsBack : Type 0
ReadsBack = (small : Bool) (bs : List ℕ) → AllByRecursion (λ b. b < 256) bs → bytes_of (written small bs) ≡ Some bs

abbrev pub SkipsComments : Type 0
SkipsComments =
    (front comment back : List ℕ) → AllByRecursion (λ c. c ≢ 10) comment → bytes_of (front ++ 35 ∷ comment ++ 10 ∷ back) ≡ bytes_of (front ++ 10 ∷ back)
