-- A set of processes as the bits of a number. Assumes nothing.
use Rattle.std.proofs.Common.{◌≡◌, ℕ, zero, suc, ◌+◌, ◌-◌, ◌/◌, ◌%◌, ◌^◌, ◌<◌, Bool, false, cond, ◌||◌, eqb, ◌⊎◌, sym, refl, ap, ◌∙◌, subst, ap₂, inl, inr, mod-lt, mod-eq_of_lt, one-mul, one-add, arith, pow_pos}
use native.Mathlib.Nat.{mod-one, div-eq_of_lt, zero-div}
use lib.Bits.{bit_or, shifted_even}
use lib.Count.{ones, ones_cat}
use Rattle.std.proofs.lemmas.Nat.{mod-pow-add, or_shr, or_mod, pow-add, pow_below, shl-shr}
use Rattle.std.proofs.lemmas.Bool.{eq-eqb, ne_eqb, cases_order}
use Rattle.counting.specs.Counts.{sum_to, count_to, bit_at}

ones_bit : (b : ℕ) → b < 2 → ones b ≡ cond (eqb b 1) 1 0
unfolding ones
ones_bit zero h = refl
ones_bit (suc zero) h = refl
ones_bit (suc (suc b)) h = absurd (omega arith)

ones_low : (k n : ℕ) → ones (n % 2 ^ k) ≡ count_to (bit_at n) k
unfolding sum_to ones
ones_low zero n = ap ones (mod-one n)
ones_low (suc k) n =
    ap (λ (x : ℕ). ones (n % 2 ^ x)) (sym (one-add k))
    ∙ ap ones (mod-pow-add n 1 k)
    ∙ ones_cat k (n / 2 ^ k % 2) (n % 2 ^ k) (mod-lt n (pow_pos k))
    ∙ ap₂ (λ (x y : ℕ). x + y) (ones_bit (n / 2 ^ k % 2) (mod-lt (n / 2 ^ k) (omega arith))) (ones_low k n)

-- the number of set bits is the number of members
pub ones-count : (k n : ℕ) → n < 2 ^ k → ones n ≡ count_to (bit_at n) k
ones-count k n h = ap ones (sym (mod-eq_of_lt h)) ∙ ones_low k n

-- the bit p of 2 ^ w
bit_of : (w p : ℕ) → (w ≡ p) ⊎ ((w < p) ⊎ (p < w)) → bit_at (2 ^ w) p ≡ eqb w p
bit_of w p (inl e) =
    subst (λ (v : ℕ). bit_at (2 ^ v) p ≡ eqb v p) (sym e)
    (ap (λ (x : ℕ). eqb (x % 2) 1) (ap (λ (x : ℕ). x / 2 ^ p) (sym (one-mul (2 ^ p))) ∙ shl-shr 1 p) ∙ sym (eq-eqb p p refl))
bit_of w p (inr (inl l)) =
    ap (λ (x : ℕ). eqb (x % 2) 1) (div-eq_of_lt (pow_below w p l)) ∙ sym (ne_eqb w p (λ e. omega arith))
bit_of w p (inr (inr l)) =
    let j : ℕ = w - p - 1 in
    let e : w ≡ suc j + p = omega arith in
    ap (λ (v : ℕ). eqb (2 ^ v / 2 ^ p % 2) 1) e
    ∙ ap (λ (x : ℕ). eqb (x / 2 ^ p % 2) 1) (pow-add 2 (suc j) p)
    ∙ ap (λ (x : ℕ). eqb (x % 2) 1) (shl-shr (2 ^ suc j) p ∙ sym (one-mul (2 ^ suc j)))
    ∙ ap (λ (x : ℕ). eqb x 1) (shifted_even 1 j)
    ∙ sym (ne_eqb w p (λ q. omega arith))

pub bit_at-one : (w p : ℕ) → bit_at (2 ^ w) p ≡ eqb w p
bit_at-one w p = bit_of w p (cases_order w p)

or_bit : (x y : ℕ) → x < 2 → y < 2 → eqb (bit_or x y) 1 ≡ (eqb x 1 || eqb y 1)
or_bit zero zero h k = refl
or_bit zero (suc zero) h k = refl
or_bit (suc zero) zero h k = refl
or_bit (suc zero) (suc zero) h k = refl
or_bit zero (suc (suc y)) h k = absurd (omega arith)
or_bit (suc zero) (suc (suc y)) h k = absurd (omega arith)
or_bit (suc (suc x)) y h k = absurd (omega arith)

pub bit_at-or : (m n p : ℕ) → bit_at (bit_or m n) p ≡ (bit_at m p || bit_at n p)
bit_at-or m n p =
    ap (λ (x : ℕ). eqb (x % 2) 1) (or_shr m n p)
    ∙ ap (λ (x : ℕ). eqb x 1) (or_mod (m / 2 ^ p) (n / 2 ^ p) 1)
    ∙ or_bit (m / 2 ^ p % 2) (n / 2 ^ p % 2) (mod-lt (m / 2 ^ p) (omega arith)) (mod-lt (n / 2 ^ p) (omega arith))

-- a set with one member more
pub bit_at-with : (m w p : ℕ) → bit_at (bit_or m (2 ^ w)) p ≡ (bit_at m p || eqb w p)
bit_at-with m w p = bit_at-or m (2 ^ w) p ∙ ap (λ (b : Bool). bit_at m p || b) (bit_at-one w p)

pub bit_at-none : (p : ℕ) → bit_at 0 p ≡ false
bit_at-none p = ap (λ (x : ℕ). eqb (x % 2) 1) (zero-div (2 ^ p))

-- a number has no bit past its length
pub bit_at-high : (m p : ℕ) → m < 2 ^ p → bit_at m p ≡ false
bit_at-high m p h = ap (λ (x : ℕ). eqb (x % 2) 1) (div-eq_of_lt h)
