-- A loop that puts the process of each record that counts into a set. Assumes nothing.
use Rattle.std.proofs.Common.{◌≡◌, ℕ, ◌+◌, ◌^◌, ◌<◌, ◌≤◌, Bool, true, false, ◌&&◌, ◌||◌, eqb, ltb, ◌⊎◌, List, [], length, get_or, take, sym, refl, ap, ◌∙◌, ap₂, ⊎_elim, arith, lit<, take_all}
use lib.Bits.{bit_or}
use Rattle.std.proofs.lemmas.Nat.{or_lt, pow_below}
use Rattle.std.proofs.lemmas.Bool.{ne_eqb, lt-ltb, and_left, and_right, cond-true}
use Rattle.counting.specs.Counts.{any, count_to}
use Rattle.counting.proofs.Booleans.{or_false, and_true}
use Rattle.counting.proofs.Any.{any-more}
use Rattle.counting.proofs.Sums.{count_same}
use Rattle.counting.proofs.Bits.{ones-count, bit_at-with, bit_at-none}
use Rattle.committee.specs.declared.sets.ProcessSet.{ProcessSet}
use Rattle.committee.specs.Sets.{contains, with_member, size, of_bits}
use Rattle.register.specs.Distinct.{seen, Gathered}

-- the set with one member more
pub with_bits : (s : ProcessSet) (p : ℕ) → p ≤ 30 → (with_member s p).bits ≡ bit_or s.bits (2 ^ p)
with_bits s p h = cond-true (ltb p 32) _ _ (lt-ltb p 32 (omega arith))

pub with_low : (s : ProcessSet) (p : ℕ) → p ≤ 30 → s.bits < 2 ^ 31 → (with_member s p).bits < 2 ^ 31
with_low s p h low = rw (with_bits s p h) (or_lt 31 s.bits (2 ^ p) low (pow_below p 31 (omega arith)))

pub with_contains : (s : ProcessSet) (p q : ℕ) → p ≤ 30 → contains (with_member s p) q ≡ (contains s q || eqb p q)
with_contains s p q h = ap (λ (b : ℕ). contains (of_bits b) q) (with_bits s p h) ∙ bit_at-with s.bits p q

module _ {X : Type 0} (process : X → ℕ) (counts : X → Bool) where
  -- the set holds the processes from 0 to 30 of the records that count
  abbrev pub Stands : ProcessSet → List X → Type 0
  Stands s xs = (s.bits < 2 ^ 31) × ((p : ℕ) → p < 31 → contains s p ≡ seen process counts xs p)

  pub stands_none : Stands (of_bits 0) []
  unfolding any
  stands_none = (lit< tt, λ p h. bit_at-none p)

  -- `w` is the record's process as the code has it
  pub stands_yes : (s : ProcessSet) (xs : List X) (i : ℕ) (x : X) (w : ℕ)
      → i < length xs → x ≡ get_or xs i x → w ≡ process x → w ≤ 30 → counts x ≡ true → Stands s (take i xs) → Stands (with_member s w) (take (i + 1) xs)
  stands_yes s xs i x w l read e small is inv = (
    with_low s w small inv.0,
    λ p h.
        with_contains s w p small
        ∙ ap₂ (λ (a b : Bool). a || b) (inv.1 p h) (ap (λ (v : ℕ). eqb v p) e ∙ sym (and_true (eqb (process x) p) (counts x) is))
        ∙ sym (any-more (λ y. eqb (process y) p && counts y) xs i x l read),
  )

  pub stands_no : (s : ProcessSet) (xs : List X) (i : ℕ) (x : X)
      → i < length xs → x ≡ get_or xs i x → (counts x ≡ false) ⊎ (30 < process x) → Stands s (take i xs) → Stands s (take (i + 1) xs)
  stands_no s xs i x l read out inv = (
    inv.0,
    λ p h.
        inv.1 p h
        ∙ sym (or_false (seen process counts (take i xs) p) false refl)
        ∙ ap (λ (b : Bool). seen process counts (take i xs) p || b)
        (sym (⊎_elim (λ e. and_right (eqb (process x) p) (counts x) e) (λ far. and_left (eqb (process x) p) (counts x) (ne_eqb (process x) p (λ q. omega arith))) out))
        ∙ sym (any-more (λ y. eqb (process y) p && counts y) xs i x l read),
  )

  pub stands_all : (s : ProcessSet) (xs : List X) (i : ℕ) → length xs ≤ i → Stands s (take i xs) → Gathered (seen process counts xs) s
  stands_all s xs i h inv =
      let whole : (p : ℕ) → p < 31 → contains s p ≡ seen process counts xs p = λ p l. inv.1 p l ∙ ap (λ (zs : List X). seen process counts zs p) (take_all i xs h) in
      record {
        low = inv.0;
        members = whole;
        count = ones-count 31 s.bits inv.0 ∙ count_same (contains s) (seen process counts xs) 31 whole;
      }

-- ---- one process more

or_swap : (a b : Bool) → (a || b) ≡ (b || a)
or_swap true true = refl
or_swap true false = refl
or_swap false true = refl
or_swap false false = refl

pub gathered_with : (t : ℕ → Bool) (s : ProcessSet) (p : ℕ) → Gathered t s → p ≤ 30 → size (with_member s p) ≡ count_to (λ q. eqb p q || t q) 31
gathered_with t s p g h =
    ones-count 31 (with_member s p).bits (with_low s p h g.low)
    ∙ count_same (contains (with_member s p)) (λ q. eqb p q || t q) 31
    (λ q l. with_contains s p q h ∙ or_swap (contains s q) (eqb p q) ∙ ap (λ (b : Bool). eqb p q || b) (g.members q l))

-- a number above 30 is no process
pub gathered_without : (t : ℕ → Bool) (s : ProcessSet) (p : ℕ) → Gathered t s → 30 < p → size s ≡ count_to (λ q. eqb p q || t q) 31
gathered_without t s p g h =
    g.count ∙ count_same t (λ q. eqb p q || t q) 31 (λ q l. ap (λ (b : Bool). b || t q) (sym (ne_eqb p q (λ e. omega arith))))
