-- To whom the records of correct processes go, and that they are well formed. Assumes nothing.
use Rattle.std.proofs.Common.{◌≡◌, ℕ, ◌+◌, ◌<◌, ◌≤◌, Bool, false, cond, ◌||◌, eqb, ltb, refl, ap, ◌∙◌, inl, inr, arith, lit<}
use lib.Count.{ones-ones}
use Rattle.std.proofs.lemmas.Bool.{lt-ltb}
use Rattle.counting.proofs.Sums.{count_more, count_none}
use Rattle.counting.proofs.Bits.{ones-count, bit_at-none}
use Rattle.committee.specs.declared.membership.Committee.{Committee}
use Rattle.committee.specs.Sets.{contains, all, size, of_bits}
use Rattle.register.proofs.Gathering.{with_low, with_contains}
use Rattle.wire.specs.declared.record.Record.{Record}
use Rattle.wire.specs.Kinds.{kind_number}
use Rattle.protocol.specs.Sending.{only}
use Rattle.agreement.specs.Facts.{Addressed, ToLeader, ByLeader}

-- one process is one
pub size_only : (l : ℕ) → l ≤ 30 → size (only l) ≡ 1
size_only l h =
    ones-count 31 (only l).bits (with_low (of_bits 0) l h (lit< tt))
    ∙ count_more 31 l (λ _. false) (contains (only l)) (λ q _. with_contains (of_bits 0) l q h ∙ ap (λ (b : Bool). b || eqb l q) (bit_at-none q)) refl
    ∙ ap (λ (n : ℕ). n + cond (ltb l 31) 1 0) (count_none 31)
    ∙ ap (λ (b : Bool). 0 + cond {A = ℕ} b 1 0) (lt-ltb l 31 (omega arith))

pub to_one_lem : (c : Committee) (leader : ℕ → ℕ) (r : Record) (l : ℕ) → l < c.n → r.to ≡ only l → (ByLeader (kind_number r.kind) → ⊥) → Addressed c leader r
to_one_lem c leader r l h e n =
    let one = ap size e ∙ size_only l (omega (arith, h, c.whole, c.high)) in
    record { few = omega (arith, one, c.whole); one = λ _. one; led = λ b. absurd (n b) }

pub to_all_lem : (c : Committee) (leader : ℕ → ℕ) (r : Record) → r.to ≡ all c.n → (ToLeader (kind_number r.kind) → ⊥)
    → (ByLeader (kind_number r.kind) → r.sender ≡ leader r.number) → Addressed c leader r
to_all_lem c leader r e n led =
    record { few = omega (arith, ap size e, ones-ones c.n); one = λ b. absurd (n b); led = led }

-- which kinds are which
pub not_by : (k : ℕ) → (k ≡ 7 → ⊥) → (k ≡ 9 → ⊥) → (k ≡ 11 → ⊥) → (k ≡ 13 → ⊥) → ByLeader k → ⊥
not_by k a b c d (inl e) = a e
not_by k a b c d (inr (inl e)) = b e
not_by k a b c d (inr (inr (inl e))) = c e
not_by k a b c d (inr (inr (inr e))) = d e

pub not_to : (k : ℕ) → (k ≡ 6 → ⊥) → (k ≡ 8 → ⊥) → (k ≡ 10 → ⊥) → (k ≡ 12 → ⊥) → ToLeader k → ⊥
not_to k a b c d (inl e) = a e
not_to k a b c d (inr (inl e)) = b e
not_to k a b c d (inr (inr (inl e))) = c e
not_to k a b c d (inr (inr (inr e))) = d e
