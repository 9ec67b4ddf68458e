-- ALLOW-ANY: who has heeded the disclosures that it takes, and of no value those of a weak quorum, knows that the correct ones differ.
-- Assumes nothing.
use Rattle.std.proofs.Common.{◌≡◌, ℕ, ◌<◌, ◌≤◌, Bool, true, cond, ◌&&◌, refl, le_trans, arith}
use Rattle.std.proofs.lemmas.Bool.{and_parts, and_from}
use Rattle.counting.specs.Counts.{any, count_to}
use Rattle.counting.proofs.Sums.{sum-le}
use Rattle.committee.specs.declared.membership.Committee.{Committee}
use Rattle.committee.specs.Sets.{contains}
use Rattle.committee.specs.Thresholds.{quorum_of, weak_quorum_of, disclosure_quorum_of, is_correct}
use Rattle.committee.proofs.Quorums.{many_correct}
use Rattle.wire.specs.declared.record.Record.{Record}
use Rattle.agreement.specs.Wires.{Wire, Correct, Sent, sends, posts, heard, heard_of}
use Rattle.agreement.proofs.Elements.{test_le, any-from, all_any}
use Rattle.agreement.proofs.Records.{posts-parts, sends-from}

-- the disclosures that ALLOW-ANY takes are those of a quorum
disclosures_enough : (c : Committee) → quorum_of c ≤ disclosure_quorum_of c
disclosures_enough c = omega arith

module _ (c : Committee) (ws : Wire) (p w : ℕ) (all : (q x : ℕ) → Correct c q → Sent ws q 1 0 x → x ≡ w) where
  -- where all that correct processes have disclosed is w, a disclosure heard of one of them is of w
  heard-of : (q : ℕ) → (heard ws p q && is_correct c q) ≡ true → heard_of ws p w q ≡ true
  heard-of q e =
      let a = and_parts (heard ws p q) (is_correct c q) e in
      any-from (λ r. (t : Record → Bool) → t r ≡ true → any t ws ≡ true)
      (λ r. contains r.heeded p && posts q 1 0 r) (λ r. contains r.heeded p && sends q 1 0 w r) ws (all_any ws)
      (λ r on h.
      let b = and_parts (contains r.heeded p) (posts q 1 0 r) h in
      let d = posts-parts q 1 0 r b.1 in
      let x = all q r.value a.1 (on (sends q 1 0 r.value) (sends-from q 1 0 r.value r d.0 d.1 d.2 refl)) in
      and_from (contains r.heeded p) (sends q 1 0 w r) b.0 (sends-from q 1 0 w r d.0 d.1 d.2 x)) a.0

  -- so a weak quorum has disclosed w
  heard-weak : disclosure_quorum_of c ≤ count_to (heard ws p) 31 → weak_quorum_of c ≤ count_to (heard_of ws p w) 31
  heard-weak many =
      le_trans (many_correct c (heard ws p) (le_trans (disclosures_enough c) many))
      (sum-le (λ q. cond (heard ws p q && is_correct c q) 1 0) (λ q. cond (heard_of ws p w q) 1 0) 31
      (λ q _. test_le (heard ws p q && is_correct c q) (heard_of ws p w q) (heard-of q)))

pub differ : (c : Committee) (ws : Wire) (p w : ℕ)
    → disclosure_quorum_of c ≤ count_to (heard ws p) 31 → count_to (heard_of ws p w) 31 < weak_quorum_of c
    → ((q x : ℕ) → Correct c q → Sent ws q 1 0 x → x ≡ w) → ⊥
differ c ws p w many few all = omega (arith, heard-weak c ws p w all many)
