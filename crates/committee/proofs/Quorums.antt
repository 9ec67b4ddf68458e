-- What a quorum and a weak quorum of a committee are good for. Assumes nothing.
-- Each fact about groups is one inequality at each process, summed up.
use Rattle.std.proofs.Common.{◌≡◌, ℕ, ◌+◌, ◌≤◌, Bool, true, false, cond, not, ◌&&◌, ltb, refl, ap, lt_of_lt_of_le, arith, lit≤, pow_mono}
use Rattle.std.proofs.lemmas.Bool.{lt-ltb, and_parts}
use Rattle.counting.specs.Counts.{count_to}
use Rattle.counting.proofs.Sums.{sum-le, sum-add, found, below_few}
use Rattle.counting.proofs.Bits.{ones-count}
use Rattle.committee.specs.declared.membership.Committee.{Committee}
use Rattle.committee.specs.Sets.{contains}
use Rattle.committee.specs.Thresholds.{is_correct, QuorumsMeet, OneCorrect, ManyCorrect}

abbrev one : Bool → ℕ
one b = cond b 1 0

-- of a group's members each is faulty or correct
faulty_or_correct : (a h : Bool) → one a ≤ one h + one (a && not h)
faulty_or_correct false h = omega arith
faulty_or_correct true false = lit≤ tt
faulty_or_correct true true = lit≤ tt

-- a member of two groups is counted twice, and is faulty or correct; w says whether it is of the committee
twice : (a b w h : Bool) → (a ≡ true → w ≡ true) → (b ≡ true → w ≡ true) → one a + one b ≤ one w + (one h + one (not h && (a && b)))
twice false false w h i j = omega arith
twice false true w h i j = omega (arith, ap one (j refl))
twice true false w h i j = omega (arith, ap one (i refl))
twice true true w false i j = omega (arith, ap one (i refl))
twice true true w true i j = omega (arith, ap one (i refl))

module _ (c : Committee) where
  -- the faulty processes are f at most
  faulty_few : count_to (contains c.faulty) 31 ≤ c.f
  faulty_few =
      omega (arith, c.few, ones-count 31 c.faulty.bits (lt_of_lt_of_le c.inside (pow_mono {j = 31} (omega (arith, c.whole, c.high)))))

  -- all but f of a group are correct
  correct_many : (a : ℕ → Bool) → count_to a 31 ≤ c.f + count_to (λ p. a p && is_correct c p) 31
  correct_many a =
      omega (
        arith,
        faulty_few,
        sum-add (λ p. one (contains c.faulty p)) (λ p. one (a p && is_correct c p)) 31,
        sum-le (λ p. one (a p)) (λ p. one (contains c.faulty p) + one (a p && is_correct c p)) 31
            (λ p _. faulty_or_correct (a p) (contains c.faulty p)),
      )

  pub many_correct : ManyCorrect c
  many_correct a h = omega (arith, correct_many a)

  pub one_correct : OneCorrect c
  one_correct a h =
      let r = found (λ p. a p && is_correct c p) 31 (omega (arith, correct_many a)) in
      let k = and_parts (a r.0) (is_correct c r.0) r.2 in
      (r.0, k.1, k.0)

  pub quorums_meet : QuorumsMeet c
  quorums_meet a b ma mb ha hb =
      let both : ℕ → Bool = λ p. is_correct c p && (a p && b p) in
      let of : ℕ → Bool = λ p. ltb p c.n in
      let r =
      found both 31
      (omega (
        arith,
        faulty_few,
        c.whole,
        (below_few c.n 31).0,
        sum-add (λ p. one (a p)) (λ p. one (b p)) 31,
        sum-add (λ p. one (of p)) (λ p. one (contains c.faulty p) + one (both p)) 31,
        sum-add (λ p. one (contains c.faulty p)) (λ p. one (both p)) 31,
        sum-le (λ p. one (a p) + one (b p)) (λ p. one (of p) + (one (contains c.faulty p) + one (both p))) 31
            (λ p _. twice (a p) (b p) (of p) (contains c.faulty p) (λ e. lt-ltb p c.n (ma p e)) (λ e. lt-ltb p c.n (mb p e))),
      )) in
      let k = and_parts (is_correct c r.0) (a r.0 && b r.0) r.2 in
      let l = and_parts (a r.0) (b r.0) k.1 in
      (r.0, k.0, l.0, l.1)
