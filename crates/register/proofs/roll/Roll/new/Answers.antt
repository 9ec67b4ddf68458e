use Rattle.std.proofs.Common.{◌≡◌, true, List, [], refl, subst, rules}
use Rattle.std.proofs.lemmas.Bool.{both_ways}
use Rattle.counting.specs.Counts.{any}
use Rattle.register.specs.declared.pair.Pair.{Pair}
use Rattle.register.specs.Pairs.{distinct_pairs, Low}
use Rattle.register.proofs.roll.Roll.new.Goals as goal

pub invariant_of-result-clause-distinct : goal.invariant_of-result-clause-distinct
unfolding distinct_pairs
invariant_of-result-clause-distinct c =
    let none : [] ≡ c.in_ok-pairs.pairs.items = search rules in
    let D : List Pair → Type 0 = λ xs. distinct_pairs xs ≡ true in
    subst D none refl

pub invariant_of-result-clause-low : goal.invariant_of-result-clause-low
unfolding any
invariant_of-result-clause-low c =
    let none : [] ≡ c.in_ok-pairs.pairs.items = search rules in
    subst Low none (λ p s h. absurd (both_ways _ refl h))
