use Rattle.std.proofs.Common.{◌≡◌, true, List, sym, subst, rules}
use Rattle.register.specs.declared.pair.Pair.{Pair}
use Rattle.register.specs.Pairs.{distinct_pairs, Low}
use Rattle.register.specs.Signing.{distinct_push, low_push, added_push}
use Rattle.register.proofs.roll.Roll.put.Goals as goal

pub invariant_of-self : goal.invariant_of-self
invariant_of-self c =
    let D : List Pair → Type 0 = λ xs. distinct_pairs xs ≡ true in
    let e = sym c.push_reserved.ensures.items in
    record {
      few = search rules;
      roomy = search rules;
      distinct = subst D e (distinct_push _ c.args.pair c.requires.fresh c.args.self.now.distinct);
      low = subst Low e (low_push _ c.args.pair c.requires.low c.args.self.now.low);
    }

pub returns : goal.returns
returns c = added_push _ _ c.args.pair c.requires.fresh c.push_reserved.ensures.items
