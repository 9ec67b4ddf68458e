use Rattle.std.proofs.Common.{ℕ, Bool, cond, vec_items, ap, ◌∙◌, arith, rules}
use Rattle.register.specs.Rows.{sound}
use Rattle.register.proofs.RowSigning.{add_sound, added_to}
use Rattle.register.proofs.tally.Tally.put.Goals as goal

pub invariant_of-self : goal.invariant_of-self
invariant_of-self c =
    let added = added_to (vec_items c.args.self.now.rows) (vec_items c.mark.new.rows) c.args.pair.process c.args.pair.statement c.requires.low c.requires.fresh c.mark.ensures.items in
    let one = ap (λ (b : Bool). cond {A = ℕ} b 0 1) c.requires.fresh in
    record {
      few = search rules;
      short = search rules;
      roomy = search rules;
      counted = omega (arith, added.count, one);
      fine = ap sound c.mark.ensures.items ∙ add_sound (vec_items c.args.self.now.rows) c.args.pair.process c.args.pair.statement c.requires.low c.args.self.now.fine;
    }

pub returns : goal.returns
returns c =
    added_to (vec_items c.args.self.now.rows) (vec_items c.mark.new.rows) c.args.pair.process c.args.pair.statement
    c.requires.low c.requires.fresh c.mark.ensures.items
