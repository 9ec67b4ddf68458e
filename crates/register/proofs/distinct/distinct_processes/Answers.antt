use Rattle.std.proofs.Common.{◌+◌, take, sym, ◌∙◌, subst, inl, inr, arith}
use Rattle.committee.specs.declared.sets.ProcessSet.{ProcessSet}
use Rattle.register.proofs.Gathering.{Stands, stands_none, stands_yes, stands_no, stands_all}
use Rattle.register.proofs.distinct.distinct_processes.Goals as goal
use Rattle.register.proofs.distinct.distinct_processes.Goals.{then-p-le30+then-counts, else-p-le30, else-p-le30-via-then-p-le30+else-counts, else-p-le30-via-else-p-le30}

pub loop-x-init : goal.loop-x-init
loop-x-init g c = stands_none g.T.Attests.process (λ x. g.T.Attests.counts x c.args.query.now)

pub loop-x-preserved : goal.loop-x-preserved
loop-x-preserved g c =
    let counted = λ (x : g.row.T.Denot). g.T.Attests.counts x c.args.query.now in
    let S : ProcessSet → Type 0 = λ s. Stands g.T.Attests.process counted s (take (c.loop-x.x-index + 1) c.args.items.now) in
    elim c.if-p-le30.branch [
      | then-p-le30+then-counts w ↦ subst S (sym (w.found-is ∙ w.with-found.ensures))
          (stands_yes g.T.Attests.process counted c.loop-x.found c.args.items.now c.loop-x.x-index c.x-item.result c.process-p.result
          c.loop-x-test.true c.x-item.is c.process-p.ensures w.if-p-le30.true (sym w.if-counts.ensures) c.loop-x.invariant)
      | else-p-le30 w ↦ subst S (sym w.found-is)
          (stands_no g.T.Attests.process counted c.loop-x.found c.args.items.now c.loop-x.x-index c.x-item.result
          c.loop-x-test.true c.x-item.is
          (elim w.else-p-le30.branch [
            | else-p-le30-via-then-p-le30+else-counts v ↦ inl (sym v.if-counts.ensures)
            | else-p-le30-via-else-p-le30 v ↦ inr (omega (arith, c.process-p.ensures))
          ]) c.loop-x.invariant)
    ]

pub returns : goal.returns
returns g c =
    stands_all g.T.Attests.process (λ x. g.T.Attests.counts x c.args.query.now) c.loop-x.found c.args.items.now c.loop-x.x-index
    c.loop-x-test.false c.loop-x.invariant
