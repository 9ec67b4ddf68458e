use Rattle.std.proofs.Common.{vec_items}
use Rattle.exam.proofs.Lawful.{lists}
use Rattle.exam.proofs.sitting.schedules.list_rota.Goals as goal

pub returns : goal.returns
returns c =
    lists c.args.n c.args.list.now (vec_items c.in_ok-entries.entries) c.new.result (c.in_ok-entries.ensures.items_if_clones_equal (λ x y e. e)) c.new.ensures
