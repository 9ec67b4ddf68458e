use Rattle.std.proofs.Common.{vec_items, sym, ◌∙◌}
use Rattle.std.proofs.lemmas.Bool.{lt-leb}
use Rattle.register.specs.RowPairs.{has_none}
use Rattle.register.proofs.tally.TallyRegister.has.Goals as goal

pub returns-else-pair-le30 : goal.returns-else-pair-le30
returns-else-pair-le30 c =
    lt-leb _ 30 c.if-pair-le30.false ∙ sym (has_none (vec_items c.args.self.now.rows) c.args.pair.process c.args.pair.statement c.if-pair-le30.false)
