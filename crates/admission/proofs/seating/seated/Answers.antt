use Rattle.std.proofs.Common.{◌≡◌, length, rules}
use Rattle.safety.proofs.Fitting.{table_seat}
use Rattle.admission.proofs.seating.seated.Goals as goal

pub invariant_of-result : goal.invariant_of-result
invariant_of-result c =
    let long : length c.args.table.now.processes ≡ 31 = search rules in
    let t = table_seat c.args.table.now c.requires.fits c.args.process c.requires.member long in
    search rules

pub returns : goal.returns
returns c =
    let long : length c.args.table.now.processes ≡ 31 = search rules in
    let t = table_seat c.args.table.now c.requires.fits c.args.process c.requires.member long in
    search rules
