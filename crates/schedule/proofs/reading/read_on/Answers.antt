use Rattle.std.proofs.Common.{◌<◌, is_ok, Some, Ok, ap, ◌∙◌, subst, arith}
use Rattle.std.proofs.lemmas.Result.{err_from_is_err_and}
use Rattle.std.proofs.lemmas.Bool.{cond-false}
use Rattle.schedule.specs.Reading.{ReadsOne}
use Rattle.schedule.proofs.Sofar.{at_end, at_fault, at_refusal}
use Rattle.schedule.proofs.Unroll.{forward}
use Rattle.schedule.proofs.reading.read_on.Goals as goal
use Rattle.schedule.proofs.reading.read_on.Goals.{In-Some}

-- what the reader said of the move that it read
told : (c : In-Some) → ReadsOne c.loop-placed.reader (Ok (Some c.in-Some.placed)) c.next_move.new.self
told c =
    subst (λ o. ReadsOne c.loop-placed.reader (Ok o) c.next_move.new.self) c.in-Some.is c.in_ok-placed.ensures

pub loop-placed-smaller : goal.loop-placed-smaller
loop-placed-smaller c =
    let t = told (goal.at.loop-placed-smaller c).In-Some in
    let on : c.loop-placed.reader.at < c.next_move.new.self.at = forward _ _ _ t.2 in
    let inside = t.0 in
    rw t.3 (omega arith)

pub returns-in_err-placed : goal.returns-in_err-placed
returns-in_err-placed c =
    let p = err_from_is_err_and c.from_residual.result c.from_residual.ensures.1 in
    let t = c.in_err-placed.ensures in
    rw (p.1, p.2) (at_fault _ _ _ _ _ c.loop-placed.invariant _ t.0 t.1)

pub returns-in_err-push : goal.returns-in_err-push
returns-in_err-push c =
    let p = err_from_is_err_and c.from_residual-in_err-push.result c.from_residual-in_err-push.ensures.1 in
    let t = told (goal.at.returns-in_err-push c).In-Some in
    let kept = c.push.ensures.items ∙ cond-false (is_ok c.push.result) _ _ (ap is_ok c.in_err-push.was) in
    rw (p.1, p.2) (at_refusal _ _ _ _ _ c.loop-placed.invariant c.in-Some.placed _ _ t.0 t.2 kept)

pub returns : goal.returns
returns c =
    let t = subst (λ o. ReadsOne c.loop-placed.reader (Ok o) c.next_move.new.self) c.in_default.is c.in_ok-placed.ensures in
    at_end _ _ _ _ _ c.loop-placed.invariant t.0
