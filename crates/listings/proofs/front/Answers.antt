use Rattle.std.proofs.Common.{◌<◌, length, get_or, take, ap, sym, ◌∙◌, arith}
use Rattle.std.specs.List.{list_all, prefix_len}
use Rattle.listings.specs.Lines.{plain}
use Rattle.listings.proofs.Fronts.{Ends, same, all, bad}
use Rattle.listings.proofs.front.Goals as goal
use Rattle.listings.proofs.front.Goals.{else-end-line-via-then-end-line+else-line-end-ne35, else-end-line-via-else-end-line}

pub returns-then-line-end-ne35 : goal.returns-then-line-end-ne35
returns-then-line-end-ne35 c =
    let line = c.args.line.now in
    let inside : prefix_len plain line < length line = omega (arith, c.plain_len-end.ensures, c.if-end-line.true) in
    bad line inside (λ h. c.if-line-end-ne35.true (ap (λ n. get_or line n 0) c.plain_len-end.ensures ∙ h))

pub returns : goal.returns
returns c =
    let line = c.args.line.now in
    let ends : Ends line = λ inside. elim c.else-end-line.branch [
      | else-end-line-via-then-end-line+else-line-end-ne35 w ↦ ap (λ n. get_or line n 0) (sym c.plain_len-end.ensures) ∙ w.if-line-end-ne35.false
      | else-end-line-via-else-end-line w ↦ absurd (omega (arith, c.plain_len-end.ensures, w.if-end-line.false))
    ] in (
      ap (λ n. take n line) c.plain_len-end.ensures ∙ same line ends,
      ap (λ n. list_all plain (take n line)) c.plain_len-end.ensures ∙ all line,
    )
