use Rattle.std.proofs.Common.{◌≡◌, ℕ, List, ◌++◌, length, drop, replicate, ap, ap₂, ◌∙◌, rules}
use Rattle.std.proofs.lemmas.List.{drop-replicate}
use Rattle.wire.specs.Lines.{columns_of}
use Rattle.wire.proofs.record.Record.line.Goals as goal

pub returns : goal.returns
returns c =
    let columns = columns_of c.args.index c.args.self.now in
    let here : c.copy_from_slice.new.self ≡ columns = search rules in
    let long : c.len.result ≡ length columns = search rules in
    ap₂ (λ (xs : List ℕ) (k : ℕ). xs ++ drop k (replicate 48 32)) here long ∙ ap (λ (ys : List ℕ). columns ++ ys) (drop-replicate (length columns) 48 32)
