-- A loop that looks for the first largest backing. Assumes nothing.
use Rattle.std.proofs.Common.{◌≡◌, ℕ, ◌+◌, ◌<◌, ◌≤◌, ◌||◌, eqb, List, length, get_or, drop, sym, ap, ◌∙◌}
use Rattle.std.proofs.lemmas.List.{drop_more, drop_all}
use Rattle.wire.specs.declared.record.Record.{Record}
use Rattle.wire.specs.declared.heeded.Heeded.{Heeded}
use Rattle.wire.specs.Heeding.{is_heeded}
use Rattle.protocol.specs.declared.process.Mark.{Mark}
use Rattle.protocol.specs.Plans.{better, best_from}

pub best_more : (h : Heeded) (i j : ℕ) (ws : List Record) (d : Record) (b b' z : Mark) → j < length ws
    → b' ≡ better (is_heeded h (get_or ws j d) || eqb j i) (get_or ws j d) b → best_from h i j (drop j ws) b ≡ z → best_from h i (j + 1) (drop (j + 1) ws) b' ≡ z
unfolding best_from
best_more h i j ws d b b' z l e inv =
    ap (best_from h i (j + 1) (drop (j + 1) ws)) e ∙ sym (ap (λ (ys : List Record). best_from h i j ys b) (drop_more ws j d l)) ∙ inv

pub best_all : (h : Heeded) (i j : ℕ) (ws : List Record) (b z : Mark) → length ws ≤ j → best_from h i j (drop j ws) b ≡ z → b ≡ z
unfolding best_from
best_all h i j ws b z l inv = sym (ap (λ (ys : List Record). best_from h i j ys b) (drop_all j ws l)) ∙ inv
