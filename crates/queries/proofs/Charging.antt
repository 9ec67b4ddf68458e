-- What the records of a wire in range add is what agreement counts. Assumes nothing.
use Rattle.std.proofs.Common.{◌≡◌, ℕ, ◌+◌, true, cond, not, ◌&&◌, List, [], ◌∷◌, sum_by, refl, sym, ap, ap₂, ◌∙◌}
use Rattle.std.proofs.lemmas.Bool.{and_parts}
use Rattle.std.proofs.lemmas.List.Sums.{sum_by-cons}
use Rattle.std.specs.List.{list_all}
use Rattle.committee.specs.declared.membership.Committee.{Committee}
use Rattle.wire.specs.declared.record.Record.{Record}
use Rattle.wire.specs.Ranges.{in_range}
use Rattle.wire.specs.Words.{words_of}
use Rattle.agreement.specs.Words.{is_charged, words_in}
use Rattle.safety.proofs.Fitting.{of_some_epoch}
use Rattle.queries.specs.Asking.{charge}

pub charges : (c : Committee) (e : ℕ) (ws : List Record) → list_all (in_range c.n) ws ≡ true → sum_by (charge c e) ws ≡ words_in c e ws
charges c e [] fits = refl
charges c e (r ∷ rs) fits =
    let spent : Record → ℕ = λ x. cond (is_charged c e x) (words_of x) 0 in
    let both = and_parts (in_range c.n r) (list_all (in_range c.n) rs) fits in
    let here : charge c e r ≡ spent r = ap (λ b. cond (not b && is_charged c e r) (words_of r) 0) (of_some_epoch c.n r both.0) in
    sum_by-cons (charge c e) r rs ∙ ap₂ (λ a b. a + b) here (charges c e rs both.1) ∙ sym (sum_by-cons spent r rs)
