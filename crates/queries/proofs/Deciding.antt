-- A loop that looks for the first decision. Assumes nothing.
use Rattle.std.proofs.Common.{◌≡◌, ℕ, ◌+◌, ◌<◌, ◌≤◌, true, false, cond, ◌&&◌, ltb, List, length, get_or, drop, Some, None, Option, sym, ap, ◌∙◌}
use Rattle.std.proofs.lemmas.List.{drop_more, drop_all}
use Rattle.std.proofs.lemmas.Bool.{cond-true, cond-false}
use Rattle.committee.specs.declared.membership.Committee.{Committee}
use Rattle.committee.specs.Thresholds.{is_correct}
use Rattle.protocol.specs.declared.process.Process.{Process}
use Rattle.queries.specs.Asking.{first_decided}

module _ (c : Committee) (ps : List Process) (d : Process) (p : ℕ) (z : Option ℕ) (so_far : first_decided c p (drop p ps) ≡ z) where
  abbrev q : Process
  q = get_or ps p d

  step : p < length ps → first_decided c p (drop p ps) ≡ cond (is_correct c p && ltb 0 q.core.decided) (Some q.core.decided) (first_decided c (p + 1) (drop (p + 1) ps))
  unfolding first_decided
  step l = ap (first_decided c p) (drop_more ps p d l)

  pub decided_here : p < length ps → (is_correct c p && ltb 0 q.core.decided) ≡ true → Some q.core.decided ≡ z
  decided_here l e = sym (cond-true (is_correct c p && ltb 0 q.core.decided) (Some q.core.decided) (first_decided c (p + 1) (drop (p + 1) ps)) e) ∙ sym (step l) ∙ so_far

  pub decided_later : p < length ps → (is_correct c p && ltb 0 q.core.decided) ≡ false → first_decided c (p + 1) (drop (p + 1) ps) ≡ z
  decided_later l e = sym (cond-false (is_correct c p && ltb 0 q.core.decided) (Some q.core.decided) (first_decided c (p + 1) (drop (p + 1) ps)) e) ∙ sym (step l) ∙ so_far

  pub decided_nowhere : length ps ≤ p → None ≡ z
  unfolding first_decided
  decided_nowhere l = sym (ap (first_decided c p) (drop_all p ps l)) ∙ so_far
