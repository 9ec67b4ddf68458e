-- A loop that plays move after move. Assumes nothing.
use Rattle.std.proofs.Common.{◌≡◌, ℕ, ◌+◌, ◌<◌, ◌≤◌, List, ◌++◌, length, get_or, map, drop, Result, sym, refl, ap, ◌∙◌, ap₂, append_assoc, append-nil, arith}
use Rattle.std.proofs.lemmas.List.{drop_more, drop_all}
use Rattle.refusals.specs.declared.causes.Refusal.{Refusal}
use Rattle.committee.specs.declared.rota.Rota.{Ghosts as RotaMeans}
use Rattle.register.specs.declared.ledger.Register.{Ghosts as RegisterMeans}
use Rattle.protocol.specs.declared.step.Answer.{Answer}
use Rattle.protocol.specs.Moments.{Moment}
use Rattle.protocol.specs.Runs.{Sitting, moment_of, Onward}
use Rattle.protocol.specs.Runs.Onward.{here}
use Rattle.moves.specs.declared.orders.Placed.{Placed}
use Rattle.moves.specs.Orders.{order_of, placed_of}
use Rattle.safety.proofs.Going.{onward_on}
use Rattle.player.specs.Outcomes.{line_of, outcome_of}
use Rattle.player.specs.Playing.{Played, playing}
use Rattle.player.specs.Making.{MakesMove, playing_of, PlaysOut}

module _ {R G : Type 0} (ρ : RotaMeans R) (γ : RegisterMeans G) where
  -- what is left to play from d on, behind the first i moves
  abbrev pub left : Sitting R G → List Placed → ℕ → Played
  left d ms i = playing_of ρ γ d (2 + i) (map placed_of (drop i ms))

  -- of the moves ms, played from a on, the first i are played, and d is where the sitting stands
  pub record Sofar (a : Sitting R G) (ms : List Placed) (i : ℕ) (d : Sitting R G) (before now : List ℕ) : Type 0 where
    pub text : now ++ (left d ms i).text ≡ before ++ (left a ms 0).text
    pub last : (left d ms i).last ≡ (left a ms 0).last
    pub same : d.board.rota ≡ a.board.rota
    pub onward : Onward ρ γ a d

  pub at-start : (a : Sitting R G) (ms : List Placed) (before : List ℕ) → Sofar a ms 0 a before before
  at-start a ms before = record { text = refl; last = refl; same = refl; onward = here }

  module _ (a : Sitting R G) (ms : List Placed) (i : ℕ) (d : Sitting R G) (before now : List ℕ) (s : Sofar a ms i d before now) where
    pub at-end : length ms ≤ i → PlaysOut ρ γ a (map placed_of ms) d before now
    unfolding playing
    at-end l =
        let none = ap (λ (ps : List Placed). playing_of ρ γ d (2 + i) (map placed_of ps)) (drop_all i ms l) in
        record {
          text = sym (append-nil now) ∙ ap (λ (x : Played). now ++ x.text) (sym none) ∙ s.text;
          last = ap (λ (x : Played). x.last) (sym none) ∙ s.last;
          same = s.same;
        }

    -- one more move, one more line
    pub and_then : (z : Placed) (e : Sitting R G) (r : Result Answer Refusal) (next : List ℕ)
        → i < length ms → MakesMove ρ γ d (order_of (get_or ms i z).order) e r → next ≡ now ++ line_of (2 + i) (outcome_of r) → Sofar a ms (i + 1) e before next
    unfolding playing
    and_then z e r next l m written =
        let y = d.board.rota in
        let rest = map placed_of (drop (i + 1) ms) in
        let first = ap (λ (ps : List Placed). playing_of ρ γ d (2 + i) (map placed_of ps)) (drop_more ms i z l) in
        let number : 2 + (i + 1) ≡ 2 + i + 1 = omega arith in
        let goes = ap (λ (k : ℕ). playing_of ρ γ e k rest) number
        ∙ ap (λ (x : R). playing (ρ.leader x) (ρ.size x) γ.ROOM (2 + i + 1) (moment_of γ e) rest) m.same
        ∙ ap (λ (x : Moment). playing (ρ.leader y) (ρ.size y) γ.ROOM (2 + i + 1) x rest) m.after in
        let line = ap (λ (x : Result Answer Refusal). line_of (2 + i) (outcome_of x)) m.answer in
        record {
          text = ap (λ (x : List ℕ). x ++ (left e ms (i + 1)).text) written
              ∙ append_assoc now (line_of (2 + i) (outcome_of r)) (left e ms (i + 1)).text
              ∙ ap₂ (λ (x z : List ℕ). now ++ (x ++ z)) line (ap (λ (x : Played). x.text) goes)
              ∙ ap (λ (x : Played). now ++ x.text) (sym first)
              ∙ s.text;
          last = ap (λ (x : Played). x.last) goes ∙ ap (λ (x : Played). x.last) (sym first) ∙ s.last;
          same = m.same ∙ s.same;
          onward = onward_on ρ γ a d e s.onward m.onward;
        }
