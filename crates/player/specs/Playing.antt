-- The play of moves one after another, as a function of the moment. Assumes nothing.
--   Told      what a move answers, and the moment that it leaves
--   drafted   what an injection's numbers draft
--   made      one move on a board: each as its call has it; a board is opened only once
--   Played    what is printed of the moves, and the moment that they leave
--   playing   the moves in their order, numbered from k on
use Rattle.std.specs.Prelude.{ℕ, ◌+◌, List, [], ◌∷◌, ◌++◌, Err, Result}
use Rattle.refusals.specs.declared.causes.Refusal.{Refusal}
use Rattle.refusals.specs.declared.causes.Refusal.TheVariants.{OutOfPlace}
use Rattle.committee.specs.Sets.{of_bits}
use Rattle.protocol.specs.declared.draft.Draft.{Draft}
use Rattle.protocol.specs.declared.step.Answer.{Answer}
use Rattle.protocol.specs.Moments.{Moment, played, received, told}
use Rattle.protocol.specs.Plans.{tick_plan, propose_plan, expire_plan, deliver_plan, inject_plan}
use Rattle.moves.specs.Orders.{Order, opens, proposes, ticks, expires, delivers, injects, PlacedOrder}
use Rattle.player.specs.Outcomes.{outcome_of, line_of}

pub record Told : Type 0 where
  pub answer : Result Answer Refusal
  pub after : Moment

abbrev pub told_of : Result Answer Refusal → Moment → Told
told_of r m = record { answer = r; after = m }

abbrev pub drafted : ℕ → ℕ → ℕ → ℕ → ℕ → ℕ → Draft
drafted kind to number value back vouch = record { kind = kind; to = of_bits to; number = number; value = value; back = back; vouch = vouch }

pub record Played : Type 0 where
  pub text : List ℕ
  pub last : Moment

-- who leads, the rota's size, and the register's room
module _ (leads : ℕ → ℕ) (n room : ℕ) where
  abbrev pub made : Moment → Order → Told
  made m (opens register f faulty delay overlap rota) = told_of (Err OutOfPlace) m
  made m (proposes p x) = let plan = propose_plan n room m p x in told_of (told plan) (played plan p m)
  made m (ticks p k) = let plan = tick_plan n m p k in told_of (told plan) (played plan p m)
  made m (expires p t) = let plan = expire_plan leads n room m p t in told_of (told plan) (played plan p m)
  made m (delivers i p) = let plan = deliver_plan leads n room m p i in told_of (told plan) (received plan p i m)
  made m (injects p kind to number value back vouch) =
      let plan = inject_plan n room m p (drafted kind to number value back vouch) in told_of (told plan) (played plan p m)

  unfoldable pub playing : ℕ → Moment → List PlacedOrder → Played
  playing k m [] = record { text = []; last = m }
  playing k m (o ∷ os) =
      let t = made m o.order in
      let rest = playing (k + 1) t.after os in
      record { text = line_of k (outcome_of t.answer) ++ rest.text; last = rest.last }
