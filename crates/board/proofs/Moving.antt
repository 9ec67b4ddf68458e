-- A run goes on with what a call leaves, and a plan's step can be carried out. Assumes nothing.
use Rattle.std.proofs.Common.{◌≡◌, ℕ, ◌<◌, Bool, List, Ok, Result, sym, ap, ◌∙◌, subst}
use Rattle.refusals.specs.declared.causes.Refusal.{Refusal}
use Rattle.committee.specs.declared.rota.Rota.{Ghosts as RotaMeans}
use Rattle.register.specs.declared.ledger.Register.{Ghosts as RegisterMeans}
use Rattle.wire.specs.declared.record.Record.{Record}
use Rattle.protocol.specs.declared.step.Step.{Step}
use Rattle.protocol.specs.Moments.{Moment, moment, marked, done, played, received}
use Rattle.protocol.specs.Steps.{is_heed}
use Rattle.protocol.specs.Ready.{Ready, Doable}
use Rattle.protocol.specs.Runs.{Sitting, moment_of, Makes, Move}
use Rattle.safety.specs.Promises.{Keeps}
use Rattle.safety.proofs.Readying.{ready_marked}
use Rattle.safety.proofs.Running.{promises}
use Rattle.safety.proofs.Going.{played-done, received-done, goes_on}

-- the step of a plan that can be carried out
pub step_doable : (room p : ℕ) (m : Moment) (plan : Result Step Refusal) (z : Step) → Ok z ≡ plan → Doable room p m plan → Doable room p m (Ok z)
step_doable room p m plan z is d = subst (Doable room p m) (sym is) d

-- the same once a record is marked
pub marked_doable : (room p : ℕ) (m : Moment) (i : ℕ) (h : Bool) (plan : Result Step Refusal) (z : Step) (w : List Record) → Ok z ≡ plan → Doable room p m plan → w ≡ marked p i h m.wire
    → Doable room p (moment m.table w m.signed) (Ok z)
marked_doable room p m i h plan z w is d at =
    let ready = step_doable room p m plan z is d in
    let P : List Record → Type 0 = λ x. Ready room p (moment m.table x m.signed) z.first z.second in
    (ready.0, subst P (sym at) (ready_marked room p m i h z.first z.second ready.1))

module _ {R G : Type 0} (ρ : RotaMeans R) (γ : RegisterMeans G) (law : (r : R) (v : ℕ) → ρ.leader r v < ρ.size r) (a : Sitting R G) where
  -- a sitting that is left as it is
  pub stays : Keeps ρ γ a a
  stays run = (run, promises ρ γ law a run)

  module _ (p : ℕ) (plan : Result Step Refusal) (z : Step) (b : Sitting R G) (is : Ok z ≡ plan) (same : b.board.rota ≡ a.board.rota) where
    -- a step that is carried out
    pub carried : moment_of γ b ≡ done p z (moment_of γ a) → (Makes γ plan (played plan p (moment_of γ a)) a b (Ok z.answer) → Move ρ γ a b) → Keeps ρ γ a b
    carried left move = goes_on ρ γ law a b (move (played-done γ a plan p z b is left same))

    -- one of a delivery, once the record is marked
    pub carried_marked : (i : ℕ) (h : Bool) (w : List Record) → h ≡ is_heed z.answer → w ≡ marked p i h a.wire → moment_of γ b ≡ done p z (moment a.board.table w (moment_of γ a).signed)
        → (Makes γ plan (received plan p i (moment_of γ a)) a b (Ok z.answer) → Move ρ γ a b) → Keeps ρ γ a b
    carried_marked i h w heeded at left move =
        let marked_so = at ∙ ap (λ (b : Bool). marked p i b a.wire) heeded in
        let done_so = left ∙ ap (λ (x : List Record). done p z (moment a.board.table x (moment_of γ a).signed)) marked_so in
        goes_on ρ γ law a b (move (received-done γ a plan p i z b is done_so same))
