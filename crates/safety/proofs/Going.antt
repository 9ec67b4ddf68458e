-- A run goes on with every move that a call makes. Assumes nothing.
use Rattle.std.proofs.Common.{◌≡◌, ℕ, ◌<◌, Bool, true, false, cond, not, ◌&&◌, eqb, length, IfOk, Some, None, Ok, Err, Option, Result, sym, refl, ap, ◌∙◌, subst, ap₂, arith}
use Rattle.std.specs.Option.{option_map}
use Rattle.std.proofs.lemmas.Bool.{false≢true, not-false, eqb-true}
use Rattle.refusals.specs.declared.causes.Refusal.{Refusal}
use Rattle.committee.specs.declared.rota.Rota.{Ghosts as RotaMeans}
use Rattle.committee.specs.declared.sets.ProcessSet.{ProcessSet}
use Rattle.committee.specs.Membership.{is_committee, size_for}
use Rattle.register.specs.declared.ledger.Register.{Ghosts as RegisterMeans}
use Rattle.protocol.specs.declared.board.Board.{Board}
use Rattle.protocol.specs.declared.step.Step.{Step}
use Rattle.protocol.specs.Steps.{is_heed}
use Rattle.protocol.specs.Moments.{Moment, moment, marked, done, played, received}
use Rattle.protocol.specs.Opening.{is_size, Opens}
use Rattle.protocol.specs.Ranges.{between}
use Rattle.protocol.specs.Runs.{Sitting, sitting, moment_of, Makes, New, Move, Onward, Run}
use Rattle.protocol.specs.Runs.Onward.{here, then}
use Rattle.agreement.specs.Wires.{Wire}
use Rattle.safety.specs.Promises.{Begins, Keeps}
use Rattle.safety.proofs.Running.{promises}

-- ---- what a call makes by its plan

module _ {R G : Type 0} (γ : RegisterMeans G) (a : Sitting R G) (plan : Result Step Refusal) (p : ℕ) where
  abbrev before : Moment
  before = moment_of γ a

  pub played-refused : (e : Refusal) → Err e ≡ plan → Makes γ plan (played plan p before) a a (Err e)
  played-refused e is =
      let P : Result Step Refusal → Type 0 = λ y. Makes γ y (played y p before) a a (Err e) in
      subst P is (record { answer = refl; after = refl; same = refl; stays = λ _. refl })

  pub played-done : (z : Step) (b : Sitting R G) → Ok z ≡ plan → moment_of γ b ≡ done p z before → b.board.rota ≡ a.board.rota → Makes γ plan (played plan p before) a b (Ok z.answer)
  played-done z b is left same =
      let P : Result Step Refusal → Type 0 = λ y. Makes γ y (played y p before) a b (Ok z.answer) in
      subst P is (record { answer = refl; after = left; same = same; stays = λ e. absurd (false≢true (sym e)) })

  pub received-refused : (i : ℕ) (e : Refusal) → Err e ≡ plan → Makes γ plan (received plan p i before) a a (Err e)
  received-refused i e is =
      let P : Result Step Refusal → Type 0 = λ y. Makes γ y (received y p i before) a a (Err e) in
      subst P is (record { answer = refl; after = refl; same = refl; stays = λ _. refl })

  pub received-done : (i : ℕ) (z : Step) (b : Sitting R G) → Ok z ≡ plan → moment_of γ b ≡ done p z (moment before.table (marked p i (is_heed z.answer) before.wire) before.signed)
      → b.board.rota ≡ a.board.rota → Makes γ plan (received plan p i before) a b (Ok z.answer)
  received-done i z b is left same =
      let P : Result Step Refusal → Type 0 = λ y. Makes γ y (received y p i before) a b (Ok z.answer) in
      subst P is (record { answer = refl; after = left; same = same; stays = λ e. absurd (false≢true (sym e)) })

-- ---- runs

none_past : (b : Bool) (e : Refusal) (rest : Option Refusal) → cond b (Some e) rest ≡ None → (b ≡ false) × (rest ≡ None)
none_past true e rest h = let z : ◌≡◌ {A = ℕ} 0 1 = cc in absurd (omega arith)
none_past false e rest h = (refl, h)

module _ {R G : Type 0} (ρ : RotaMeans R) (γ : RegisterMeans G) where
  pub onward_on : (a b d : Sitting R G) → Onward ρ γ a b → Onward ρ γ b d → Onward ρ γ a d
  onward_on a b b' x here = x
  onward_on a b d x (then {b = e} y move) = then (onward_on a b e x y) move

module _ {R G : Type 0} (ρ : RotaMeans R) (γ : RegisterMeans G) (law : (r : R) (v : ℕ) → ρ.leader r v < ρ.size r) where
  begins : (b : Board R) (g : G) → ((w : Wire) → New ρ γ (sitting b w g)) → Begins ρ γ b g
  begins b g new w =
      let a = sitting b w g in
      let run : Run ρ γ a = record { start = a; new = new w; onward = here } in
      (new w, run, promises ρ γ law a run)

  -- an opened board is new
  pub opens_begins : (f : ℕ) (faulty : ProcessSet) (delay overlap : ℕ) (rota : Option R) (g : G) (r : Result (Board R) Refusal)
      → Opens ρ f faulty delay overlap rota (length (γ.pairs g)) r → IfOk r (λ b. Begins ρ γ b g)
  opens_begins f faulty delay overlap rota g (Err e) o = tt
  opens_begins f faulty delay overlap rota g (Ok b) o =
      let at = o.1.fresh in
      let a = none_past (not (is_committee f faulty.bits)) _ _ o.0 in
      let t = none_past (not (between 1 delay 1000000 && between 1 overlap 1000000)) _ _ a.1 in
      let h = none_past (not (eqb (length (γ.pairs g)) 0)) _ _ t.1 in
      let z = none_past (not (is_size (size_for f) (option_map ρ.size rota))) _ _ h.1 in
      let sized = ap (λ (x : Option R). is_size (size_for f) (option_map ρ.size x)) o.1.led ∙ not-false _ z.0 in
      begins b g (λ w. record {
        still = at.still;
        unused = at.unused;
        timely = ap₂ (λ (x y : ℕ). between 1 x 1000000 && between 1 y 1000000) at.spreads at.overlaps ∙ not-false _ t.0;
        fitting = eqb-true (ρ.size b.rota) (size_for f) sized ∙ sym at.size;
        unsigned = eqb-true (length (γ.pairs g)) 0 (not-false _ h.0);
      })

  pub goes_on : (a b : Sitting R G) → Move ρ γ a b → Keeps ρ γ a b
  goes_on a b move run =
      let next : Run ρ γ b = record { start = run.start; new = run.new; onward = then run.onward move } in
      (next, promises ρ γ law b next)

  pub all-go_on : (a b : Sitting R G) → Onward ρ γ a b → Keeps ρ γ a b
  all-go_on a b onward run =
      let next : Run ρ γ b = record { start = run.start; new = run.new; onward = onward_on ρ γ run.start a b run.onward onward } in
      (next, promises ρ γ law b next)
