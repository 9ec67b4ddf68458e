-- The ways in which a move begins at a place, each with what it says of the fields there. Assumes nothing.
use Rattle.std.proofs.Common.{◌≡◌, ℕ, ◌≤◌, true, false, eqb, ltb, ◌⊎◌, List, Some, None, Ok, Err, Result, sym, refl, ap, ◌∙◌, subst, inr, ⊎_elim, arith}
use Rattle.std.proofs.lemmas.Bool.{cases_Bool, cases_eq, eqb-true, eqb-false, eq-eqb, ne_eqb, lt-ltb, cond-true, cond-false}
use Rattle.std.proofs.lemmas.Bool.Decides.{nat_tests}
use Rattle.refusals.specs.declared.causes.Refusal.TheVariants.{OutOfPlace}
use Rattle.moves.specs.declared.faults.Fault.{Fault}
use Rattle.schedule.specs.declared.tags.Tag.{Tag}
use Rattle.schedule.specs.declared.tags.Tag.TheVariants.{Open, Rota, Propose, Tick, Expire, Deliver, Inject}
use Rattle.schedule.specs.Tags.{tag_of, right_length}
use Rattle.schedule.specs.Fields.{tag_at, length_at, behind_at, whole_at, content_at, known_at, move_fault}
use Rattle.moves.specs.Orders.{Order}
use Rattle.schedule.specs.Moves.{opened, with_rota, later_order, later_at, made_at, started_at, move_at}
use Rattle.schedule.specs.Laid.{in_place, fault_of, fault_at}

known-at_err : (bs : List ℕ) (at : ℕ) (fault : Fault) → known_at bs at ≡ Err fault → fault.byte ≡ at
known-at_err bs at fault e = grind (arith, nat_tests)

pub known-at_ok : (bs : List ℕ) (at : ℕ) (tag : Tag) → known_at bs at ≡ Ok tag → (whole_at bs at ≡ true) × ((tag_of (tag_at bs at) ≡ Some tag) × (right_length tag (length_at bs at) ≡ true))
known-at_ok bs at tag e = grind (arith, nat_tests)

rota_is_two : (b : ℕ) → tag_of b ≡ Some Rota → b ≡ 2
rota_is_two b e = grind (arith, nat_tests)

-- where a move may begin: at the first byte, or behind OPEN, and there not with a ROTA that belongs to OPEN
abbrev pub Place : List ℕ → ℕ → Type 0
Place bs at = (at ≡ 0) ⊎ ((17 ≤ at) × (at ≡ 17 → tag_at bs at ≡ 2 → ⊥))

pub data View (bs : List ℕ) (at : ℕ) : Type 0 where
  blocked : (fault : Fault) → move_at bs at ≡ Err fault → fault.byte ≡ at → (Place bs at → fault_at bs at ≡ Some fault) → View bs at
  single : (order : Order) → move_at bs at ≡ Ok (record { order = order; next = behind_at bs at }) → whole_at bs at ≡ true → fault_at bs at ≡ None → (Place bs at → Place bs (behind_at bs at)) → View bs at
  double : (order : Order) → move_at bs at ≡ Ok (record { order = order; next = behind_at bs (behind_at bs at) }) → whole_at bs at ≡ true → whole_at bs (behind_at bs at) ≡ true → fault_at bs at ≡ None → fault_at bs (behind_at bs at) ≡ None → Place bs (behind_at bs (behind_at bs at)) → View bs at
  bad_rota : (fault : Fault) → move_at bs at ≡ Err fault → fault.byte ≡ behind_at bs at → whole_at bs at ≡ true → fault_at bs at ≡ None → fault_at bs (behind_at bs at) ≡ Some fault → View bs at

module _ (bs : List ℕ) where
  -- a later move, of any tag but OPEN and ROTA
  later : (at : ℕ) (tag : Tag) (order : Order) → (at ≡ 0 → ⊥) → known_at bs at ≡ Ok tag → later_order tag (content_at bs at) ≡ Some order → in_place tag at ≡ ltb 0 at → View bs at
  later at tag order behind e o place =
      single order
      (ap (started_at bs at) e ∙ cond-false (eqb at 0) _ _ (ne_eqb at 0 behind) ∙ ap (later_at bs at) o)
      (known-at_ok bs at tag e).0
      (ap (fault_of at) e ∙ cond-true (in_place tag at) _ _ (place ∙ lt-ltb 0 at (omega arith)))
      (⊎_elim (λ first. absurd (behind first)) (λ p. inr (omega (arith, p.0), λ at17. absurd (omega (arith, p.0)))))

  misplaced : (at : ℕ) (tag : Tag) → (at ≡ 0 → ⊥) → known_at bs at ≡ Ok tag → later_order tag (content_at bs at) ≡ None → (Place bs at → in_place tag at ≡ false) → View bs at
  misplaced at tag behind e o place =
      blocked (move_fault OutOfPlace at)
      (ap (started_at bs at) e ∙ cond-false (eqb at 0) _ _ (ne_eqb at 0 behind) ∙ ap (later_at bs at) o)
      refl
      (λ p. ap (fault_of at) e ∙ cond-false (in_place tag at) _ _ (place p))

  behind_open : (at : ℕ) (tag : Tag) → (at ≡ 0 → ⊥) → known_at bs at ≡ Ok tag → View bs at
  behind_open at Open behind e = misplaced at Open behind e refl (λ p. ne_eqb at 0 behind)
  behind_open at Rota behind e =
      misplaced at Rota behind e refl
      (⊎_elim (λ first. absurd (behind first)) (λ p. ne_eqb at 17 (λ at17. p.1 at17 (rota_is_two (tag_at bs at) (known-at_ok bs at Rota e).1.0))))
  behind_open at Propose behind e = later at Propose _ behind e refl refl
  behind_open at Tick behind e = later at Tick _ behind e refl refl
  behind_open at Expire behind e = later at Expire _ behind e refl refl
  behind_open at Deliver behind e = later at Deliver _ behind e refl refl
  behind_open at Inject behind e = later at Inject _ behind e refl refl

  not_open : (tag : Tag) → made_at bs 0 tag ≡ Err (move_fault OutOfPlace 0) → in_place tag 0 ≡ false → known_at bs 0 ≡ Ok tag → View bs 0
  not_open tag m place e =
      blocked (move_fault OutOfPlace 0) (ap (started_at bs 0) e ∙ m) refl (λ p. ap (fault_of 0) e ∙ cond-false (in_place tag 0) _ _ place)

  rota_tag : (at : ℕ) (tag : Tag) → tag_at bs at ≡ 2 → known_at bs at ≡ Ok tag → Rota ≡ tag
  rota_tag at tag two f = let t : Some Rota ≡ Some tag = ap tag_of (sym two) ∙ (known-at_ok bs at tag f).1.0 in cc

  with_rota_lem : (k : Result Tag Fault) → known_at bs 0 ≡ Ok Open → behind_at bs 0 ≡ 17 → tag_at bs (behind_at bs 0) ≡ 2 → known_at bs (behind_at bs 0) ≡ k → View bs 0
  with_rota_lem (Err fault) e seventeen two f =
      bad_rota fault
      (ap (started_at bs 0) e ∙ cond-true (eqb (tag_at bs (behind_at bs 0)) 2) _ _ (eq-eqb _ 2 two) ∙ ap (with_rota bs (content_at bs 0) (behind_at bs 0)) f)
      (known-at_err bs (behind_at bs 0) fault f)
      (known-at_ok bs 0 Open e).0
      (ap (fault_of 0) e)
      (ap (fault_of (behind_at bs 0)) f)
  with_rota_lem (Ok tag) e seventeen two f =
      double (opened (content_at bs 0) (Some (content_at bs (behind_at bs 0))))
      (ap (started_at bs 0) e ∙ cond-true (eqb (tag_at bs (behind_at bs 0)) 2) _ _ (eq-eqb _ 2 two) ∙ ap (with_rota bs (content_at bs 0) (behind_at bs 0)) f)
      (known-at_ok bs 0 Open e).0
      (known-at_ok bs (behind_at bs 0) tag f).0
      (ap (fault_of 0) e)
      (ap (fault_of (behind_at bs 0)) (f ∙ sym (ap (λ t. Ok t) (rota_tag (behind_at bs 0) tag two f))) ∙ cond-true (eqb (behind_at bs 0) 17) _ _ (eq-eqb _ 17 seventeen))
      (inr (omega arith, λ at17. absurd (omega arith)))

  opening : known_at bs 0 ≡ Ok Open → View bs 0
  opening e =
      let long = eqb-true (length_at bs 0) 14 (known-at_ok bs 0 Open e).1.1 in
      let seventeen : behind_at bs 0 ≡ 17 = omega arith in
      ⊎_elim
      (λ two. with_rota_lem (known_at bs (behind_at bs 0)) e seventeen (eqb-true (tag_at bs (behind_at bs 0)) 2 two) refl)
      (λ other.
      single (opened (content_at bs 0) None)
      (ap (started_at bs 0) e ∙ cond-false (eqb (tag_at bs (behind_at bs 0)) 2) _ _ other)
      (known-at_ok bs 0 Open e).0
      (ap (fault_of 0) e)
      (λ p. inr (omega arith, λ at17. eqb-false (tag_at bs (behind_at bs 0)) 2 other)))
      (cases_Bool (eqb (tag_at bs (behind_at bs 0)) 2))

  first : (tag : Tag) → known_at bs 0 ≡ Ok tag → View bs 0
  first Open e = opening e
  first Rota e = not_open Rota refl refl e
  first Propose e = not_open Propose refl refl e
  first Tick e = not_open Tick refl refl e
  first Expire e = not_open Expire refl refl e
  first Deliver e = not_open Deliver refl refl e
  first Inject e = not_open Inject refl refl e

  started : (at : ℕ) (k : Result Tag Fault) → known_at bs at ≡ k → View bs at
  started at (Err fault) e = blocked fault (ap (started_at bs at) e) (known-at_err bs at fault e) (λ p. ap (fault_of at) e)
  started at (Ok tag) e =
      ⊎_elim
      (λ zero_is. subst (View bs) (sym zero_is) (first tag (ap (known_at bs) (sym zero_is) ∙ e)))
      (λ behind. behind_open at tag behind e)
      (cases_eq at 0)

  pub view : (at : ℕ) → View bs at
  view at = started at (known_at bs at) refl
