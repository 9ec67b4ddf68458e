-- Reading goes from move to move, and the fields from field to field. Assumes nothing.
use Rattle.std.proofs.Common.{◌≡◌, ℕ, ◌<◌, cond, ltb, List, [], ◌∷◌, length, Some, None, Ok, Err, Option, Result, refl, ap, ◌∙◌, arith}
use Rattle.std.proofs.lemmas.Bool.{lt-ltb, le-ltb, cond-true, cond-false}
use Rattle.moves.specs.declared.faults.Fault.{Fault}
use Rattle.schedule.specs.Fields.{behind_at}
use Rattle.schedule.specs.Moves.{Step, move_at}
use Rattle.schedule.specs.Reading.{Reading, nothing, after_move, onward, reading_from, Unrolled}
use Rattle.schedule.specs.Laid.{Piece, fault_at, piece_at, after_field, field_onward, fields_from}
use Rattle.schedule.proofs.Walks.{unrolls}
use Rattle.schedule.proofs.Views.{View, blocked, single, double, bad_rota, view}

module _ (bs : List ℕ) where
  passes : (at : ℕ) (step : Step) → View bs at → move_at bs at ≡ Ok step → at < step.next
  passes at step (blocked fault m b f) e = cc
  passes at step (single order m w f p) e = let n : step.next ≡ behind_at bs at = cc in omega arith
  passes at step (double order m w v f g p) e = let n : step.next ≡ behind_at bs (behind_at bs at) = cc in omega arith
  passes at step (bad_rota fault m b w f g) e = cc

  -- every move takes the reader forward
  pub forward : (at : ℕ) (step : Step) → move_at bs at ≡ Ok step → at < step.next
  forward at step e = passes at step (view bs at) e

  move_same : (f g : ℕ → Reading) (at : ℕ) → ((next : ℕ) → at < next → f next ≡ g next) → (m : Result Step Fault) → move_at bs at ≡ m → after_move f at m ≡ after_move g at m
  move_same f g at h (Err fault) e = refl
  move_same f g at h (Ok step) e = ap (λ (rest : Reading). record { moves = record { byte = at; order = step.order } ∷ rest.moves; fault = rest.fault }) (h step.next (forward at step e))

  pub unrolled : Unrolled bs
  unrolled =
      unrolls (onward bs) nothing (length bs)
      (λ f at past. cond-false (ltb at (length bs)) _ _ (le-ltb at (length bs) past))
      (λ f g at h. ap (λ r. cond (ltb at (length bs)) r nothing) (move_same f g at h (move_at bs at) refl))

  pub reading-at : (at : ℕ) (m : Result Step Fault) → at < length bs → move_at bs at ≡ m → reading_from bs at ≡ after_move (reading_from bs) at m
  reading-at at m before e =
      unrolled at ∙ cond-true (ltb at (length bs)) _ _ (lt-ltb at (length bs) before) ∙ ap (after_move (reading_from bs) at) e

  field_same : (f g : ℕ → List Piece) (at : ℕ) → ((next : ℕ) → at < next → f next ≡ g next) → (m : Option Fault) → after_field bs f at m ≡ after_field bs g at m
  field_same f g at h (Some fault) = refl
  field_same f g at h None = ap (λ rest. piece_at bs at ∷ rest) (h (behind_at bs at) (omega arith))

  pub fields-unrolled : (at : ℕ) → fields_from bs at ≡ field_onward bs (fields_from bs) at
  fields-unrolled =
      unrolls (field_onward bs) [] (length bs)
      (λ f at past. cond-false (ltb at (length bs)) _ _ (le-ltb at (length bs) past))
      (λ f g at h. ap (λ r. cond (ltb at (length bs)) r []) (field_same f g at h (fault_at bs at)))
