-- The fields laid end to end, with what is left behind the stop, are the schedule. Assumes nothing.
use Rattle.std.proofs.Common.{◌≡◌, ℕ, zero, suc, ◌+◌, ◌-◌, ◌/◌, ◌%◌, ◌<◌, ◌≤◌, true, ltb, List, [], ◌∷◌, ◌++◌, length, get_or, take, drop, Some, None, Err, Option, sym, refl, ap, ◌∙◌, subst, inl, ⊎_elim, append_assoc, arith, take-append-drop}
use lib.Arith.{digits_div, digits_mod}
use Rattle.std.proofs.lemmas.List.{drop_more, drop_all, drop-drop, append_cancel_right}
use Rattle.std.proofs.lemmas.Bool.{lt-ltb, le-ltb, cond-true, cond-false, cond_both, cases_lt}
use Rattle.std.specs.List.{flat_map}
use Rattle.moves.specs.declared.faults.Fault.{Fault}
use Rattle.schedule.specs.Fields.{tag_at, length_at, behind_at, whole_at, content_at}
use Rattle.schedule.specs.Reading.{reading_from, reading}
use Rattle.schedule.specs.Laid.{Piece, fault_at, piece_at, after_field, fields_from, laid_piece, stop_of, LaidOut}
use Rattle.schedule.proofs.Whole.{within, content_long}
use Rattle.schedule.proofs.Unroll.{unrolled, reading-at, fields-unrolled}
use Rattle.schedule.proofs.Views.{Place, View, blocked, single, double, bad_rota, view}

module _ (bs : List ℕ) (bytes : (i : ℕ) → get_or bs i 0 < 256) where
  -- one field, and what is left behind it
  laid_field : (at : ℕ) → whole_at bs at ≡ true → laid_piece (piece_at bs at) ++ drop (behind_at bs at) bs ≡ drop at bs
  laid_field at whole =
      let h = within bs at whole in
      let n : ℕ = length_at bs at in
      let high : length (content_at bs at) / 256 ≡ get_or bs (at + 1) 0 = ap (λ k. k / 256) (content_long bs at whole) ∙ digits_div (get_or bs (at + 1) 0) (bytes (at + 1 + 1)) in
      let low : length (content_at bs at) % 256 ≡ get_or bs (at + 1 + 1) 0 = ap (λ k. k % 256) (content_long bs at whole) ∙ digits_mod (get_or bs (at + 1) 0) (bytes (at + 1 + 1)) in
      let three : at + 1 + 1 + 1 ≡ at + 3 = omega arith in
      let rest : content_at bs at ++ drop (behind_at bs at) bs ≡ drop (at + 1 + 1 + 1) bs =
      ap (λ l. content_at bs at ++ l) (sym (drop-drop n (at + 3) bs)) ∙ take-append-drop n (drop (at + 3) bs) ∙ sym (ap (λ k. drop k bs) three) in
      (λ i. tag_at bs at ∷ high i ∷ low i ∷ rest i)
      ∙ sym (drop_more bs at 0 (omega arith)
      ∙ ap (λ l. tag_at bs at ∷ l) (drop_more bs (at + 1) 0 (omega arith) ∙ ap (λ l. get_or bs (at + 1) 0 ∷ l) (drop_more bs (at + 1 + 1) 0 (omega arith))))

  fields_at : (at : ℕ) (m : Option Fault) → at < length bs → fault_at bs at ≡ m → fields_from bs at ≡ after_field bs (fields_from bs) at m
  fields_at at m before e =
      fields-unrolled bs at ∙ cond-true (ltb at (length bs)) _ _ (lt-ltb at (length bs) before) ∙ ap (after_field bs (fields_from bs) at) e

  no_fields : (at : ℕ) (fault : Fault) → fault_at bs at ≡ Some fault → fields_from bs at ≡ []
  no_fields at fault e =
      fields-unrolled bs at ∙ cond_both (ltb at (length bs)) _ _ (λ fs. fs ≡ []) (λ _. ap (after_field bs (fields_from bs) at) e) (λ _. refl)

  -- the fields from a place on, laid end to end before what is left behind the stop
  Whole : List Piece → Option Fault → ℕ → Type 0
  Whole fs fault at = flat_map laid_piece fs ++ drop (stop_of bs fault) bs ≡ drop at bs

  one_more : (at : ℕ) (fs : List Piece) (fault : Option Fault) → whole_at bs at ≡ true → Whole fs fault (behind_at bs at) → Whole (piece_at bs at ∷ fs) fault at
  unfolding Whole
  one_more at fs fault whole rest =
      append_assoc (laid_piece (piece_at bs at)) (flat_map laid_piece fs) (drop (stop_of bs fault) bs) ∙ ap (λ l. laid_piece (piece_at bs at) ++ l) rest ∙ laid_field at whole

  none_more : (at : ℕ) (fault : Fault) → fault.byte ≡ at → Whole [] (Some fault) at
  unfolding Whole
  none_more at fault e = ap (λ k. drop k bs) e

  at-end : (at : ℕ) → length bs ≤ at → Whole [] None at
  unfolding Whole
  at-end at past = drop_all (length bs) bs (omega arith) ∙ sym (drop_all at bs past)

  moved : (at : ℕ) (fs : List Piece) (fault : Option Fault) → fields_from bs at ≡ fs → (reading_from bs at).fault ≡ fault → Whole fs fault at → Whole (fields_from bs at) (reading_from bs at).fault at
  moved at fs fault e f w = subst (λ l. Whole l (reading_from bs at).fault at) (sym e) (subst (λ o. Whole fs o at) (sym f) w)

  -- by cases, given the law at every later place
  viewed : (at : ℕ) → at < length bs → Place bs at → ((next : ℕ) → at < next → Place bs next → Whole (fields_from bs next) (reading_from bs next).fault next) → View bs at → Whole (fields_from bs at) (reading_from bs at).fault at
  viewed at before place on (blocked fault m b f) =
      moved at [] (Some fault) (no_fields at fault (f place)) (ap (λ r. r.fault) (reading-at bs at (Err fault) before m)) (none_more at fault b)
  viewed at before place on (single order m w f p) =
      moved at (piece_at bs at ∷ fields_from bs (behind_at bs at)) (reading_from bs (behind_at bs at)).fault
      (fields_at at None before f)
      (ap (λ r. r.fault) (reading-at bs at _ before m))
      (one_more at _ _ w (on (behind_at bs at) (omega arith) (p place)))
  viewed at before place on (double order m w v f g p) =
      let next : ℕ = behind_at bs at in
      let inside = within bs next v in
      moved at (piece_at bs at ∷ piece_at bs next ∷ fields_from bs (behind_at bs next)) (reading_from bs (behind_at bs next)).fault
      (fields_at at None before f ∙ ap (λ fs. piece_at bs at ∷ fs) (fields_at next None (omega arith) g))
      (ap (λ r. r.fault) (reading-at bs at _ before m))
      (one_more at _ _ w (one_more next _ _ v (on (behind_at bs next) (omega arith) p)))
  viewed at before place on (bad_rota fault m b w f g) =
      moved at (piece_at bs at ∷ []) (Some fault)
      (fields_at at None before f ∙ ap (λ fs. piece_at bs at ∷ fs) (no_fields (behind_at bs at) fault g))
      (ap (λ r. r.fault) (reading-at bs at (Err fault) before m))
      (one_more at _ _ w (none_more (behind_at bs at) fault b))

  past_end : (at : ℕ) → length bs ≤ at → Whole (fields_from bs at) (reading_from bs at).fault at
  past_end at past =
      let over = le-ltb at (length bs) past in
      moved at [] None
      (fields-unrolled bs at ∙ cond-false (ltb at (length bs)) _ _ over)
      (ap (λ r. r.fault) (unrolled bs at ∙ cond-false (ltb at (length bs)) _ _ over))
      (at-end at past)

  law : (n at : ℕ) → length bs - at ≤ n → Place bs at → Whole (fields_from bs at) (reading_from bs at).fault at
  law zero at few place = past_end at (omega arith)
  law (suc n) at few place =
      ⊎_elim
      (λ before. viewed at before place (λ next lt p. law n next (omega arith) p) (view bs at))
      (λ past. past_end at past)
      (cases_lt at (length bs))

  pub laid_out : LaidOut bs
  unfolding Whole
  laid_out =
      let stop : ℕ = stop_of bs (reading bs).fault in
      append_cancel_right (flat_map laid_piece (fields_from bs 0)) (take stop bs) (drop stop bs)
      (law (length bs) 0 (omega arith) (inl refl) ∙ sym (take-append-drop stop bs))
