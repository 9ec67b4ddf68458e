-- What stands while a schedule is read move by move. Assumes nothing.
use Rattle.std.proofs.Common.{◌≡◌, ℕ, ◌<◌, ◌≤◌, ltb, List, [], ◌∷◌, ◌++◌, map, length, take, Some, None, Ok, Err, sym, refl, ap, ◌∙◌, append_assoc, append-nil, arith, length-append}
use Rattle.std.proofs.lemmas.List.{map_push, take_at}
use Rattle.std.proofs.lemmas.Bool.{le-ltb, cond-false}
use Rattle.moves.specs.declared.faults.Fault.{Fault}
use Rattle.moves.specs.declared.orders.Placed.{Placed}
use Rattle.moves.specs.Orders.{order_of, placed_of}
use Rattle.schedule.specs.Moves.{move_at}
use Rattle.schedule.specs.Reading.{Reading, reading_from, Appends}
use Rattle.schedule.proofs.Unroll.{unrolled, reading-at}

-- the moves up to `at` were added, and what is read from there on is still to come
pub record Sofar (whole : Reading) (bs : List ℕ) (before items : List Placed) (at : ℕ) : Type 0 where
  pub added : List Placed
  pub grown : items ≡ before ++ added
  pub moves : whole.moves ≡ map placed_of added ++ (reading_from bs at).moves
  pub fault : whole.fault ≡ (reading_from bs at).fault

pub start : (bs : List ℕ) (at : ℕ) (items : List Placed) → Sofar (reading_from bs at) bs items items at
start bs at items = record { added = []; grown = sym (append-nil items); moves = refl; fault = refl }

module _ (whole : Reading) (bs : List ℕ) (before items : List Placed) (at : ℕ) (so : Sofar whole bs before items at) where
  -- a move that is read, and one that is appended
  pub moreover : (placed : Placed) (next : ℕ) (after : List Placed) → at < length bs → placed.byte ≡ at → move_at bs at ≡ Ok (record { order = order_of placed.order; next = next }) → after ≡ items ++ placed ∷ [] → Sofar whole bs before after next
  moreover placed next after inside byte m e =
      let r = reading-at bs at _ inside m in
      let head : (reading_from bs at).moves ≡ placed_of placed ∷ (reading_from bs next).moves = ap (λ x. x.moves) r ∙ ap (λ b. record { byte = b; order = order_of placed.order } ∷ (reading_from bs next).moves) (sym byte) in
      record {
        added = so.added ++ placed ∷ [];
        grown = e ∙ ap (λ l. l ++ placed ∷ []) so.grown ∙ append_assoc before so.added (placed ∷ []);
        moves = so.moves ∙ ap (λ l. map placed_of so.added ++ l) head ∙ sym (append_assoc (map placed_of so.added) (placed_of placed ∷ []) (reading_from bs next).moves) ∙ ap (λ l. l ++ (reading_from bs next).moves) (sym (map_push placed_of so.added placed));
        fault = so.fault ∙ ap (λ x. x.fault) r;
      }

  appended : (reading_from bs at).moves ≡ [] → Appends before items whole.moves
  appended none =
      record { added = so.added; items = so.grown; same = sym (so.moves ∙ ap (λ l. map placed_of so.added ++ l) none ∙ append-nil (map placed_of so.added)) }

  pub at_end : length bs ≤ at → Appends before items whole.moves × (whole.fault ≡ None)
  at_end past =
      let r = unrolled bs at ∙ cond-false (ltb at (length bs)) _ _ (le-ltb at (length bs) past) in
      (appended (ap (λ x. x.moves) r), so.fault ∙ ap (λ x. x.fault) r)

  pub at_fault : (fault : Fault) → at < length bs → move_at bs at ≡ Err fault → Appends before items whole.moves × (whole.fault ≡ Some fault)
  at_fault fault inside m =
      let r = reading-at bs at _ inside m in (appended (ap (λ x. x.moves) r), so.fault ∙ ap (λ x. x.fault) r)

  -- a move that is read and finds no place
  pub at_refusal : (placed : Placed) (next : ℕ) (after : List Placed) → at < length bs → move_at bs at ≡ Ok (record { order = order_of placed.order; next = next }) → after ≡ items → (k : ℕ) × (k < length whole.moves) × Appends before after (take k whole.moves)
  at_refusal placed next after inside m kept =
      let r = reading-at bs at _ inside m in
      let all = so.moves ∙ ap (λ l. map placed_of so.added ++ l) (ap (λ x. x.moves) r) in
      let long = ap length all ∙ length-append (map placed_of so.added) _ in (
        length (map placed_of so.added),
        omega arith,
        record {
          added = so.added;
          items = kept ∙ so.grown;
          same = sym (ap (take (length (map placed_of so.added))) all ∙ take_at (map placed_of so.added) _ _ refl);
        },
      )
