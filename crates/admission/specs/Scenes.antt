-- What a move reads of a board, and what stands in its way whatever it is. Assumes nothing.
--   shown s xs       the moment of a scene, with these pairs signed
--   unsigned t w     table and wire with nothing signed
--   IsScene          this is the scene of the process on a board in range
--   Sets             the scene of a process on a board in range, or the first cause that stands in the way
--   SetsCorrect      the same of a correct process, for a move of its own
--   FindsRoom        two records are free and one pair, or the first cause that stands in the way
use Rattle.std.specs.Prelude.{◌≡◌, ℕ, true, false, cond, List, [], Ok, Err, Result, nat_le}
use Rattle.refusals.specs.declared.causes.Refusal.{Refusal}
use Rattle.refusals.specs.declared.causes.Refusal.TheVariants.{WrongSide}
use Rattle.committee.specs.Sets.{contains}
use Rattle.register.specs.declared.pair.Pair.{Pair}
use Rattle.wire.specs.declared.record.Record.{Record}
use Rattle.protocol.specs.declared.board.Table.{Table}
use Rattle.protocol.specs.declared.step.Step.{Step}
use Rattle.protocol.specs.Moments.{Moment, moment, signed_of}
use Rattle.protocol.specs.Plans.{crowded, full, roomy, known}
use Rattle.admission.specs.declared.scene.Scene.{Scene}
use Rattle.admission.specs.Seating.{in_order, Seated}

-- for what does not depend on it
abbrev pub unsigned : Table → List Record → Moment
unsigned t w = moment t w (signed_of [])

abbrev pub shown : Scene → List Pair → Moment
shown s xs = moment s.table.now s.wire.now (signed_of xs)

module _ (n : ℕ) (t : Table) (w : List Record) (p : ℕ) where
  pub record IsScene (s : Scene) : Type 0 where
    pub order : in_order n t w ≡ true
    pub member : nat_le t.setting.committee.n p ≡ false
    pub table : s.table.now ≡ t
    pub wire : s.wire.now ≡ w
    pub seated : Seated t p s.seat

  abbrev pub Sets : Result Scene Refusal → Type 0
  Sets (Ok s) = IsScene s
  Sets (Err e) = (rest : Result Step Refusal) → Err e ≡ known n (unsigned t w) p rest

  abbrev pub SetsCorrect : Result Scene Refusal → Type 0
  SetsCorrect (Ok s) = IsScene s × (contains t.setting.committee.faulty p ≡ false)
  SetsCorrect (Err e) = (rest : Result Step Refusal) → Err e ≡ known n (unsigned t w) p (cond (contains t.setting.committee.faulty p) (Err WrongSide) rest)

abbrev pub FindsRoom : ℕ → Moment → Result (Unit {0}) Refusal → Type 0
FindsRoom room m (Ok u) = (crowded m ≡ false) × (full room m ≡ false)
FindsRoom room m (Err e) = (rest : Result Step Refusal) → Err e ≡ roomy room m rest
