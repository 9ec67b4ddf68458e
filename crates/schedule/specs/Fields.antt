-- The field at a place of a schedule. Assumes nothing.
--   tag_at, length_at       the byte that is the field's tag, and the length that the field states
--   behind_at               the place behind the field
--   whole_at                whether the schedule holds all of the field
--   content_at              the bytes behind the tag and the length
--   cut_fault, move_fault   a fault of each layer
--   IsField, IsCut          a field of the code as it stands there; the fault of one that is cut short
--   HandsOut                what the field layer answers
--   known                   the tag of a whole field, or its fault: 17 before 18
--   known_at                the tag of the field at a place, or its fault: 16, 17, 18 in this order
--   IsTagged                a field of the code as it stands there, with the tag known and the length right
use Rattle.std.specs.Prelude.{◌≡◌, ℕ, ◌+◌, Bool, true, false, cond, List, length, take, drop, Some, None, Ok, Err, Option, Result, MatchResult, nat_le, slice_index}
use Rattle.refusals.specs.declared.causes.Refusal.{Refusal}
use Rattle.refusals.specs.declared.causes.Refusal.TheVariants.{CutShort, UnknownTag, WrongLength}
use Rattle.moves.specs.declared.faults.Fault.{Fault}
use Rattle.moves.specs.declared.faults.Layer.TheVariants as layer
use Rattle.schedule.specs.declared.field.Field.{Field}
use Rattle.schedule.specs.declared.tags.Tag.{Tag}
use Rattle.schedule.specs.Numbers.{two_at}
use Rattle.schedule.specs.Tags.{tag_of, right_length}

abbrev pub tag_at : List ℕ → ℕ → ℕ
tag_at bs at = slice_index bs at

abbrev pub length_at : List ℕ → ℕ → ℕ
length_at bs at = two_at bs (at + 1)

abbrev pub behind_at : List ℕ → ℕ → ℕ
behind_at bs at = at + 3 + length_at bs at

-- with fewer than three bytes left, the place behind the field lies behind the end too
abbrev pub whole_at : List ℕ → ℕ → Bool
whole_at bs at = nat_le (behind_at bs at) (length bs)

abbrev pub content_at : List ℕ → ℕ → List ℕ
content_at bs at = take (length_at bs at) (drop (at + 3) bs)

abbrev pub cut_fault : ℕ → Fault
cut_fault at = record { cause = CutShort; byte = at; layer = layer.Field }

abbrev pub move_fault : Refusal → ℕ → Fault
move_fault cause at = record { cause = cause; byte = at; layer = layer.Move }

pub record IsField (bs : List ℕ) (at : ℕ) (field : Field) : Type 0 where
  pub whole : whole_at bs at ≡ true
  pub byte : field.byte ≡ at
  pub tag : field.tag ≡ tag_at bs at
  pub content : field.content.now ≡ content_at bs at
  pub long : length field.content.now ≡ length_at bs at

pub record IsCut (bs : List ℕ) (at : ℕ) (fault : Fault) : Type 0 where
  pub cut : whole_at bs at ≡ false
  pub named : fault ≡ cut_fault at

abbrev pub HandsOut : List ℕ → ℕ → Result Field Fault → Type 0
HandsOut bs at r = MatchResult r (IsField bs at) (IsCut bs at)

abbrev pub known_as : Option Tag → ℕ → ℕ → Result Tag Fault
known_as None n at = Err (move_fault UnknownTag at)
known_as (Some tag) n at = cond (right_length tag n) (Ok tag) (Err (move_fault WrongLength at))

abbrev pub known : ℕ → ℕ → ℕ → Result Tag Fault
known tag n at = known_as (tag_of tag) n at

abbrev pub known_at : List ℕ → ℕ → Result Tag Fault
known_at bs at = cond (whole_at bs at) (known (tag_at bs at) (length_at bs at) at) (Err (cut_fault at))

pub record IsTagged (bs : List ℕ) (at : ℕ) (field : Field) (tag : Tag) : Type 0 where
  pub whole : IsField bs at field
  pub tagged : known_at bs at ≡ Ok tag
  pub long : right_length tag (length field.content.now) ≡ true
