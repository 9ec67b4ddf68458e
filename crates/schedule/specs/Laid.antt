-- The law of the reader: the fields handed out, each with its tag and length, laid end to end, are the schedule up to
-- its first fault or its end: no byte is skipped, read twice, or read behind the end. Assumes nothing.
--   in_place     whether a tag may stand at a byte: OPEN first, ROTA behind the 17 bytes of OPEN, the others behind OPEN
--   fault_at     the fault of the field at a place, if any: the lowest number answers
--   Piece        a field: where its tag stands, the tag, and the content
--   fields       the fields that are handed out, up to the end or the first faulty one; an OPEN before a faulty ROTA
--                is one of them, though no move is made of it
--   laid_piece   a field as bytes: its tag, its length in two bytes, its content
--   stop_of      the byte of the first fault, or the schedule's length
--   LaidOut      the law, of one schedule
use Rattle.std.specs.Prelude.{◌≡◌, ℕ, ◌-◌, ◌/◌, ◌%◌, Bool, cond, List, [], ◌∷◌, length, take, Some, None, Ok, Err, Option, Result, ◌==◌, nat_lt}
use Rattle.std.specs.List.{flat_map}
use Rattle.refusals.specs.declared.causes.Refusal.TheVariants.{OutOfPlace}
use Rattle.moves.specs.declared.faults.Fault.{Fault}
use Rattle.schedule.specs.declared.tags.Tag.{Tag}
use Rattle.schedule.specs.declared.tags.Tag.TheVariants.{Open, Rota, Propose, Tick, Expire, Deliver, Inject}
use Rattle.schedule.specs.Fields.{tag_at, behind_at, content_at, known_at, move_fault}
use Rattle.schedule.specs.Reading.{walk, reading}

abbrev pub in_place : Tag → ℕ → Bool
in_place Open at = at == 0
in_place Rota at = at == 17
in_place Propose at = nat_lt 0 at
in_place Tick at = nat_lt 0 at
in_place Expire at = nat_lt 0 at
in_place Deliver at = nat_lt 0 at
in_place Inject at = nat_lt 0 at

abbrev pub fault_of : ℕ → Result Tag Fault → Option Fault
fault_of at (Err fault) = Some fault
fault_of at (Ok tag) = cond (in_place tag at) None (Some (move_fault OutOfPlace at))

abbrev pub fault_at : List ℕ → ℕ → Option Fault
fault_at bs at = fault_of at (known_at bs at)

pub record Piece : Type 0 where
  pub byte : ℕ
  pub tag : ℕ
  pub content : List ℕ

abbrev pub piece_at : List ℕ → ℕ → Piece
piece_at bs at = record { byte = at; tag = tag_at bs at; content = content_at bs at }

abbrev pub after_field : List ℕ → (ℕ → List Piece) → ℕ → Option Fault → List Piece
after_field bs rest at (Some fault) = []
after_field bs rest at None = piece_at bs at ∷ rest (behind_at bs at)

abbrev pub field_onward : List ℕ → (ℕ → List Piece) → ℕ → List Piece
field_onward bs rest at = cond (nat_lt at (length bs)) (after_field bs rest at (fault_at bs at)) []

abbrev pub fields_from : List ℕ → ℕ → List Piece
fields_from bs at = walk (field_onward bs) [] (length bs - at) at

abbrev pub fields : List ℕ → List Piece
fields bs = fields_from bs 0

abbrev pub laid_piece : Piece → List ℕ
laid_piece piece = piece.tag ∷ length piece.content / 256 ∷ length piece.content % 256 ∷ piece.content

abbrev pub stop_of : List ℕ → Option Fault → ℕ
stop_of bs None = length bs
stop_of bs (Some fault) = fault.byte

abbrev pub LaidOut : List ℕ → Type 0
LaidOut bs = flat_map laid_piece (fields bs) ≡ take (stop_of bs (reading bs).fault) bs
