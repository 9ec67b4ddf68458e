-- The printed line of a record. Assumes nothing.
--   blank         the byte between two columns and behind the last
--   width         how many bytes a line fills
--   padded t      the text, with blanks to the end of the line
--   a then b      two columns with one blank between
--   columns_of i r   the columns of the record r, which stands at place i of the wire
--   line_of i r   the line of the record r, which stands at place i of the wire
use Rattle.std.specs.Prelude.{ℕ, ◌-◌, List, [], ◌∷◌, ◌++◌, length, replicate, decimal}
use Rattle.wire.specs.declared.record.Record.{Record}
use Rattle.wire.specs.Kinds.{kind_name}

abbrev pub blank : ℕ
blank = 32

abbrev pub width : ℕ
width = 48

abbrev pub padded : List ℕ → List ℕ
padded t = t ++ replicate (width - length t) blank

infixl 20 ◌then◌
abbrev pub ◌then◌ : List ℕ → List ℕ → List ℕ
a then b = (a ++ (blank ∷ [])) ++ b

abbrev pub columns_of : ℕ → Record → List ℕ
columns_of i r = (((decimal i then decimal r.sender) then kind_name r.kind) then decimal r.number) then decimal r.value

abbrev pub line_of : ℕ → Record → List ℕ
line_of i r = padded (columns_of i r)
