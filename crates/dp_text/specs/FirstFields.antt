-- The first field of a line.
use Rattle.std.specs.Prelude.{◌≡◌, ℕ, Bool, false, not, ◌+◌, List, [], ◌∷◌, length, drop, Option, Some, None}
use Rattle.std.specs.Prelude.{slice_get}
use Rattle.dp_meaning.specs.Items.{Piece, is_colon}
use Rattle.dp_meaning.specs.Fields.{Field, Fields, fields_of}

-- whether a piece is no Colon
abbrev pub is_no_colon : Piece → Bool
is_no_colon piece = not (is_colon piece.kind)

-- whether there is a piece, and it is a Colon
abbrev pub is_colon_of : Option Piece → Bool
is_colon_of (Some piece) = is_colon piece.kind
is_colon_of None = false

-- a Colon stands at this place
abbrev pub is_colon_in : List Piece → ℕ → Bool
is_colon_in line place = is_colon_of (slice_get line place)

-- one more field in front
abbrev pub with_field : Field → Fields → Fields
with_field field others = record others { fields = field ∷ others.fields }

-- no Colon stands in the line
abbrev pub HasNoField : List Piece → Type 0
HasNoField line = fields_of line ≡ record { fields = []; rest = line }

-- the first field of a line, whose others stand behind its Colon
abbrev pub IsFirstField : Field → List Piece → Type 0
IsFirstField field line = fields_of line ≡ with_field field (fields_of (drop (length field.pieces + 1) line))
