-- The fields of a statement, and what each allows.
use Rattle.std.specs.Prelude.{ℕ, Bool, true, false, if◌then◌else◌, List, [], ◌∷◌, map, Result, Ok}
use Rattle.dp_meaning.specs.declared.why.Fault.{Fault}
use Rattle.dp_meaning.specs.declared.given_list.GivenList.{GivenList}
use Rattle.dp_meaning.specs.declared.statement.Part.{Part}
use Rattle.dp_meaning.specs.declared.statement.Part.TheVariants.{Any, Only}
use Rattle.dp_meaning.specs.declared.why.Why.TheVariants.{Expected}
use Rattle.dp_meaning.specs.Faults.{◌>>=◌, fault}
use Rattle.dp_meaning.specs.Items.{Piece, is_colon, is_star}
use Rattle.dp_meaning.specs.Numbers.{ended}
use Rattle.dp_meaning.specs.NameLists.{find_in}

-- a field, and the Colon that closes it
pub record Field : Type 0 where
  pub pieces : List Piece
  pub colon : ℕ

-- the fields of a line, and what stands after the last Colon
pub record Fields : Type 0 where
  pub fields : List Field
  pub rest : List Piece

-- one more piece in front, of the first field, or where there is no field of the rest
abbrev pub in_first_field : Piece → List Field → List Piece → Fields
in_first_field piece [] rest = record { fields = []; rest = piece ∷ rest }
in_first_field piece (field ∷ fields) rest =
    record { fields = record field { pieces = piece ∷ field.pieces } ∷ fields; rest = rest }

-- one more piece in front: a Colon closes a field of its own, any other piece joins the first field
abbrev pub with_field_piece : Bool → Piece → Fields → Fields
with_field_piece true piece others = record others {
  fields =
      record { pieces = []; colon = piece.at } ∷ others.fields;
}
with_field_piece false piece others = in_first_field piece others.fields others.rest

-- the fields of the pieces of a line, each of which ends at a Colon, and what stands after the last Colon
unfoldable pub fields_of : List Piece → Fields
fields_of [] = record { fields = []; rest = [] }
fields_of (piece ∷ pieces) = with_field_piece (is_colon piece.kind) piece (fields_of pieces)

-- ---- what a field allows

-- An axis of a table: the one list of the states, or the lists of the agents' actions or observations. Its
-- numbers are the joint numbers of one part per list.
abbrev pub Axis : Type 0
Axis = List GivenList

-- what a piece allows of a list: a Star all of it, a name or an index one number
unfoldable pub part_of : GivenList → Piece → Result Part Fault
part_of list piece = if is_star piece.kind then Ok Any else (find_in list piece >>= λ n. Ok (Only n))

-- one part per list; a field that ends too early is wrong at the Colon that closes it
unfoldable pub parts_in : Axis → Field → List Piece → Result (List Part) Fault
parts_in [] field pieces = ended [] pieces
parts_in (list ∷ lists) field [] = fault Expected field.colon
parts_in (list ∷ lists) field (piece ∷ pieces) = do
  first ← part_of list piece
  others ← parts_in lists field pieces
  Ok (first ∷ others)

-- the pieces are a Star alone
abbrev pub is_one_star : List Piece → Bool
is_one_star (piece ∷ []) = is_star piece.kind
is_one_star _ = false

-- one `*`, or one part per list
abbrev pub field_parts : Axis → Field → Result (List Part) Fault
field_parts axis field = if is_one_star field.pieces then Ok
    (map (λ _. Any) axis) else parts_in axis field field.pieces

-- The fields along the axes. Where there are too many, the Colon that closes the first of these is wrong.
unfoldable pub all_parts : List Axis → List Field → Result (List (List Part)) Fault
all_parts axes [] = Ok []
all_parts [] (field ∷ fields) = fault Expected field.colon
all_parts (axis ∷ axes) (field ∷ fields) = do
  first ← field_parts axis field
  others ← all_parts axes fields
  Ok (first ∷ others)
