-- Lists of agents, states, actions and observations: each is given as a count or by names.
use Rattle.std.specs.Prelude.{ℕ, zero, suc, Bool, not, ◌&&◌, ◌||◌, nat_le, nat_lt, if◌then◌else◌, List, [], ◌∷◌, ◌++◌}
use Rattle.std.specs.Prelude.{length, Option, Some, None, Result, Ok}
use Rattle.std.specs.Str.{bytes_eq}
use Rattle.std.specs.Str.Parse.{digits_value}
use Rattle.dp_base.specs.DecimalShape.{is_index}
use Rattle.dp_base.specs.Names.{is_name}
use Rattle.dp_model.specs.Names.{has_name, place_of}
use Rattle.dp_meaning.specs.declared.why.Fault.{Fault}
use Rattle.dp_meaning.specs.declared.given_list.GivenList.{GivenList}
use Rattle.dp_meaning.specs.declared.given_list.GivenList.TheVariants.{Counted, Named}
use Rattle.dp_meaning.specs.declared.why.Why.TheVariants.{Expected, UnknownName, DoubleName, Number}
use Rattle.dp_meaning.specs.Faults.{◌>>=◌, fault}
use Rattle.dp_meaning.specs.Items.{Piece}
use Rattle.dp_meaning.specs.Numbers.{ended}

-- how many items a list has
abbrev pub size_of : GivenList → ℕ
size_of (Counted n) = n
size_of (Named names) = length names

-- the names, of which there are none where the list is given as a count
abbrev pub names_in : GivenList → List (List ℕ)
names_in (Counted n) = []
names_in (Named names) = names

-- a token that consists of these bytes
abbrev pub says : List ℕ → Piece → Bool
says text piece = bytes_eq text piece.text

-- the number that an index writes
abbrev pub index : Piece → ℕ
index piece = digits_value 10 piece.text

-- ---- a list as it is given

-- names, of which none stands twice, behind those that came before
unfoldable pub names_after : List (List ℕ) → List Piece → Result (List (List ℕ)) Fault
names_after before [] = Ok before
names_after before (piece ∷ pieces) =
    if not (is_name piece.text) then fault Expected piece.at
    else if has_name before piece.text then fault DoubleName piece.at
    else names_after (before ++ piece.text ∷ []) pieces

-- a count is an index from 1 to 65,536
abbrev pub count : Piece → Result ℕ Fault
count piece = if nat_le 1 (index piece) && nat_le (index piece) 65536 then Ok (index piece) else fault Number piece.at

-- one count, or one or more names
unfoldable pub name_list : ℕ → List Piece → Result GivenList Fault
name_list next [] = fault Expected next
name_list next (piece ∷ pieces) =
    if is_index piece.text then (count piece >>= λ n. ended (Counted n) pieces)
    else (names_after [] (piece ∷ pieces) >>= λ names. Ok (Named names))

-- one line for each of so many agents, each with one list
unfoldable pub name_lists : ℕ → ℕ → List (List Piece) → Result (List GivenList) Fault
name_lists next zero [] = Ok []
name_lists next zero (line ∷ _) = ended [] line
name_lists next (suc agents) [] = fault Expected next
name_lists next (suc agents) (line ∷ lines) = do
  first ← name_list next line
  others ← name_lists next agents lines
  Ok (first ∷ others)

-- ---- a name or an index that is looked up

-- the number n where it is below the size, and else none
abbrev pub if_below : ℕ → ℕ → Option ℕ
if_below size n = if nat_lt n size then Some n else None

-- the place of an index or of a name in a list, where the list has it
abbrev pub place_in : GivenList → Piece → Option ℕ
place_in list piece = if is_index piece.text then if_below (size_of list) (index piece) else place_of
    (names_in list) piece.text

-- the number that was found, or the fault of an unknown name at this offset
abbrev pub found_at : ℕ → Option ℕ → Result ℕ Fault
found_at at (Some n) = Ok n
found_at at None = fault UnknownName at

-- the number that an index or a name stands for in a list
unfoldable pub find_in : GivenList → Piece → Result ℕ Fault
find_in list piece =
    if is_index piece.text || is_name piece.text then found_at piece.at
    (place_in list piece) else fault Expected piece.at
