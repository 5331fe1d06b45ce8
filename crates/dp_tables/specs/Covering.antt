-- Which rows of a table of chances a statement covers.
use Rattle.std.specs.Prelude.{ℕ, Bool, ◌&&◌, List, [], ◌∷◌, get_or, map}
use Rattle.dp_spec.specs.JointNumbers.{parts_of}
use Rattle.dp_meaning.specs.declared.header.Header.{Header}
use Rattle.dp_meaning.specs.declared.statement.Part.{Part}
use Rattle.dp_meaning.specs.Cells.{allow}
use Rattle.dp_meaning.specs.NameLists.{size_of}

-- the fields along the first two axes allow a joint action and a state
abbrev pub is_row_allowed : Header → List (List Part) → ℕ → ℕ → Bool
is_row_allowed header fields a s =
    allow (get_or fields 0 []) (parts_of (map size_of header.actions) a)
    && allow (get_or fields 1 []) (parts_of (size_of header.states ∷ []) s)
