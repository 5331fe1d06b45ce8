-- Writing a block of values into the cells of a table that a statement covers.
use Rattle.std.specs.Prelude.{◌≡◌, ℕ, ◌%◌, ◌<◌, Bool, if◌then◌else◌, List, [], ◌∷◌, length, get_or, map}
use Rattle.std.specs.List.{flat_map}
use Rattle.dp_meaning.specs.declared.statement.Part.{Part}
use Rattle.dp_meaning.specs.declared.statement.Part.TheVariants.{Any, Only}
use Rattle.dp_meaning.specs.NameLists.{size_of}
use Rattle.dp_meaning.specs.Fields.{Axis}
use Rattle.dp_meaning.specs.Cells.{allow}
use Rattle.dp_spec.specs.JointNumbers.{parts_of}

-- a list of so many has the number that the part names
abbrev pub IsPartWithin : ℕ → Part → Type 0
IsPartWithin size Any = Unit {0}
IsPartWithin size (Only n) = n < size

-- each part is one of a list, in order, and the lists behind them have none
abbrev pub ArePartsWithin : List ℕ → List Part → Type 0
ArePartsWithin sizes [] = Unit {0}
ArePartsWithin [] (part ∷ parts) = ⊥
ArePartsWithin (size ∷ sizes) (part ∷ parts) = IsPartWithin size part × ArePartsWithin sizes parts

-- the parts allow the cell of this number
abbrev pub is_covered : List ℕ → List Part → ℕ → Bool
is_covered sizes parts k = allow parts (parts_of sizes k)

-- the cells that the parts allow hold the values of the block, over and over, and the others what they held before
abbrev pub AreWritten : {T : Type 0} → List ℕ → List Part → List T → List T → List T → Type 0
AreWritten {T} sizes parts block before after =
    (k : ℕ) (d : T) → k < length before →
    get_or after k d ≡ (if is_covered sizes parts k then get_or block (k % length block) d else get_or before k d)

-- ---- a table by all lists of its axes

-- the sizes of the lists, in order
abbrev pub list_sizes : List Axis → List ℕ
list_sizes axes = flat_map (map size_of) axes

-- the parts of all fields, which stand for the first of these lists
abbrev pub list_parts : List (List Part) → List Part
list_parts fields = flat_map (λ parts. parts) fields
