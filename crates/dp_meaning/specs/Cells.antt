-- The value of a cell of a table: the one that the last covering statement gives it.
use Rattle.std.specs.Prelude.{ℕ, ◌*◌, ◌/◌, ◌^◌, Bool, true, false, ◌&&◌, ◌==◌, if◌then◌else◌, ℤ, pos, neg_ℤ, ◌*ℤ◌}
use Rattle.std.specs.Prelude.{unsigned_abs, List, [], ◌∷◌, length, map, drop, reverse, filter, slice_index}
use Rattle.std.specs.Prelude.{slice_index_or, Option, Some, None}
use Rattle.std.specs.List.{find}
use Rattle.dp_base.specs.declared.decimal.Decimal.{Decimal}
use Rattle.dp_spec.specs.JointNumbers.{joint_number, parts_of}
use Rattle.dp_meaning.specs.declared.statement.Table.{Table}
use Rattle.dp_meaning.specs.declared.statement.Table.TheVariants.{Trans, Obs, Reward}
use Rattle.dp_meaning.specs.declared.statement.Part.{Part}
use Rattle.dp_meaning.specs.declared.statement.Part.TheVariants.{Any, Only}
use Rattle.dp_meaning.specs.declared.statement.Value.{Value}
use Rattle.dp_meaning.specs.declared.statement.Value.TheVariants.{Uniform, Identity, Numbers}
use Rattle.dp_meaning.specs.declared.statement.Statement.{Statement}
use Rattle.dp_meaning.specs.NameLists.{size_of}
use Rattle.dp_meaning.specs.Fields.{Axis}
use Rattle.dp_meaning.specs.Statements.{axis_size}

-- a cell of a table, by one number per axis
abbrev pub Cell : Type 0
Cell = List ℕ

-- ---- which statement counts

-- a part allows the number n of its list
abbrev pub allows : Part → ℕ → Bool
allows Any n = true
allows (Only m) n = m == n

-- each part allows its number
abbrev pub allow : List Part → List ℕ → Bool
allow [] ns = true
allow (part ∷ parts) [] = true
allow (part ∷ parts) (n ∷ ns) = allows part n && allow parts ns

-- the fields along the axes allow the cell; an axis without a field allows each of its numbers
abbrev pub covers : List Axis → List (List Part) → Cell → Bool
covers (axis ∷ axes) (parts ∷ fields) (n ∷ cell) = allow parts
    (parts_of (map size_of axis) n) && covers axes fields cell
covers _ _ _ = true

-- the tables are the same
abbrev pub is_same_table : Table → Table → Bool
is_same_table Trans Trans = true
is_same_table Obs Obs = true
is_same_table Reward Reward = true
is_same_table _ _ = false

-- the statements of one table, in order
abbrev pub statements_for : Table → List Statement → List Statement
statements_for table statements = filter (λ s. is_same_table table s.table) statements

-- the last statement of a table's that covers a cell
abbrev pub last_covering : List Axis → List Statement → Cell → Option Statement
last_covering axes statements cell = find (λ s. covers axes s.fields cell) (reverse statements)

-- ---- what a statement gives a cell that it covers

-- the number 0
abbrev pub no_number : Decimal
no_number = record { units = pos 0; digits = 0 }

-- the number of a cell, where the numbers fill the axes behind so many fields, the last axis fastest
abbrev pub number_at : List ℕ → ℕ → Cell → List Decimal → Decimal
number_at sizes fields cell ns = slice_index_or ns (joint_number (drop fields sizes) (drop fields cell)) no_number

-- a chance over its scale
abbrev pub chance_over : ℕ → Decimal → ℕ
chance_over scale d = unsigned_abs d.units * (scale / 10 ^ d.digits)

-- In a table of chances the row's length is the size of the last of the three axes, and `identity` stands for
-- the next state, which is the third number of a cell, being the state, which is the second.
abbrev pub given_chance : ℕ → List ℕ → ℕ → Cell → Value → ℕ
given_chance scale sizes fields cell Uniform = scale / slice_index sizes 2
given_chance scale sizes fields cell Identity = if slice_index cell 1 == slice_index cell 2 then scale else 0
given_chance scale sizes fields cell (Numbers ns) = chance_over scale (number_at sizes fields cell ns)

-- a reward over its scale, where rewards may be given as costs
abbrev pub reward_over : Bool → ℕ → Decimal → ℤ
reward_over true scale d = neg_ℤ (d.units *ℤ pos (scale / 10 ^ d.digits))
reward_over false scale d = d.units *ℤ pos (scale / 10 ^ d.digits)

-- a reward statement gives Numbers alone
abbrev pub given_reward : Bool → ℕ → List ℕ → ℕ → Cell → Value → ℤ
given_reward cost scale sizes fields cell (Numbers ns) = reward_over cost scale (number_at sizes fields cell ns)
given_reward cost scale sizes fields cell _ = pos 0

-- ---- the value of a cell, which is 0 where no statement covers it

-- the chance, over the scale, that a statement of the table gives the cell, or 0 without a statement
abbrev pub chance_by : ℕ → List Axis → Cell → Option Statement → ℕ
chance_by scale axes cell (Some s) = given_chance scale (map axis_size axes) (length s.fields) cell s.value
chance_by scale axes cell None = 0

-- the chance of a cell, over the scale, by all statements of its table
unfoldable pub chance_of_cell : ℕ → List Axis → List Statement → Cell → ℕ
chance_of_cell scale axes statements cell = chance_by scale axes cell (last_covering axes statements cell)

-- the reward, over the scale, that a statement of the table gives the cell, or 0 without a statement
abbrev pub reward_by : Bool → ℕ → List Axis → Cell → Option Statement → ℤ
reward_by cost scale axes cell (Some s) = given_reward cost scale (map axis_size axes) (length s.fields) cell s.value
reward_by cost scale axes cell None = pos 0

-- the reward of a cell, over the scale, by all statements of its table; costs are negated
unfoldable pub reward_of_cell : Bool → ℕ → List Axis → List Statement → Cell → ℤ
reward_of_cell cost scale axes statements cell = reward_by cost scale axes cell (last_covering axes statements cell)
