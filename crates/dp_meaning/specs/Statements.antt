-- The statements: one notion of table for all three.
use Rattle.std.specs.Prelude.{ℕ, Bool, true, false, not, ◌&&◌, ◌==◌, nat_lt, if◌then◌else◌, List, [], ◌∷◌, ◌++◌}
use Rattle.std.specs.Prelude.{length, codes, map, drop, Result, Ok}
use Rattle.std.specs.List.{flat_map}
use Rattle.dp_base.specs.declared.decimal.Decimal.{Decimal}
use Rattle.dp_spec.specs.JointNumbers.{product}
use Rattle.dp_meaning.specs.declared.why.Fault.{Fault}
use Rattle.dp_meaning.specs.declared.statement.Table.{Table}
use Rattle.dp_meaning.specs.declared.statement.Table.TheVariants.{Trans, Obs, Reward}
use Rattle.dp_meaning.specs.declared.statement.ItemKind.{ItemKind}
use Rattle.dp_meaning.specs.declared.statement.ItemKind.TheVariants.{HeaderEntry, StatementOf, NoItem}
use Rattle.dp_meaning.specs.declared.header.Header.{Header}
use Rattle.dp_meaning.specs.declared.statement.Part.{Part}
use Rattle.dp_meaning.specs.declared.statement.Value.{Value}
use Rattle.dp_meaning.specs.declared.statement.Value.TheVariants.{Uniform, Identity, Numbers}
use Rattle.dp_meaning.specs.declared.statement.Statement.{Statement}
use Rattle.dp_meaning.specs.declared.why.Why.TheVariants as why
use Rattle.dp_meaning.specs.Faults.{◌>>=◌, fault}
use Rattle.dp_meaning.specs.Items.{Piece, Item, item_at, after_colon, pieces_of}
use Rattle.dp_meaning.specs.Numbers.{is_chance, is_reward, numbers, ended}
use Rattle.dp_meaning.specs.NameLists.{size_of, says}
use Rattle.dp_meaning.specs.Header.{kind_of}
use Rattle.dp_meaning.specs.Fields.{Axis, fields_of, all_parts}

-- ---- the tables

-- the table is that of the transitions
abbrev pub is_trans : Table → Bool
is_trans Trans = true
is_trans _ = false

-- the table is that of the rewards
abbrev pub is_reward_table : Table → Bool
is_reward_table Reward = true
is_reward_table _ = false

-- by joint action and state, next state, joint observation
abbrev pub axes_of : Header → Table → List Axis
axes_of header Trans = header.actions ∷ (header.states ∷ []) ∷ (header.states ∷ []) ∷ []
axes_of header Obs = header.actions ∷ (header.states ∷ []) ∷ header.observations ∷ []
axes_of header Reward = header.actions ∷ (header.states ∷ []) ∷ (header.states ∷ []) ∷ header.observations ∷ []

-- how many numbers an axis has
abbrev pub axis_size : Axis → ℕ
axis_size axis = product (map size_of axis)

-- how many fields a statement has at least
abbrev pub least_fields : Table → ℕ
least_fields Reward = 2
least_fields _ = 1

-- ---- the value of a statement, over the axes that have no field

-- `uniform` fills rows of chances
abbrev pub allows_uniform : Table → List Axis → Bool
allows_uniform table rest = not (is_reward_table table) && nat_lt 0 (length rest)

-- `identity` fills the matrix of a joint action's next states
abbrev pub allows_identity : Table → List Axis → Bool
allows_identity table rest = is_trans table && length rest == 2

-- the number may stand in the table: among the rewards as a reward, and else as a chance
abbrev pub is_number_of : Table → Decimal → Bool
is_number_of Reward d = is_reward d
is_number_of _ d = is_chance d

-- the value of a statement of the table, over the axes `rest`, which have no field
unfoldable pub value_of : Table → List Axis → ℕ → List Piece → Result Value Fault
value_of table rest next [] = fault why.Expected next
value_of table rest next (piece ∷ pieces) =
    if allows_uniform table rest && says (codes "uniform") piece then ended Uniform pieces
    else if allows_identity table rest && says (codes "identity") piece then ended Identity pieces
    else (numbers (is_number_of table) next (product (map axis_size rest)) (piece ∷ pieces) >>= λ ns. Ok (Numbers ns))

-- ---- the statements

-- where there are too few fields, the end of the line is wrong
abbrev pub unless_too_few : ℕ → List (List Part) → ℕ → Result (Unit {0}) Fault
unless_too_few least fields ends = if nat_lt (length fields) least then fault why.Expected ends else Ok tt

-- the statement of an item: its fields, and its value over the axes that have no field
unfoldable pub statement : Header → Table → Item → Result Statement Fault
statement header table item = do
  let line = fields_of (after_colon item)
  fields ← all_parts (axes_of header table) line.fields
  _ ← unless_too_few (least_fields table) fields item.first.ends
  value ← value_of table (drop (length fields) (axes_of header table)) item.next
      (line.rest ++ flat_map pieces_of item.more)
  Ok (record { at = item_at item; table = table; fields = fields; value = value })

-- behind the header there are only statements
abbrev pub statement_of_kind : Header → Item → ItemKind → Result Statement Fault
statement_of_kind header item (HeaderEntry e) = fault why.Header (item_at item)
statement_of_kind header item (StatementOf table) = statement header table item
statement_of_kind header item NoItem = fault why.Expected (item_at item)

-- the statements of the items behind the header, in order
unfoldable pub statements_of : Header → List Item → Result (List Statement) Fault
statements_of header [] = Ok []
statements_of header (item ∷ items) = do
  first ← statement_of_kind header item (kind_of item)
  others ← statements_of header items
  Ok (first ∷ others)
