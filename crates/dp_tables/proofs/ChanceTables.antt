-- The chances of a table as its statements are written one after the other.
use Rattle.std.proofs.Common.{◌≡◌, ◌⊎◌, ℕ, ◌+◌, ◌*◌, ◌<◌, ◌≤◌, true, false, List, [], ◌∷◌, length, get_or, map, take}
use Rattle.std.proofs.Common.{drop, refl, sym, ap, subst, ◌∙◌, arith}
use Rattle.std.specs.Prelude.{replicate}
use Rattle.std.specs.List.{range_with_len}
use Rattle.dp_spec.specs.JointNumbers.{product, parts_of}
use Rattle.dp_meaning.specs.declared.statement.Table.{Table}
use Rattle.dp_meaning.specs.declared.statement.Table.TheVariants.{Trans, Obs, Reward}
use Rattle.dp_meaning.specs.declared.statement.Value.{Value}
use Rattle.dp_meaning.specs.declared.statement.Value.TheVariants.{Uniform, Identity, Numbers}
use Rattle.dp_meaning.specs.declared.statement.Statement.{Statement}
use Rattle.dp_meaning.specs.declared.text.Text.{Text}
use Rattle.dp_meaning.specs.Fields.{Axis}
use Rattle.dp_meaning.specs.Statements.{axes_of, axis_size, is_trans, is_reward_table}
use Rattle.dp_meaning.specs.Cells.{is_same_table, statements_for, given_chance, chance_of_cell}
use Rattle.dp_meaning.specs.Text.{states_in, joint_actions_in}
use Rattle.dp_meaning.specs.Meaning.{IsSaid}
use Rattle.dp_meaning.proofs.CellValues.{chance_uncovered, chance_of_last, chance_of_others}
use Rattle.dp_meaning.proofs.Each.{all_from_each}
use Rattle.dp_meaning.proofs.ReadStatements.{AreNumbersOf}
use Rattle.dp_meaning.proofs.SaidTexts.{some_states, some_joint_observations}
use Rattle.dp_tables.specs.Blocks.{chance_block, IsChanceValue}
use Rattle.dp_tables.specs.Tables.{row_length}
use Rattle.dp_tables.specs.Writing.{AreWritten, list_sizes, list_parts}
use Rattle.dp_tables.proofs.ChanceLemmas.{IsTableOver, block_fits, value_at}
use Rattle.dp_tables.proofs.CellTables.{AreCells, no_cells, all_cells, one_list, some_cells, IsStatementFor}
use Rattle.dp_tables.proofs.CellTables.{IsWritable, cells_taken}
use Rattle.dp_tables.proofs.FlatCells.{product_of_lists}

-- ---- the table of a text

pub some_row : (text : Text) (table : Table) → IsSaid text → 1 ≤ row_length text table
some_row text Trans said = some_states text said
some_row text Obs said = some_joint_observations text said
some_row text Reward said = some_joint_observations text said

sizes_are : (text : Text) (table : Table) → is_reward_table table ≡ false
    → map axis_size (axes_of text.header table) ≡ joint_actions_in text ∷ states_in text ∷ row_length text table ∷ []
sizes_are text Trans e = ap (λ n. joint_actions_in text ∷ n ∷ n ∷ []) (one_list text.header.states)
sizes_are text Obs e = ap (λ n. joint_actions_in text ∷ n ∷ row_length text Obs ∷ []) (one_list text.header.states)
sizes_are text Reward e = absurd (cc)

pub table_over : (text : Text) (table : Table) → IsSaid text → is_reward_table table ≡ false
    → IsTableOver table (axes_of text.header table) (joint_actions_in text) (states_in text) (row_length text table)
table_over text table said e = record {
  sizes = sizes_are text table e;
  square = square table;
  some = some_cells text table said;
}
  where
    square : (table : Table) → is_trans table ≡ true → states_in text ≡ row_length text table
    square Trans t = refl
    square Obs t = absurd (cc)
    square Reward t = absurd (cc)

-- with the length of its rows as it is computed
pub table_over_len : (text : Text) (table : Table) (len : ℕ) → IsSaid text → is_reward_table table ≡ false
    → len ≡ row_length text table
    → IsTableOver table (axes_of text.header table) (joint_actions_in text) (states_in text) len
table_over_len text table len said e is =
    subst (IsTableOver table (axes_of text.header table) (joint_actions_in text) (states_in text)) (sym is)
    (table_over text table said e)

-- ---- the statements of the table

pub chance_numbers : (table : Table) (v : Value) → is_reward_table table ≡ false → AreNumbersOf table v
    → IsChanceValue v
chance_numbers table Uniform e are = tt
chance_numbers table Identity e are = tt
chance_numbers Trans (Numbers ns) e are = all_from_each _ ns are
chance_numbers Obs (Numbers ns) e are = all_from_each _ ns are
chance_numbers Reward (Numbers ns) e are = absurd (cc)

pub chances_fit : (scale actions states len : ℕ) (table : Table) (axes : List Axis) (s : Statement) (sizes : List ℕ)
    → IsTableOver table axes actions states len → IsStatementFor table axes s → IsWritable axes sizes s
    → (length (chance_block scale len s.value) ≡ 1)
    ⊎ (length (chance_block scale len s.value) ≡ product (drop (length (list_parts s.fields)) sizes))
chances_fit scale actions states len table axes s sizes over is fits =
    subst (λ n. (length (chance_block scale len s.value) ≡ 1) ⊎ (length (chance_block scale len s.value) ≡ n))
    (sym fits.width)
    (block_fits scale actions states len (length s.fields) table axes s.value over is.fills)

-- ---- the cells

-- the cells by these statements
abbrev pub AreChancesBy : ℕ → List Axis → List Statement → List ℕ → Type 0
AreChancesBy scale axes statements cells = AreCells ℕ 0 axes (chance_of_cell scale axes statements) cells

pub no_chances : (scale : ℕ) (axes : List Axis) (cells : List ℕ) (n : ℕ) → cells ≡ replicate n 0
    → n ≡ product (list_sizes axes)
    → AreChancesBy scale axes [] cells
no_chances scale axes cells n e long =
    no_cells ℕ 0 axes (chance_of_cell scale axes []) cells n e long (λ cell. chance_uncovered scale axes [] cell refl)

-- a statement of the table is written
pub chances_taken : (scale actions states len : ℕ) (table : Table) (axes : List Axis) (items : List Statement) (i : ℕ)
    (s : Statement)
    (cells new sizes old : List ℕ)
    → IsTableOver table axes actions states len → IsStatementFor table axes s → i < length items
    → s ≡ get_or items i s
    → is_same_table table s.table ≡ true → AreChancesBy scale axes (statements_for table (take i items)) cells
    → sizes ≡ list_sizes axes → old ≡ cells → length new ≡ length old
    → AreWritten sizes (list_parts s.fields) (chance_block scale len s.value) old new
    → AreChancesBy scale axes (statements_for table (take (i + 1) items)) new
chances_taken scale actions states len table axes items i s cells new sizes old over is =
    cells_taken ℕ 0 axes (chance_of_cell scale axes)
    (λ cell. given_chance scale (map axis_size axes) (length s.fields) cell s.value)
    table items i s (chance_block scale len s.value) cells new old sizes is.over.fields
    (λ k h. value_at scale actions states len k (length s.fields) table axes s.value over is.fills h)
    (λ before cell e. chance_of_last scale axes before s [] cell e refl)
    (λ before cell e. chance_of_others scale axes before s [] cell e)

pub cells_count : (table : Table) (axes : List Axis) (actions states len : ℕ)
    → IsTableOver table axes actions states len
    → product (list_sizes axes) ≡ actions * states * len
cells_count table axes actions states len over = product_of_lists axes ∙ ap product over.sizes ∙ omega arith

-- all of the table's statements
pub all_chances : (scale actions states len : ℕ) (table : Table) (axes : List Axis) (statements : List Statement)
    (cells : List ℕ)
    → IsTableOver table axes actions states len → AreChancesBy scale axes statements cells
    → cells ≡ map (λ k. chance_of_cell scale axes statements (parts_of (actions ∷ states ∷ len ∷ []) k))
    (range_with_len 0 (actions * states * len))
all_chances scale actions states len table axes statements cells over are =
    all_cells ℕ 0 axes (chance_of_cell scale axes statements) cells (actions ∷ states ∷ len ∷ [])
    (actions * states * len) are over.sizes (omega arith)
