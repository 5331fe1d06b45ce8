-- The rewards as their statements are written one after the other.
use Rattle.std.proofs.Common.{◌≡◌, ℕ, ◌+◌, ◌*◌, ◌%◌, ◌^◌, ◌<◌, ◌≤◌, Bool, true, List, [], ◌∷◌, length, get_or, map}
use Rattle.std.proofs.Common.{take, drop, refl, sym, ap, subst, ◌∙◌, arith, ℤ, pos}
use Rattle.std.specs.Prelude.{replicate}
use Rattle.std.proofs.lemmas.List.{drop-map, length-map}
use Rattle.dp_base.proofs.SignificandLaws.{tens_up}
use Rattle.dp_spec.specs.JointNumbers.{product, parts_of}
use Rattle.dp_meaning.specs.declared.statement.Table.TheVariants.{Reward}
use Rattle.dp_meaning.specs.declared.statement.Value.{Value}
use Rattle.dp_meaning.specs.declared.statement.Value.TheVariants.{Uniform, Identity, Numbers}
use Rattle.dp_meaning.specs.declared.statement.Statement.{Statement}
use Rattle.dp_meaning.specs.declared.text.Text.{Text}
use Rattle.dp_meaning.specs.Fields.{Axis}
use Rattle.dp_meaning.specs.Statements.{axes_of, axis_size}
use Rattle.dp_meaning.specs.Cells.{is_same_table, statements_for, reward_over, given_reward, reward_of_cell}
use Rattle.dp_meaning.specs.Scales.{digits_of_statements, scales_of}
use Rattle.dp_meaning.specs.Text.{states_in, joint_actions_in, joint_observations_in}
use Rattle.dp_meaning.specs.Meaning.{IsSaid, rewards_of}
use Rattle.dp_meaning.proofs.CellValues.{reward_uncovered, reward_of_last, reward_of_others}
use Rattle.dp_meaning.proofs.Each.{all_from_each}
use Rattle.dp_meaning.proofs.ReadFields.{Fills}
use Rattle.dp_meaning.proofs.ReadStatements.{AreNumbersOf}
use Rattle.dp_meaning.proofs.SaidTexts.{rewards_digits}
use Rattle.dp_tables.specs.Blocks.{reward_block, IsRewardValue}
use Rattle.dp_tables.specs.Writing.{AreWritten, list_sizes, list_parts}
use Rattle.dp_tables.proofs.CellTables.{AreCells, no_cells, all_cells, one_list, IsStatementFor, IsWritable}
use Rattle.dp_tables.proofs.CellTables.{cells_taken}
use Rattle.dp_tables.proofs.ChanceLemmas.{of_numbers}
use Rattle.dp_tables.proofs.FlatCells.{product_of_lists}

-- ---- the table of a text

abbrev pub reward_axes : Text → List Axis
reward_axes text = axes_of text.header Reward

abbrev pub reward_sizes : Text → List ℕ
reward_sizes text = joint_actions_in text ∷ states_in text ∷ states_in text ∷ joint_observations_in text ∷ []

reward_sizes_are : (text : Text) → map axis_size (reward_axes text) ≡ reward_sizes text
reward_sizes_are text = ap (λ n. joint_actions_in text ∷ n ∷ n ∷ joint_observations_in text ∷ [])
    (one_list text.header.states)

pub rewards_count : (text : Text) → product (list_sizes (reward_axes text))
    ≡ joint_actions_in text * states_in text * states_in text * joint_observations_in text
rewards_count text = product_of_lists (reward_axes text) ∙ ap product (reward_sizes_are text) ∙ omega arith

pub reward_scale_limit : (text : Text) (scale : ℕ) → IsSaid text → scale ≡ (scales_of text).reward → scale ≤ 10 ^ 9
unfolding scales_of
reward_scale_limit text scale said e =
    let most = tens_up (digits_of_statements (statements_for Reward text.statements)) 9 (rewards_digits text said) in
    omega arith

-- ---- the statements of the rewards

pub reward_numbers : (v : Value) → AreNumbersOf Reward v → IsRewardValue v
reward_numbers Uniform are = tt
reward_numbers Identity are = tt
reward_numbers (Numbers ns) are = all_from_each _ ns are

-- a block of one reward for each cell of the axes without a field
block_fits : (cost : Bool) (scale f : ℕ) (axes : List Axis) (v : Value) → Fills Reward (drop f axes) v
    → length (reward_block cost scale v) ≡ product (map axis_size (drop f axes))
block_fits cost scale f axes Uniform fills = absurd (cc)
block_fits cost scale f axes Identity fills = absurd (cc)
block_fits cost scale f axes (Numbers ns) fills = length-map ns (reward_over cost scale) ∙ fills

reward_value_at : (cost : Bool) (scale k f : ℕ) (axes : List Axis) (v : Value) → Fills Reward (drop f axes) v
    → k < product
    (map axis_size axes)
    → get_or (reward_block cost scale v) (k % length (reward_block cost scale v)) (pos 0)
    ≡ given_reward cost scale (map axis_size axes) f (parts_of (map axis_size axes) k) v
reward_value_at cost scale k f axes Uniform fills h = absurd (cc)
reward_value_at cost scale k f axes Identity fills h = absurd (cc)
reward_value_at cost scale k f axes (Numbers ns) fills h =
    of_numbers ℤ (pos 0) (reward_over cost scale) k f (map axis_size axes) ns h (fills
    ∙ ap product (sym (drop-map axis_size f axes)))

pub rewards_fit : (cost : Bool) (scale : ℕ) (axes : List Axis) (s : Statement) (sizes : List ℕ)
    → IsStatementFor Reward axes s → IsWritable axes sizes s
    → length (reward_block cost scale s.value) ≡ product (drop (length (list_parts s.fields)) sizes)
rewards_fit cost scale axes s sizes is fits = block_fits cost scale (length s.fields) axes s.value is.fills
    ∙ sym fits.width

-- ---- the cells

-- the rewards by these statements
abbrev pub AreRewardsBy : Text → ℕ → List Statement → List ℤ → Type 0
AreRewardsBy text scale statements cells =
    AreCells ℤ (pos 0) (reward_axes text) (reward_of_cell text.header.cost scale (reward_axes text) statements) cells

pub no_rewards : (text : Text) (scale : ℕ) (cells : List ℤ) (n : ℕ) → cells ≡ replicate n (pos 0)
    → n ≡ joint_actions_in text * states_in text * states_in text * joint_observations_in text
    → AreRewardsBy text scale [] cells
no_rewards text scale cells n e long =
    no_cells ℤ (pos 0) (reward_axes text) (reward_of_cell text.header.cost scale (reward_axes text) []) cells n e
    (long ∙ sym (rewards_count text)) (λ cell. reward_uncovered text.header.cost scale
    (reward_axes text) [] cell refl)

-- a statement of the rewards is written
pub rewards_taken : (text : Text) (scale : ℕ) (items : List Statement) (i : ℕ) (s : Statement) (cells new : List ℤ)
    (sizes : List ℕ)
    (old : List ℤ)
    → IsStatementFor Reward (reward_axes text) s → i < length items → s ≡ get_or items i s
    → is_same_table Reward s.table ≡ true
    → AreRewardsBy text scale (statements_for Reward (take i items)) cells → sizes ≡ list_sizes (reward_axes text)
    → old ≡ cells
    → length new ≡ length old
    → AreWritten sizes (list_parts s.fields) (reward_block text.header.cost scale s.value) old new
    → AreRewardsBy text scale (statements_for Reward (take (i + 1) items)) new
rewards_taken text scale items i s cells new sizes old is =
    let axes = reward_axes text in
    let cost = text.header.cost in
    cells_taken ℤ (pos 0) axes (reward_of_cell cost scale axes)
    (λ cell. given_reward cost scale (map axis_size axes) (length s.fields) cell s.value)
    Reward items i s (reward_block cost scale s.value) cells new old sizes is.over.fields
    (λ k h. reward_value_at cost scale k (length s.fields) axes s.value is.fills h)
    (λ before cell e. reward_of_last cost scale axes before s [] cell e refl)
    (λ before cell e. reward_of_others cost scale axes before s [] cell e)

-- all of them
pub all_rewards : (text : Text) (scale : ℕ) (cells : List ℤ) → scale ≡ (scales_of text).reward
    → AreRewardsBy text scale (statements_for Reward text.statements) cells → cells ≡ rewards_of text
unfolding rewards_of
all_rewards text scale cells e are =
    all_cells ℤ (pos 0) (reward_axes text) (reward_of_cell text.header.cost (scales_of text).reward (reward_axes text)
    (statements_for Reward text.statements)) cells (reward_sizes text)
    (joint_actions_in text * states_in text * states_in text * joint_observations_in text)
    (subst (λ n. AreRewardsBy text n (statements_for Reward text.statements) cells) e are) (reward_sizes_are text)
    (omega arith)
