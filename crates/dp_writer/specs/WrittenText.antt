-- What reading says of the text that is written of a model: its header and its statements, without their offsets.
use Rattle.std.specs.Prelude.{◌≡◌, ℕ, ℤ, pos, false, if◌then◌else◌, List, [], ◌∷◌, ◌++◌, map, length, slice_index}
use Rattle.std.specs.List.{flat_map, range_with_len}
use Rattle.std.specs.Ordering.{int_eq}
use Rattle.dp_base.specs.declared.decimal.Decimal.{Decimal}
use Rattle.dp_spec.specs.JointNumbers.{parts_of}
use Rattle.dp_spec.specs.Model.{Model, joint_actions, reward_at}
use Rattle.dp_model.specs.Names.{names_of}
use Rattle.dp_model.specs.Tables.{NamedModel}
use Rattle.dp_meaning.specs.declared.given_list.GivenList.{GivenList}
use Rattle.dp_meaning.specs.declared.given_list.GivenList.TheVariants.{Counted, Named}
use Rattle.dp_meaning.specs.declared.header.Header.{Header}
use Rattle.dp_meaning.specs.declared.header.Start.{Start}
use Rattle.dp_meaning.specs.declared.header.Start.TheVariants.{AnyState, StartRow}
use Rattle.dp_meaning.specs.declared.statement.Table.{Table}
use Rattle.dp_meaning.specs.declared.statement.Table.TheVariants.{Trans, Obs, Reward}
use Rattle.dp_meaning.specs.declared.statement.Part.{Part}
use Rattle.dp_meaning.specs.declared.statement.Part.TheVariants.{Any, Only}
use Rattle.dp_meaning.specs.declared.statement.Value.{Value}
use Rattle.dp_meaning.specs.declared.statement.Value.TheVariants.{Uniform, Numbers}
use Rattle.dp_meaning.specs.declared.statement.Statement.{Statement}
use Rattle.dp_meaning.specs.declared.text.Text.{Text}
use Rattle.dp_writer.specs.declared.rows.ChanceTable.{ChanceTable}
use Rattle.dp_writer.specs.declared.rows.ChanceTable.TheVariants.{Next, Seen}
use Rattle.dp_writer.specs.ModelRows.{each_below, start_row, scale_of_table, chance_row, reward_rows}
use Rattle.dp_writer.specs.WrittenModel.{are_equal, is_only_reward}
use Rattle.dp_writer.specs.WrittenNumbers.{decimal_over}

-- ---- numbers

-- a row of chances in decimals
abbrev pub chance_decimals : ℕ → List ℕ → List Decimal
chance_decimals scale cells = map (λ n. decimal_over 18 (pos n) scale) cells

-- a row of rewards in decimals
abbrev pub reward_decimals : ℕ → List ℤ → List Decimal
reward_decimals scale rewards = map (λ r. decimal_over 9 r scale) rewards

-- ---- the header

-- a list by its names, or by its count where it has none
abbrev pub given_list : List (List ℕ) → ℕ → GivenList
given_list [] count = Counted count
given_list (name ∷ names) count = Named (name ∷ names)

-- for each agent its list
abbrev pub given_lists : List (List (List ℕ)) → List ℕ → List GivenList
given_lists lists counts = each_below (λ i. given_list (names_of lists i) (slice_index counts i)) (length counts)

-- the start, whose first chance stands at an offset
abbrev pub said_start : ℕ → Model → Start
said_start at m =
    if are_equal (start_row m) then AnyState else StartRow at (chance_decimals m.scales.start (start_row m))

-- the header
unfoldable pub said_header : ℕ → NamedModel → Header
said_header at m = record {
  agents = given_list m.names.agents (length m.model.actions);
  discount = decimal_over 18 (pos m.model.scales.gain) m.model.scales.discount;
  cost = false;
  states = given_list m.names.states m.model.states;
  start = said_start at m.model;
  actions = given_lists m.names.actions m.model.actions;
  observations = given_lists m.names.observations m.model.observations;
}

-- ---- the statements

-- what a statement says, without the offset at which it begins
pub record Said : Type 0 where
  pub table : Table
  pub fields : List (List Part)
  pub value : Value

-- of a statement
abbrev pub said_of : Statement → Said
said_of s = record { table = s.table; fields = s.fields; value = s.value }

-- the fields of joint action a and state s
abbrev pub said_fields : Model → ℕ → ℕ → List (List Part)
said_fields m a s = map (λ n. Only n) (parts_of m.actions a) ∷ (Only s ∷ []) ∷ []

-- the table of a statement
abbrev pub said_table : ChanceTable → Table
said_table Next = Trans
said_table Seen = Obs

-- a row of chances: `uniform` where all its cells are equal, and else its decimals
abbrev pub row_value : ℕ → List ℕ → Value
row_value scale cells = if are_equal cells then Uniform else Numbers (chance_decimals scale cells)

-- the row of a joint action and a state
abbrev pub chance_said : Model → ChanceTable → ℕ → ℕ → List Said
chance_said m table a s = record {
  table = said_table table;
  fields = said_fields m a s;
  value = row_value (scale_of_table m table) (chance_row m table a s);
} ∷ []

-- the one reward of all that may follow, where it is not 0
abbrev pub one_reward_said : Model → ℕ → ℕ → ℤ → List Said
one_reward_said m a s r = if int_eq r (pos 0) then [] else record {
  table = Reward;
  fields = said_fields m a s ++ (Any ∷ []) ∷ map (λ _. Any) m.observations ∷ [];
  value = Numbers (decimal_over 9 r m.scales.reward ∷ []);
} ∷ []

-- the rewards by next state and joint observation
abbrev pub rewards_said : Model → ℕ → ℕ → Said
rewards_said m a s = record {
  table = Reward;
  fields = said_fields m a s;
  value = Numbers (flat_map (reward_decimals m.scales.reward) (reward_rows m a s));
}

-- one reward where all are equal, and else all of them
unfoldable pub reward_said : Model → ℕ → ℕ → List Said
reward_said m a s =
    if is_only_reward (reward_at m a s 0 0) (reward_rows m a s) then one_reward_said m a s (reward_at m a s 0 0)
    else rewards_said m a s ∷ []

-- what is said of each joint action and state, by joint action and state
abbrev pub said_by_state : Model → (ℕ → ℕ → List Said) → List Said
said_by_state m said = flat_map (λ a. flat_map (said a) (range_with_len 0 m.states))
    (range_with_len 0 (joint_actions m))

-- the transitions, the observations, the rewards
unfoldable pub said_statements : Model → List Said
said_statements m =
    said_by_state m (chance_said m Next) ++ (said_by_state m (chance_said m Seen) ++ said_by_state m (reward_said m))

-- ---- all of it

-- the text says the model
pub record IsSaidBy (m : NamedModel) (text : Text) : Type 0 where
  pub header : (at : ℕ) × (text.header ≡ said_header at m)
  pub statements : map said_of text.statements ≡ said_statements m.model
