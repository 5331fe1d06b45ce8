-- The rows of a model: its chances over their scales, and its rewards.
use Rattle.std.specs.Prelude.{ℕ, ℤ, List, map}
use Rattle.std.specs.List.{flat_map, range_with_len}
use Rattle.dp_spec.specs.Model.{Model, joint_actions, joint_observations, start_at, trans_at, obs_at, reward_at}
use Rattle.dp_writer.specs.declared.rows.ChanceTable.{ChanceTable}
use Rattle.dp_writer.specs.declared.rows.ChanceTable.TheVariants.{Next, Seen}

-- f of each number below n, in order
abbrev pub each_below : {A : Type 0} → (ℕ → A) → ℕ → List A
each_below f n = map f (range_with_len 0 n)

-- the start chances
abbrev pub start_row : Model → List ℕ
start_row m = each_below (start_at m) m.states

-- how many cells a row of a table has
abbrev pub row_length : Model → ChanceTable → ℕ
row_length m Next = m.states
row_length m Seen = joint_observations m

-- the scale of a table
abbrev pub scale_of_table : Model → ChanceTable → ℕ
scale_of_table m Next = m.scales.trans
scale_of_table m Seen = m.scales.obs

-- the cell of a table at a joint action, a state and a place in their row
abbrev pub cell_at : Model → ChanceTable → ℕ → ℕ → ℕ → ℕ
cell_at m Next a s i = trans_at m a s i
cell_at m Seen a t i = obs_at m a t i

-- the row of a joint action and a state
abbrev pub chance_row : Model → ChanceTable → ℕ → ℕ → List ℕ
chance_row m table a s = each_below (cell_at m table a s) (row_length m table)

-- the rows of a joint action, by state
abbrev pub action_rows : Model → ChanceTable → ℕ → List (List ℕ)
action_rows m table a = each_below (chance_row m table a) m.states

-- all rows of a table, by joint action and state
abbrev pub table_rows : Model → ChanceTable → List (List ℕ)
table_rows m table = flat_map (action_rows m table) (range_with_len 0 (joint_actions m))

-- the rewards of a joint action and a state where a state follows, by joint observation
abbrev pub reward_row : Model → ℕ → ℕ → ℕ → List ℤ
reward_row m a s t = each_below (reward_at m a s t) (joint_observations m)

-- all rewards of a joint action and a state, by next state
abbrev pub reward_rows : Model → ℕ → ℕ → List (List ℤ)
reward_rows m a s = each_below (reward_row m a s) m.states
