-- What the text of a file says, and the sizes that it gives.
use Rattle.std.specs.Prelude.{ℕ}
use Rattle.dp_meaning.specs.declared.text.Text.{Text}
use Rattle.dp_meaning.specs.NameLists.{size_of}
use Rattle.dp_meaning.specs.Statements.{axis_size}

-- ---- sizes

-- how many states a text gives
abbrev pub states_in : Text → ℕ
states_in text = size_of text.header.states

-- how many joint actions a text gives
abbrev pub joint_actions_in : Text → ℕ
joint_actions_in text = axis_size text.header.actions

-- how many joint observations a text gives
abbrev pub joint_observations_in : Text → ℕ
joint_observations_in text = axis_size text.header.observations
