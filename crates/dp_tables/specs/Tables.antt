-- The tables of a text: their sizes, their scales, and the chances that the text gives.
use Rattle.std.specs.Prelude.{ℕ, ◌*◌, List, [], ◌∷◌, map}
use Rattle.std.specs.List.{range_with_len}
use Rattle.dp_spec.specs.JointNumbers.{parts_of}
use Rattle.dp_meaning.specs.declared.statement.Table.{Table}
use Rattle.dp_meaning.specs.declared.statement.Table.TheVariants.{Trans, Obs, Reward}
use Rattle.dp_meaning.specs.declared.text.Text.{Text}
use Rattle.dp_meaning.specs.Cells.{statements_for, chance_of_cell}
use Rattle.dp_meaning.specs.Rows.{Row, start_row, trans_rows, obs_rows}
use Rattle.dp_meaning.specs.Scales.{scales_of}
use Rattle.dp_meaning.specs.Statements.{axes_of}
use Rattle.dp_meaning.specs.Text.{states_in, joint_actions_in, joint_observations_in}
use Rattle.dp_tables.specs.declared.chances.ChancesOf.{ChancesOf}
use Rattle.dp_tables.specs.declared.chances.ChancesOf.TheVariants.{Start, Transitions, Observations}

-- how many cells the last axis of a table has
abbrev pub row_length : Text → Table → ℕ
row_length text Trans = states_in text
row_length text _ = joint_observations_in text

-- the scale of a table
abbrev pub scale_in : Text → Table → ℕ
scale_in text Trans = (scales_of text).trans
scale_in text Obs = (scales_of text).obs
scale_in text Reward = (scales_of text).reward

-- the cells of a table of chances over a scale, as its statements give them: by joint action, by state, and by the
-- place in a row of so many
abbrev pub given_cells : Text → Table → ℕ → ℕ → List ℕ
given_cells text table scale len =
    let sizes = joint_actions_in text ∷ states_in text ∷ len ∷ [] in
    let statements = statements_for table text.statements in
    map (λ k. chance_of_cell scale (axes_of text.header table) statements (parts_of sizes k))
    (range_with_len 0 (joint_actions_in text * states_in text * len))

-- the chances as the text gives them, over their scale
abbrev pub given_chances : Text → ChancesOf → List ℕ
given_chances text Start = (start_row text).cells
given_chances text Transitions = given_cells text Trans (scale_in text Trans) (row_length text Trans)
given_chances text Observations = given_cells text Obs (scale_in text Obs) (row_length text Obs)

-- the rows of these chances
abbrev pub rows_of : Text → ChancesOf → List Row
rows_of text Start = start_row text ∷ []
rows_of text Transitions = trans_rows text
rows_of text Observations = obs_rows text
