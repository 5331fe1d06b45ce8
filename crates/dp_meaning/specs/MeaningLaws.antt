-- What holds of the meaning of a model file, in words that do not follow its reading.
use Rattle.std.specs.Prelude.{◌≡◌, ◌≢◌, ℕ, ◌<◌, Bool, true, false, not, ◌==◌, ℤ, pos, List, [], ◌∷◌, ◌++◌, length}
use Rattle.std.specs.Prelude.{get_or, map, sum, count_by, Some, Ok}
use Rattle.std.specs.List.{list_any}
use Rattle.dp_lexer.specs.Comments.{first_bad}
use Rattle.dp_spec.specs.Model.{joint_actions, joint_observations, start_at, trans_at, obs_at, reward_at, AreRows}
use Rattle.dp_model.specs.Names.{AreNames}
use Rattle.dp_model.specs.Tables.{IsNamedModel}
use Rattle.dp_meaning.specs.declared.statement.Table.{Table}
use Rattle.dp_meaning.specs.declared.statement.Table.TheVariants.{Trans, Obs, Reward}
use Rattle.dp_meaning.specs.declared.statement.Statement.{Statement}
use Rattle.dp_meaning.specs.declared.text.Text.{Text}
use Rattle.dp_meaning.specs.declared.why.Why.TheVariants.{BadByte}
use Rattle.dp_meaning.specs.Fields.{Axis}
use Rattle.dp_meaning.specs.Statements.{axes_of, axis_size}
use Rattle.dp_meaning.specs.Cells.{Cell, covers, statements_for, given_chance, given_reward, chance_of_cell}
use Rattle.dp_meaning.specs.Cells.{reward_of_cell}
use Rattle.dp_meaning.specs.Scales.{scales_of}
use Rattle.dp_meaning.specs.Rows.{Row, row_cells, greatest_place, is_near, start_row, trans_rows, obs_rows}
use Rattle.dp_meaning.specs.Meaning.{text_of, ReadModel, Means, FaultAt, place_at, meaning}

-- these bytes say this text and mean this model
pub record IsMeant (bytes : List ℕ) (text : Text) (r : ReadModel) : Type 0 where
  pub says : text_of bytes ≡ Ok text
  pub means : meaning bytes ≡ Means r

-- ---- cells

-- one of these statements covers the cell
abbrev pub some_covers : List Axis → List Statement → Cell → Bool
some_covers axes statements cell = list_any (λ s. covers axes s.fields cell) statements

-- no statement of the table covers the cell
abbrev pub IsUncovered : Text → Table → Cell → Type 0
IsUncovered text table cell = some_covers (axes_of text.header table) (statements_for table text.statements) cell
    ≡ false

-- Chances of transitions that no statement covers are 0, also in rows that were repaired.
abbrev pub UncoveredTransitionsAreZero : Type 0
UncoveredTransitionsAreZero =
    (bytes : List ℕ) (text : Text) (r : ReadModel) → IsMeant bytes text r →
    (a s t : ℕ) → a < joint_actions r.model.model → s < r.model.model.states → t < r.model.model.states →
    IsUncovered text Trans (a ∷ s ∷ t ∷ []) → trans_at r.model.model a s t ≡ 0

-- Chances of observations that no statement covers are 0, also in rows that were repaired.
abbrev pub UncoveredObservationsAreZero : Type 0
UncoveredObservationsAreZero =
    (bytes : List ℕ) (text : Text) (r : ReadModel) → IsMeant bytes text r →
    (a t o : ℕ) → a < joint_actions r.model.model → t < r.model.model.states → o < joint_observations r.model.model →
    IsUncovered text Obs (a ∷ t ∷ o ∷ []) → obs_at r.model.model a t o ≡ 0

-- Rewards that no statement covers are 0.
abbrev pub UncoveredRewardsAreZero : Type 0
UncoveredRewardsAreZero =
    (bytes : List ℕ) (text : Text) (r : ReadModel) → IsMeant bytes text r →
    (a s t o : ℕ) → a < joint_actions r.model.model → s < r.model.model.states → t < r.model.model.states
    → o < joint_observations r.model.model →
    IsUncovered text Reward (a ∷ s ∷ t ∷ o ∷ []) → reward_at r.model.model a s t o ≡ pos 0

-- A statement that covers a chance gives it, whatever stands before it, where no later one covers the chance.
abbrev pub LastCoveringChanceWins : Type 0
LastCoveringChanceWins =
    (scale : ℕ) (axes : List Axis) (before : List Statement) (s : Statement) (after : List Statement) (cell : Cell) →
    covers axes s.fields cell ≡ true → some_covers axes after cell ≡ false →
    chance_of_cell scale axes (before ++ s ∷ after) cell
    ≡ given_chance scale (map axis_size axes) (length s.fields) cell s.value

-- A statement that covers a reward gives it, whatever stands before it, where no later one covers the reward.
abbrev pub LastCoveringRewardWins : Type 0
LastCoveringRewardWins =
    (cost : Bool) (scale : ℕ) (axes : List Axis) (before : List Statement) (s : Statement) (after : List Statement)
    (cell : Cell) →
    covers axes s.fields cell ≡ true → some_covers axes after cell ≡ false →
    reward_of_cell cost scale axes (before ++ s ∷ after) cell
    ≡ given_reward cost scale (map axis_size axes) (length s.fields) cell s.value

-- A statement that does not cover a chance changes nothing of it, wherever it stands.
abbrev pub OtherChancesAreKept : Type 0
OtherChancesAreKept =
    (scale : ℕ) (axes : List Axis) (before : List Statement) (s : Statement) (after : List Statement) (cell : Cell) →
    covers axes s.fields cell ≡ false →
    chance_of_cell scale axes (before ++ s ∷ after) cell ≡ chance_of_cell scale axes (before ++ after) cell

-- A statement that does not cover a reward changes nothing of it, wherever it stands.
abbrev pub OtherRewardsAreKept : Type 0
OtherRewardsAreKept =
    (cost : Bool) (scale : ℕ) (axes : List Axis) (before : List Statement) (s : Statement) (after : List Statement)
    (cell : Cell) →
    covers axes s.fields cell ≡ false →
    reward_of_cell cost scale axes (before ++ s ∷ after) cell ≡ reward_of_cell cost scale axes (before ++ after) cell

-- ---- the tables of the model

-- the chance of a transition, as the statements of a text give it
abbrev pub given_trans : Text → Cell → ℕ
given_trans text cell = chance_of_cell (scales_of text).trans (axes_of text.header Trans)
    (statements_for Trans text.statements) cell

-- the chance of an observation, as the statements of a text give it
abbrev pub given_obs : Text → Cell → ℕ
given_obs text cell = chance_of_cell (scales_of text).obs (axes_of text.header Obs)
    (statements_for Obs text.statements) cell

-- the reward of a cell, as the statements of a text give it
abbrev pub given_rewards : Text → Cell → ℤ
given_rewards text cell = reward_of_cell text.header.cost (scales_of text).reward (axes_of text.header Reward)
    (statements_for Reward text.statements) cell

-- A row of transitions whose chances sum to their scale stands in the model as it is given.
abbrev pub RightTransitionsAreKept : Type 0
RightTransitionsAreKept =
    (bytes : List ℕ) (text : Text) (r : ReadModel) → IsMeant bytes text r →
    (a s t : ℕ) → a < joint_actions r.model.model → s < r.model.model.states → t < r.model.model.states →
    sum (map (given_trans text) (row_cells (a ∷ s ∷ []) r.model.model.states)) ≡ r.model.model.scales.trans →
    trans_at r.model.model a s t ≡ given_trans text (a ∷ s ∷ t ∷ [])

-- A row of observations whose chances sum to their scale stands in the model as it is given.
abbrev pub RightObservationsAreKept : Type 0
RightObservationsAreKept =
    (bytes : List ℕ) (text : Text) (r : ReadModel) → IsMeant bytes text r →
    (a t o : ℕ) → a < joint_actions r.model.model → t < r.model.model.states → o < joint_observations r.model.model →
    sum (map (given_obs text) (row_cells (a ∷ t ∷ []) (joint_observations r.model.model)))
    ≡ r.model.model.scales.obs →
    obs_at r.model.model a t o ≡ given_obs text (a ∷ t ∷ o ∷ [])

-- A row is nearly as it is given where the sum of what is given misses the scale by at most a thousandth of it, and
-- all cells but the first of the largest are as they are given.
abbrev pub IsNearlyGiven : ℕ → List ℕ → (ℕ → ℕ) → Type 0
IsNearlyGiven scale given cell_at =
    (is_near scale (sum given) ≡ true)
    × ((i : ℕ) → i < length given → i ≢ greatest_place given → cell_at i ≡ get_or given i 0)

-- Each row of transitions is nearly as it is given.
abbrev pub TransitionsAreNearlyGiven : Type 0
TransitionsAreNearlyGiven =
    (bytes : List ℕ) (text : Text) (r : ReadModel) → IsMeant bytes text r →
    (a s : ℕ) → a < joint_actions r.model.model → s < r.model.model.states →
    IsNearlyGiven r.model.model.scales.trans (map (given_trans text) (row_cells (a ∷ s ∷ []) r.model.model.states))
    (trans_at r.model.model a s)

-- Each row of observations is nearly as it is given.
abbrev pub ObservationsAreNearlyGiven : Type 0
ObservationsAreNearlyGiven =
    (bytes : List ℕ) (text : Text) (r : ReadModel) → IsMeant bytes text r →
    (a t : ℕ) → a < joint_actions r.model.model → t < r.model.model.states →
    IsNearlyGiven r.model.model.scales.obs (map (given_obs text)
    (row_cells (a ∷ t ∷ []) (joint_observations r.model.model)))
    (obs_at r.model.model a t)

-- The row of the start is nearly as it is given.
abbrev pub StartIsNearlyGiven : Type 0
StartIsNearlyGiven =
    (bytes : List ℕ) (text : Text) (r : ReadModel) → IsMeant bytes text r →
    IsNearlyGiven r.model.model.scales.start (start_row text).cells (start_at r.model.model)

-- The rewards are as they are given.
abbrev pub RewardsAreAsGiven : Type 0
RewardsAreAsGiven =
    (bytes : List ℕ) (text : Text) (r : ReadModel) → IsMeant bytes text r →
    (a s t o : ℕ) → a < joint_actions r.model.model → s < r.model.model.states → t < r.model.model.states
    → o < joint_observations r.model.model →
    reward_at r.model.model a s t o ≡ given_rewards text (a ∷ s ∷ t ∷ o ∷ [])

-- ---- rows

-- Every row of chances sums to its scale.
abbrev pub RowsSumToTheirScales : Type 0
RowsSumToTheirScales = (bytes : List ℕ) (r : ReadModel) → meaning bytes ≡ Means r → AreRows r.model.model

-- the rows of the start, the transitions and the observations as the text gives them
abbrev pub given_rows : Text → List Row
given_rows text = start_row text ∷ trans_rows text ++ obs_rows text

-- As many rows were repaired as are given with a sum that is not their scale.
abbrev pub RepairedRowsAreCounted : Type 0
RepairedRowsAreCounted =
    (bytes : List ℕ) (text : Text) (r : ReadModel) → IsMeant bytes text r →
    r.repaired ≡ count_by (λ row. not (sum row.cells == row.scale)) (given_rows text)

-- ---- the model

-- What a file means is a model with names, each list of which names all of its kind or none.
abbrev pub MeaningsAreModels : Type 0
MeaningsAreModels = (bytes : List ℕ) (r : ReadModel) → meaning bytes ≡ Means r → IsNamedModel r.model

-- The names are names, and none stands twice in a list.
abbrev pub NamesAreNames : Type 0
NamesAreNames = (bytes : List ℕ) (r : ReadModel) → meaning bytes ≡ Means r → AreNames r.model.names

-- ---- faults

-- The first bad byte is what is wrong with a text that has one.
abbrev pub BadBytesComeFirst : Type 0
BadBytesComeFirst =
    (bytes : List ℕ) (at : ℕ) → first_bad bytes ≡ Some at → meaning bytes ≡ FaultAt (place_at bytes at) BadByte
