-- The model that is made of sizes and of the words of a generator. (Own: models to try planners on.)
use Rattle.std.specs.Prelude.{ℕ, ◌*◌, ◌≤◌, List, [], ◌∷◌, Option, replicate}
use Rattle.rand_core.specs.Stream.{Stream}
use Rattle.dp_spec.specs.JointNumbers.{product}
use Rattle.dp_spec.specs.declared.scales.Scales.{Scales}
use Rattle.dp_meaning.specs.Limits.{product_past}
use Rattle.dp_model.specs.declared.limit.Limit.TheVariants as limits
use Rattle.dp_model.specs.declared.limit.TooLarge.{TooLarge}
use Rattle.dp_model.specs.Limits.{first_passed, passed_by}
use Rattle.dp_model.specs.Names.{counts_of}
use Rattle.dp_model.specs.Tables.{NamedModel, model_of_tables}
use Rattle.dp_model.specs.declared.sizes.Cells.{Cells}
use Rattle.dp_model.specs.declared.sizes.Sizes.{Sizes}
use Rattle.dp_writer.specs.declared.sizes.MakeSize.{MakeSize}
use Rattle.dp_writer.specs.Draws.{chances_drawn, left_after, rewards_drawn}

-- ---- sizes

-- each agent has as many actions, and as many observations
abbrev pub actions_made : MakeSize → List ℕ
actions_made size = replicate size.agents size.actions

abbrev pub observations_made : MakeSize → List ℕ
observations_made size = replicate size.agents size.observations

-- each size is at least 1 and at most 65,536
pub record IsMakeSize (size : MakeSize) : Type 0 where
  pub some_agent : 1 ≤ size.agents
  pub some_state : 1 ≤ size.states
  pub some_action : 1 ≤ size.actions
  pub some_observation : 1 ≤ size.observations
  pub agents : size.agents ≤ 65536
  pub states : size.states ≤ 65536
  pub actions : size.actions ≤ 65536
  pub observations : size.observations ≤ 65536

-- the limits on the cells of the tables, by the numbers of joint actions, states and joint observations
abbrev pub cell_limits : ℕ → ℕ → ℕ → List (Option TooLarge)
cell_limits a s o =
    passed_by limits.TransCells (a * s * s)
    ∷ passed_by limits.ObsCells (a * s * o)
    ∷ passed_by limits.RewardCells (a * s * s * o)
    ∷ []

-- the limits that the sizes of a model may pass, in order
abbrev pub made_limits : MakeSize → List (Option TooLarge)
made_limits size =
    passed_by limits.Agents size.agents
    ∷ passed_by limits.States size.states
    ∷ passed_by limits.JointActions (product_past 256 1 (actions_made size))
    ∷ passed_by limits.JointObservations (product_past 256 1 (observations_made size))
    ∷ cell_limits (product (actions_made size)) size.states (product (observations_made size))

-- the first of them that is passed, with its count
unfoldable pub made_passed : MakeSize → Option TooLarge
made_passed size = first_passed (made_limits size)

-- ---- the model

-- the start is uniform, the chances are over 100, rewards are whole, and there is no discount
abbrev pub scales_made : ℕ → Scales
scales_made states = record { start = states; trans = 100; obs = 100; reward = 1; discount = 1; gain = 1 }

-- each agent has its actions and its observations
abbrev pub sizes_made : MakeSize → Sizes
sizes_made size =
    record { states = size.states; actions = actions_made size; observations = observations_made size }

-- The tables of so many states, rows and joint observations, drawn one after the other: the rows of next states by
-- joint action and state; the rows of joint observations by joint action and next state; and for each joint action
-- and state the one reward of all that may follow.
unfoldable pub cells_made : Stream → ℕ → ℕ → ℕ → Cells
cells_made stream states rows seen =
    let after_trans = left_after (3 * rows) stream in
    let after_obs = left_after (3 * rows) after_trans in
    record {
      start = replicate states 1;
      trans = chances_drawn stream rows states;
      obs = chances_drawn after_trans rows seen;
      reward = rewards_drawn after_obs rows (states * seen);
    }

-- the model of these tables; all its lists of names are counts
unfoldable pub made_model : MakeSize → Stream → NamedModel
made_model size stream =
    let rows = product (actions_made size) * size.states in
    let cells = cells_made stream size.states rows (product (observations_made size)) in
    record {
      model = model_of_tables (sizes_made size) (scales_made size.states) cells;
      names = counts_of size.agents;
    }
