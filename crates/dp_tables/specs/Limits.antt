-- The limits on a model file in groups, each of which is tried when those before it are kept.
use Rattle.std.specs.Prelude.{ℕ, ◌*◌, List, [], ◌∷◌, map, Option}
use Rattle.dp_model.specs.declared.limit.Limit.TheVariants as limits
use Rattle.dp_model.specs.declared.limit.TooLarge.{TooLarge}
use Rattle.dp_meaning.specs.declared.text.Text.{Text}
use Rattle.dp_meaning.specs.NameLists.{size_of}
use Rattle.dp_meaning.specs.Text.{states_in}
use Rattle.dp_model.specs.Limits.{passed_by}
use Rattle.dp_meaning.specs.Limits.{product_past}

-- the limits on the sizes
abbrev pub size_limits : Text → List (Option TooLarge)
size_limits text =
    passed_by limits.Agents (size_of text.header.agents)
    ∷ passed_by limits.States (states_in text)
    ∷ passed_by limits.JointActions (product_past 256 1 (map size_of text.header.actions))
    ∷ passed_by limits.JointObservations (product_past 256 1 (map size_of text.header.observations))
    ∷ []

-- the limits on the cells of the tables, by the numbers of joint actions, states and joint observations
abbrev pub cell_limits : ℕ → ℕ → ℕ → List (Option TooLarge)
cell_limits a s o =
    passed_by limits.TransCells (a * s * s)
    ∷ passed_by limits.ObsCells (a * s * o)
    ∷ passed_by limits.RewardCells (a * s * s * o)
    ∷ []

-- the limits on the scales of the start, of the transitions and of the observations
abbrev pub scale_limits : ℕ → ℕ → ℕ → List (Option TooLarge)
scale_limits start trans obs =
    passed_by limits.Scale start
    ∷ passed_by limits.Scale trans
    ∷ passed_by limits.Scale obs
    ∷ []
