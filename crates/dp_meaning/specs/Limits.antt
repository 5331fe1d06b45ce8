-- The limits that a model file may pass, in the order in which they are tried.
use Rattle.std.specs.Prelude.{ℕ, ◌*◌, nat_lt, if◌then◌else◌, List, [], ◌∷◌, length, map, Option}
use Rattle.dp_model.specs.declared.limit.Limit.TheVariants as limits
use Rattle.dp_model.specs.declared.limit.TooLarge.{TooLarge}
use Rattle.dp_model.specs.Limits.{first_passed, passed_by}
use Rattle.dp_meaning.specs.declared.statement.Table.TheVariants.{Reward}
use Rattle.dp_meaning.specs.declared.text.Text.{Text}
use Rattle.dp_meaning.specs.NameLists.{size_of}
use Rattle.dp_meaning.specs.Cells.{statements_for}
use Rattle.dp_meaning.specs.Text.{states_in, joint_actions_in, joint_observations_in}
use Rattle.dp_meaning.specs.Scales.{scales_of}

-- the first product of the sizes of agents 0, 1 and so on that is more than `most`, or the product of all
abbrev pub product_past : ℕ → ℕ → List ℕ → ℕ
product_past most so_far [] = so_far
product_past most so_far (n ∷ ns) = if nat_lt most so_far then so_far else product_past most (so_far * n) ns

-- the limits in order
abbrev pub tried_limits : Text → List (Option TooLarge)
tried_limits text =
    let header = text.header in
    let s = states_in text in
    let a = joint_actions_in text in
    let o = joint_observations_in text in
    let scales = scales_of text in
    passed_by limits.Agents (size_of header.agents)
    ∷ passed_by limits.States s
    ∷ passed_by limits.JointActions (product_past 256 1 (map size_of header.actions))
    ∷ passed_by limits.JointObservations (product_past 256 1 (map size_of header.observations))
    ∷ passed_by limits.TransCells (a * s * s)
    ∷ passed_by limits.ObsCells (a * s * o)
    ∷ passed_by limits.RewardCells (a * s * s * o)
    ∷ passed_by limits.RewardLines (length (statements_for Reward text.statements))
    ∷ passed_by limits.Scale scales.start
    ∷ passed_by limits.Scale scales.trans
    ∷ passed_by limits.Scale scales.obs
    ∷ []

-- the first limit that a text passes, in the order in which they are tried, with its count
unfoldable pub passed_limit : Text → Option TooLarge
passed_limit text = first_passed (tried_limits text)
