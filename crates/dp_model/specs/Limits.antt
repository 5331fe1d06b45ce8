-- The limits, as printed lines name them, and when one is passed.
use Rattle.std.specs.Prelude.{ℕ, ◌^◌, nat_lt, if◌then◌else◌, List, [], ◌∷◌, Option, Some, None, codes}
use Rattle.dp_model.specs.declared.limit.Limit.{Limit}
use Rattle.dp_model.specs.declared.limit.Limit.TheVariants as limits
use Rattle.dp_model.specs.declared.limit.TooLarge.{TooLarge}

-- the word of a limit in a printed line
abbrev pub limit_word : Limit → List ℕ
limit_word limits.Agents = codes "agents"
limit_word limits.States = codes "states"
limit_word limits.JointActions = codes "joint-actions"
limit_word limits.JointObservations = codes "joint-observations"
limit_word limits.TransCells = codes "trans-cells"
limit_word limits.ObsCells = codes "obs-cells"
limit_word limits.RewardCells = codes "reward-cells"
limit_word limits.RewardLines = codes "reward-lines"
limit_word limits.Scale = codes "scale"
limit_word limits.Horizon = codes "horizon"
limit_word limits.OwnHistories = codes "own-histories"
limit_word limits.StageCells = codes "stage-cells"
limit_word limits.GameCells = codes "game-cells"
limit_word limits.Nodes = codes "nodes"
limit_word limits.TreeNodes = codes "tree-nodes"
limit_word limits.PolicyCells = codes "policy-cells"
limit_word limits.Depth = codes "depth"
limit_word limits.ModelBytes = codes "model-bytes"
limit_word limits.FileBytes = codes "file-bytes"
limit_word limits.TextBytes = codes "text-bytes"

-- the greatest count that a limit allows
abbrev pub greatest_allowed : Limit → ℕ
greatest_allowed limits.Agents = 6
greatest_allowed limits.States = 256
greatest_allowed limits.JointActions = 256
greatest_allowed limits.JointObservations = 256
greatest_allowed limits.TransCells = 2 ^ 22
greatest_allowed limits.ObsCells = 2 ^ 22
greatest_allowed limits.RewardCells = 2 ^ 28
greatest_allowed limits.RewardLines = 65536
greatest_allowed limits.Scale = 2 ^ 62
greatest_allowed limits.Horizon = 16
greatest_allowed limits.OwnHistories = 2048
greatest_allowed limits.StageCells = 2 ^ 22
greatest_allowed limits.GameCells = 2 ^ 24
greatest_allowed limits.Nodes = 1000000
greatest_allowed limits.TreeNodes = 2 ^ 22
greatest_allowed limits.PolicyCells = 2 ^ 22
greatest_allowed limits.Depth = 2048
greatest_allowed limits.ModelBytes = 2 ^ 26
greatest_allowed limits.FileBytes = 2 ^ 28
greatest_allowed limits.TextBytes = 2 ^ 28

-- a limit is passed where the count is more than it allows
abbrev pub passed_by : Limit → ℕ → Option TooLarge
passed_by what count = if nat_lt (greatest_allowed what) count then Some
    (record { what = what; count = count }) else None

-- the first of the limits, in their order, that is passed
abbrev pub first_passed : List (Option TooLarge) → Option TooLarge
first_passed [] = None
first_passed (Some passed ∷ others) = Some passed
first_passed (None ∷ others) = first_passed others
