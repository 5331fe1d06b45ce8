-- How many classes a front has.
use Rattle.std.specs.Prelude.{ℕ, ◌^◌, ◌≤◌, length}
use Rattle.dp_spec.specs.JointNumbers.{product}
use Rattle.dp_spec.specs.Model.{Model, joint_observations}
use Rattle.dp_spec.specs.Front.{AgentFront, Front, class_counts}
use Rattle.dp_spec.specs.WellFormed.{IsAgentFront, IsFront}

-- an agent of a well-formed front has at most one class for each own history of the stage
abbrev pub ClassesAreAtMostOwnHistories : Type 0
ClassesAreAtMostOwnHistories = (b n f : ℕ) (d : AgentFront) → IsAgentFront b n f d → length d.chosen ≤ n ^ f

-- a well-formed front has at most one joint class for each joint history of the stage
abbrev pub JointClassesAreAtMostJointHistories : Type 0
JointClassesAreAtMostJointHistories =
    (m : Model) (h : ℕ) (F : Front) → IsFront m h F → product (class_counts F.agents)
    ≤ joint_observations m ^ F.stage
