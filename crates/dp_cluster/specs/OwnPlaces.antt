-- Where the weights of an agent's classes stand in a front.
use Rattle.std.specs.Prelude.{ℕ, ◌*◌, ◌≡◌, take}
use Rattle.dp_spec.specs.Front.{class_counts}
use Rattle.dp_spec.specs.JointNumbers.{product}
use Rattle.dp_cluster.specs.declared.runs.Places.{Places}
use Rattle.dp_cluster.specs.Joins.{behind, own_count}
use Rattle.dp_cluster.specs.KeptFronts.{KeptFront}
use Rattle.dp_cluster.specs.OwnWeights.{AreOwnRuns}

-- a row for each joint class of the agents before agent i, and in a run a weight for each joint class of the agents
-- behind it and state
pub record ArePlacesOf (k : KeptFront) (i : ℕ) (ps : Places) : Type 0 where
  pub rows : ps.rows ≡ product (take i (class_counts k.front.agents))
  pub classes : ps.classes ≡ own_count k i
  pub width : ps.width ≡ behind k i * k.states
  pub runs : AreOwnRuns k.weights ps.rows ps.classes ps.width
