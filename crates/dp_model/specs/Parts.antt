-- Joint numbers and their parts.
use Rattle.std.specs.Prelude.{ℕ, suc, ◌<◌, ◌≤◌, ◌≡◌, List, length, drop, slice_index}
use Rattle.dp_spec.specs.JointNumbers.{parts_of, product}

-- one part for each agent, below the agent's number
pub record AreParts (ns ps : List ℕ) : Type 0 where
  pub alike : length ps ≡ length ns
  pub below : (i : ℕ) → i < length ns → slice_index ps i < slice_index ns i

-- agent i's part of the joint number x
abbrev pub part_of : List ℕ → ℕ → ℕ → ℕ
part_of ns x i = slice_index (parts_of ns x) i

-- for the agents from `agent` on: count is how many joint numbers they have, and each one's step how many those
-- behind it have
pub record AreSteps (ns : List ℕ) (agent count : ℕ) (steps : List ℕ) : Type 0 where
  pub within : agent ≤ length ns
  pub room : length ns ≤ length steps
  pub counted : count ≡ product (drop agent ns)
  pub stepped : (i : ℕ) → agent ≤ i → i < length ns → slice_index steps i ≡ product (drop (suc i) ns)

-- the same for all agents, and the numbers are within the limits
pub record IsNumbering (ns : List ℕ) (count : ℕ) (steps : List ℕ) : Type 0 where
  pub agents : length ns ≤ 6
  pub some : 0 < product ns
  pub limit : product ns ≤ 256
  pub counts : AreSteps ns 0 count steps
