-- Choices that are the last of their stage. (Own.)
use Rattle.std.specs.Prelude.{◌≡◌, ℕ, suc, ◌<◌, ◌≤◌, true, length}
use Rattle.dp_spec.specs.Wide.{unassigned_count}
use Rattle.dp_cluster.specs.KeptFronts.{KeptFront}

-- In exact mode, at a stage that another one follows, one class of two agents or more has no action, and a look of
-- one step more is possible. After a choice for that class and the advance the bound is that of the deeper look
-- before the advance, and the front is neither full nor wide.
pub record IsLastStep (look : ℕ) (k : KeptFront) : Type 0 where
  pub exact : k.is_exact ≡ true
  pub last : unassigned_count k.front.agents ≡ 1
  pub step : suc k.front.stage < k.horizon
  pub agents : 2 ≤ length k.front.agents
  pub deeper : look < 16
