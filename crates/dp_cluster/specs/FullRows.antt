-- The rows of the stages behind a front: one for each class, which goes on to the classes that it leads to. (Own.)
use Rattle.std.specs.Prelude.{ℕ, ◌+◌, ◌*◌, ◌<◌, ◌≡◌, List, [], ◌∷◌, map, length, get_or}
use Rattle.std.specs.List.{range_with_len}
use Rattle.dp_spec.specs.FullPolicy.{tree_doing}
use Rattle.dp_spec.specs.Model.{Model}
use Rattle.dp_spec.specs.SharedPolicy.{AgentRows, AreAgentRows, PolicyRow, next_count, unfolded_tree}
use Rattle.dp_spec.specs.Steps.{root_agent}
use Rattle.dp_cluster.specs.declared.part.PastStage.{PastStage}
use Rattle.dp_cluster.specs.AgentParts.{class_led_to}
use Rattle.dp_cluster.specs.KeptFronts.{KeptFront}
use Rattle.dp_cluster.specs.PastClasses.{HasRowEachClass, no_classes}

-- the row of class c of a stage, for an agent with n observations, which goes on after so many of them
abbrev pub class_row : ℕ → ℕ → PastStage → ℕ → PolicyRow
class_row n nexts s c = record {
  action = get_or s.actions.items c 0;
  next = map (λ o. class_led_to s (c * n + o)) (range_with_len 0 nexts);
}

-- the rows of a stage, class by class
abbrev pub stage_rows : ℕ → ℕ → PastStage → List PolicyRow
stage_rows n nexts s = map (class_row n nexts s) (range_with_len 0 (length s.actions.items))

-- the rows of stages, the latest first, before those of the stages after them
abbrev pub rows_before : ℕ → List PastStage → AgentRows → AgentRows
rows_before n [] after = after
rows_before n (s ∷ ss) after = rows_before n ss (stage_rows n (next_count n after) s ∷ after)

-- These rows are those of agent i in the policy that a full front fixes: rows over the horizon, which mean the tree
-- of what is fixed, one for each class.
pub record AreFullRows (m : Model) (k : KeptFront) (i : ℕ) (rows : AgentRows) : Type 0 where
  pub agent : AreAgentRows (get_or m.actions i 0) (get_or m.observations i 0) k.horizon rows
  pub tree : unfolded_tree rows 0 ≡ tree_doing (get_or m.observations i 0)
      (λ t x. get_or (get_or (get_or k.front.agents i root_agent).fixed t []) x 0) k.front.stage
  pub classes : (t : ℕ) → t < k.horizon
      → HasRowEachClass (get_or m.observations i 0) rows t (get_or (get_or k.past i []) t no_classes)
