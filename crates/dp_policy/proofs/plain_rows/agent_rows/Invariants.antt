use Rattle.std.proofs.Common.{◌≡◌, ◌^◌, ◌<◌, map}
use Rattle.std.specs.List.{range_with_len}
use Rattle.dp_spec.specs.PlainForm.{plain_row}
use Rattle.dp_policy.specs.TreeRows.{AreTreesAt}
use Rattle.dp_policy.specs.TreeValue.{policy_tree}
use Rattle.dp_policy.proofs.plain_rows.agent_rows.Given as goal

abbrev pub invariant-loop-stage : goal.invariant-loop-stage
invariant-loop-stage l = record {
  rows : map (λ r. r.items) l.stages.items
      ≡ map (λ t. map (plain_row l.observations l.horizon (policy_tree l.root) t)
      (range_with_len 0 (l.observations ^ t))) (range_with_len 0 l.stage);
  trees : l.stage < l.horizon → AreTreesAt l.observations (policy_tree l.root) l.stage l.trees.items;
}
