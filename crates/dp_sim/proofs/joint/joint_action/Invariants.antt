use Rattle.std.proofs.Common.{◌≡◌, ℕ, ◌<◌, List, get_or, length}
use Rattle.dp_spec.specs.PolicyTree.{PolicyTree, root_action}
use Rattle.dp_policy.specs.SharedRows.{remaining_after}
use Rattle.dp_policy.specs.Trees.{tree_of}
use Rattle.dp_sim.specs.Acting.{AnswerPolicy}
use Rattle.dp_sim.specs.Along.{own_history}
use Rattle.dp_sim.proofs.joint.joint_action.Given as goal

abbrev pub invariant-loop-agent : goal.invariant-loop-agent
invariant-loop-agent g l = record {
  all : length l.actions ≡ 6;
  are : (qs : List PolicyTree) → AnswerPolicy g.F.Fn l.model.model (length l.fn.history) l.actors qs → (i : ℕ)
      → i < l.agent
      → get_or l.actions i 0 ≡ root_action (remaining_after (tree_of qs i) (own_history l.model.model i l.past));
}
