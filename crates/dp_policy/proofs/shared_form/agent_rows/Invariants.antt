use Rattle.std.proofs.Common.{[], get_or, map}
use Rattle.dp_policy.proofs.ReducedStages.{AreReducedUpTo}
use Rattle.dp_policy.proofs.shared_form.agent_rows.Given as goal

abbrev pub invariant-loop-stage : goal.invariant-loop-stage
invariant-loop-stage l =
    AreReducedUpTo (get_or l.policy.rows l.agent []) l.policy.horizon l.stage
    (map (λ r. r.items) l.stages.items) l.reached.items
