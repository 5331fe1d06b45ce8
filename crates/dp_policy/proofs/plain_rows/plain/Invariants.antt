use Rattle.std.proofs.Common.{◌≡◌, ◌++◌, drop, map}
use Rattle.dp_spec.specs.PlainForm.{plain_form, plain_rows_of}
use Rattle.dp_policy.specs.Trees.{joint_policy}
use Rattle.dp_policy.proofs.plain_rows.plain.Given as goal

abbrev pub invariant-loop-agent : goal.invariant-loop-agent
invariant-loop-agent l =
    map (λ s. map (λ r. r.items) s.items) l.rows.items
    ++ plain_rows_of (drop l.agent l.model.model.observations) l.horizon (drop l.agent (joint_policy l.policy))
    ≡ plain_form l.model.model l.horizon (joint_policy l.policy)
