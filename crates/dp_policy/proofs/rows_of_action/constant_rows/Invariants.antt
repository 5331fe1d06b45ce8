use Rattle.std.proofs.Common.{◌≡◌, ◌++◌, drop, map}
use Rattle.dp_spec.specs.ConstantRows.{constant_rows, constant_rows_of}
use Rattle.dp_spec.specs.JointNumbers.{parts_of}
use Rattle.dp_policy.proofs.rows_of_action.constant_rows.Given as goal

abbrev pub invariant-loop-agent : goal.invariant-loop-agent
invariant-loop-agent l =
    map (λ s. map (λ r. r.items) s.items) l.rows.items ++ constant_rows_of
    (drop l.agent l.model.model.observations) l.horizon (drop l.agent (parts_of l.model.model.actions l.a))
    ≡ constant_rows l.model.model l.horizon l.a
