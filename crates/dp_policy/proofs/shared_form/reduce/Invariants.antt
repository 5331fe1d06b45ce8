use Rattle.std.proofs.Common.{◌≡◌, ◌++◌, drop, map}
use Rattle.dp_spec.specs.SharedForm.{shared_form, shared_rows_of}
use Rattle.dp_spec.specs.SharedPolicy.{unfolded}
use Rattle.dp_policy.proofs.shared_form.reduce.Given as goal

abbrev pub invariant-loop-agent : goal.invariant-loop-agent
invariant-loop-agent l =
    map (λ s. map (λ r. r.items) s.items) l.rows.items
    ++ shared_rows_of (drop l.agent l.model.model.observations) l.horizon
    (drop l.agent (unfolded l.policy.rows))
    ≡ shared_form l.model.model l.horizon (unfolded l.policy.rows)
