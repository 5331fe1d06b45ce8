use Rattle.std.proofs.Common.{◌≡◌, ◌++◌}
use Rattle.std.specs.List.{flat_map, range_with_len}
use Rattle.dp_spec.specs.SharedPolicy.{unfolded}
use Rattle.dp_cli.specs.ShownPolicies.{lines_of_agent}
use Rattle.dp_cli.proofs.shown.push_agents.Given as goal

abbrev pub invariant-loop-agent : goal.invariant-loop-agent
invariant-loop-agent l =
    l.text.items ≡ l.fn.text.items ++ flat_map (lines_of_agent l.model.names l.model.model.observations
    (unfolded l.policy.rows) l.policy.horizon) (range_with_len 0 l.agent)
