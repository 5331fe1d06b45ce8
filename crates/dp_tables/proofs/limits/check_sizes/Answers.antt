use Rattle.std.proofs.Common.{ap, ◌∙◌}
use Rattle.dp_meaning.specs.Statements.{axis_size}
use Rattle.dp_tables.proofs.limits.check_sizes.Goals as goal

pub returns-clause-sizes : goal.returns-clause-sizes
returns-clause-sizes c = record {
  states = c.in_ok-states.ensures.size ∙ c.from-2.ensures ∙ c.size-2.ensures;
  joint_actions = c.in_ok-joint_actions.ensures.size ∙ ap axis_size c.as_slice.ensures;
  joint_observations = c.in_ok-joint_observations.ensures.size ∙ ap axis_size c.as_slice-2.ensures;
  states_limit = c.in_ok-states.ensures.limit;
  joint_actions_limit = c.in_ok-joint_actions.ensures.limit;
  joint_observations_limit = c.in_ok-joint_observations.ensures.limit;
}
