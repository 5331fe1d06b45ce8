use Rattle.std.proofs.Common.{◌∙◌}
use Rattle.dp_policy.specs.Trees.{joint_policy}
use Rattle.dp_value.proofs.Modes.{sums_hold_the_policy_value}
use Rattle.dp_value.proofs.tree_room.worth.Goals as goal

pub returns-clause-value : goal.returns-clause-value
returns-clause-value c =
    sums_hold_the_policy_value c.args.model.now.model c.invariant.ensures.model c.args.room.now.fit.exact
    c.args.policy.now.horizon (joint_policy c.args.policy.now)
    c.worth_of.result (c.worth_of.ensures.ends ∙ c.sums_in_mode.ensures.sums)
