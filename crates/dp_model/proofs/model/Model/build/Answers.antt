use Rattle.dp_spec.specs.Model.{joint_actions, joint_observations}
use Rattle.dp_model.specs.Tables.{model_of_tables}
use Rattle.dp_spec.proofs.ModelLaws.{some_joint_observation}
use Rattle.dp_model.proofs.model.Model.build.Goals as goal

pub new-requires-clause-some : goal.new-requires-clause-some
unfolding joint_actions
new-requires-clause-some c = c.requires.model.sizes.some_action

pub new-requires-clause-limit : goal.new-requires-clause-limit
unfolding joint_actions
new-requires-clause-limit c = c.requires.model.sizes.joint_actions_limit

pub new-requires-2-clause-some : goal.new-requires-2-clause-some
unfolding joint_observations
new-requires-2-clause-some c = some_joint_observation (model_of_tables c.args.sizes c.args.scales c.args.cells)
    c.requires.model

pub new-requires-2-clause-limit : goal.new-requires-2-clause-limit
unfolding joint_observations
new-requires-2-clause-limit c = c.requires.model.sizes.joint_observations_limit
