-- The sizes of a model that is made and is within the limits.
use Rattle.std.specs.Prelude.{◌≡◌, ◌*◌, ◌≤◌, ◌^◌}
use Rattle.dp_spec.specs.JointNumbers.{product}
use Rattle.dp_writer.specs.declared.sizes.JointSizes.{JointSizes}
use Rattle.dp_writer.specs.declared.sizes.MakeSize.{MakeSize}
use Rattle.dp_writer.specs.MadeModel.{actions_made, observations_made}

-- these are the numbers of joint actions, of joint observations, and of joint actions with a state
pub record AreJointSizes (size : MakeSize) (joint : JointSizes) : Type 0 where
  pub actions : joint.actions ≡ product (actions_made size)
  pub observations : joint.observations ≡ product (observations_made size)
  pub rows : joint.rows ≡ product (actions_made size) * size.states
  pub agents_limit : size.agents ≤ 6
  pub states_limit : size.states ≤ 256
  pub actions_limit : joint.actions ≤ 256
  pub observations_limit : joint.observations ≤ 256
  pub trans_cells : joint.rows * size.states ≤ 2 ^ 22
  pub obs_cells : joint.rows * joint.observations ≤ 2 ^ 22
  pub reward_cells : joint.rows * (size.states * joint.observations) ≤ 2 ^ 28
