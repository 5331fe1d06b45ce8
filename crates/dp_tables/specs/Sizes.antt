-- The sizes of a text that is within the limits on them.
use Rattle.std.specs.Prelude.{◌≡◌, ◌≤◌}
use Rattle.dp_meaning.specs.declared.text.Text.{Text}
use Rattle.dp_meaning.specs.Text.{states_in, joint_actions_in, joint_observations_in}
use Rattle.dp_tables.specs.declared.sizes.JointSizes.{JointSizes}

-- these are the sizes that the text gives, each at most 256
pub record AreSizesOf (text : Text) (sizes : JointSizes) : Type 0 where
  pub states : sizes.states ≡ states_in text
  pub joint_actions : sizes.joint_actions ≡ joint_actions_in text
  pub joint_observations : sizes.joint_observations ≡ joint_observations_in text
  pub states_limit : sizes.states ≤ 256
  pub joint_actions_limit : sizes.joint_actions ≤ 256
  pub joint_observations_limit : sizes.joint_observations ≤ 256
