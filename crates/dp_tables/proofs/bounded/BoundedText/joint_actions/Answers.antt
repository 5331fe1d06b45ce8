use Rattle.std.proofs.Common.{ap, ◌∙◌}
use Rattle.dp_meaning.specs.Text.{joint_actions_in}
use Rattle.dp_tables.proofs.bounded.BoundedText.joint_actions.Goals as goal

pub returns-clause-is : goal.returns-clause-is
returns-clause-is c = c.self.invariant.are_sizes.joint_actions ∙ ap (λ v. joint_actions_in v.text) c.self.view_is
