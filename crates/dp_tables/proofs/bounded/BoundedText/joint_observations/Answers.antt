use Rattle.std.proofs.Common.{ap, ◌∙◌}
use Rattle.dp_meaning.specs.Text.{joint_observations_in}
use Rattle.dp_tables.proofs.bounded.BoundedText.joint_observations.Goals as goal

pub returns-clause-is : goal.returns-clause-is
returns-clause-is c =
    c.self.invariant.are_sizes.joint_observations ∙ ap (λ v. joint_observations_in v.text) c.self.view_is
