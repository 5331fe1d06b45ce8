use Rattle.std.proofs.Common.{ap, ◌∙◌}
use Rattle.dp_meaning.specs.Text.{states_in}
use Rattle.dp_tables.proofs.bounded.BoundedText.states.Goals as goal

pub returns-clause-is : goal.returns-clause-is
returns-clause-is c = c.self.invariant.are_sizes.states ∙ ap (λ v. states_in v.text) c.self.view_is
