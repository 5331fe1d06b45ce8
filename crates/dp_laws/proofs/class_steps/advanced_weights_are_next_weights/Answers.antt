use Rattle.dp_laws.proofs.AdvancedSpans.{pair_weight_in}
use Rattle.dp_laws.proofs.class_steps.advanced_weights_are_next_weights.Goals as goal

pub returns : goal.returns
returns c = pair_weight_in
