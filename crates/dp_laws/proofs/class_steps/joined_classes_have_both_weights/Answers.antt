use Rattle.dp_laws.proofs.MergedSpans.{joined_span}
use Rattle.dp_laws.proofs.class_steps.joined_classes_have_both_weights.Goals as goal

pub returns : goal.returns
returns c = joined_span
