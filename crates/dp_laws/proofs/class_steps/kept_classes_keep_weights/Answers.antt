use Rattle.dp_laws.proofs.MergedSpans.{kept_span}
use Rattle.dp_laws.proofs.class_steps.kept_classes_keep_weights.Goals as goal

pub returns : goal.returns
returns c = kept_span
