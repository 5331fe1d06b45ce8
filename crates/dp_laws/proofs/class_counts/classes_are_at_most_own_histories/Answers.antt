use Rattle.dp_laws.proofs.ClassCounts.{classes_within_histories}
use Rattle.dp_laws.proofs.class_counts.classes_are_at_most_own_histories.Goals as goal

pub returns : goal.returns
returns c = classes_within_histories
