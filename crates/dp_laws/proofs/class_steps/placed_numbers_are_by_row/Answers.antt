use Rattle.dp_laws.proofs.MergedSpans.{placed_at}
use Rattle.dp_laws.proofs.class_steps.placed_numbers_are_by_row.Goals as goal

pub returns : goal.returns
returns c = placed_at
