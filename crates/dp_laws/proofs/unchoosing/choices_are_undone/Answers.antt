use Rattle.dp_laws.proofs.ChoicesTakenBack.{choosing_undone, unchoosing_undone}
use Rattle.dp_laws.proofs.unchoosing.choices_are_undone.Goals as goal

pub returns-clause-chosen : goal.returns-clause-chosen
returns-clause-chosen c = choosing_undone

pub returns-clause-unchosen : goal.returns-clause-unchosen
returns-clause-unchosen c = unchoosing_undone
