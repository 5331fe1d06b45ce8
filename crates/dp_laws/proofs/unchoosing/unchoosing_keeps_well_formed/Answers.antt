use Rattle.dp_laws.proofs.ChoicesTakenBack.{chosen_has_action, unchosen_is_front, unchosen_is_unassigned}
use Rattle.dp_laws.proofs.unchoosing.unchoosing_keeps_well_formed.Goals as goal

pub returns-clause-unassigned : goal.returns-clause-unassigned
returns-clause-unassigned c = unchosen_is_unassigned

pub returns-clause-assigned : goal.returns-clause-assigned
returns-clause-assigned c = chosen_has_action

pub returns-clause-front : goal.returns-clause-front
returns-clause-front c = unchosen_is_front
