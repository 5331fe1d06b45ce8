use Rattle.dp_laws.proofs.WholeTexts.{policy_text_injective, policy_has_text}
use Rattle.dp_laws.proofs.texts.policies_have_one_text.Goals as goal

pub returns-clause-one_policy : goal.returns-clause-one_policy
returns-clause-one_policy c = policy_text_injective

pub returns-clause-some_text : goal.returns-clause-some_text
returns-clause-some_text c = policy_has_text
