use Rattle.dp_policy.proofs.PolicySays.{each_policy_text}
use Rattle.dp_policy.proofs.policy_text.policy_texts_have_one_answer.Goals as goal

pub returns : goal.returns
returns c = each_policy_text
