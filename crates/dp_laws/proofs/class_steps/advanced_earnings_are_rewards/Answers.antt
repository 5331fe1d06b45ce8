use Rattle.dp_laws.proofs.AdvancedSpans.{advanced_earned_in}
use Rattle.dp_laws.proofs.class_steps.advanced_earnings_are_rewards.Goals as goal

pub returns : goal.returns
returns c = advanced_earned_in
