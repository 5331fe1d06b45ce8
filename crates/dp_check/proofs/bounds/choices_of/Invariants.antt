use Rattle.dp_check.proofs.Choices.{IsReading}
use Rattle.dp_check.proofs.bounds.choices_of.Given as goal

abbrev pub invariant-loop-agent : goal.invariant-loop-agent
invariant-loop-agent l = IsReading l.front.front.agents l.class l.agent l.left l.rest l.choices
