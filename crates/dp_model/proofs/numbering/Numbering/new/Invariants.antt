use Rattle.dp_model.specs.Parts.{AreSteps}
use Rattle.dp_model.proofs.numbering.Numbering.new.Given as goal

abbrev pub invariant-loop-agent : goal.invariant-loop-agent
invariant-loop-agent l = AreSteps l.sizes l.agent l.count l.steps

abbrev pub decreases-loop-agent : goal.decreases-loop-agent
decreases-loop-agent l = l.agent
