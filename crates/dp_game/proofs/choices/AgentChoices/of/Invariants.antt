use Rattle.std.proofs.Common.{◌≡◌, take, get_or}
use Rattle.dp_spec.specs.Steps.{root_agent}
use Rattle.dp_game.proofs.choices.AgentChoices.of.Given as goal

abbrev pub invariant-loop-class : goal.invariant-loop-class
invariant-loop-class l = l.classes.items ≡ take l.class (get_or l.front.front.agents l.agent root_agent).chosen
