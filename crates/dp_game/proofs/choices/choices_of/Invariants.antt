use Rattle.std.proofs.Common.{◌≡◌, map, take}
use Rattle.dp_spec.specs.Front.{AgentFront}
use Rattle.dp_game.proofs.choices.choices_of.Given as goal

abbrev pub invariant-loop-agent : goal.invariant-loop-agent
invariant-loop-agent l = l.choices.items ≡ map (λ (d : AgentFront). d.chosen)
    (take l.agent l.front.front.agents)
