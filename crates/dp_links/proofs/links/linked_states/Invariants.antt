use Rattle.std.proofs.Common.{◌≡◌}
use Rattle.dp_links.specs.Links.{step_chance, those_of}
use Rattle.dp_links.proofs.links.linked_states.Given as goal

abbrev pub invariant-loop-other : goal.invariant-loop-other
invariant-loop-other l = l.states.items ≡ those_of (step_chance l.model.model l.backwards l.action l.state) l.other
