use Rattle.std.proofs.Common.{◌≡◌, drop}
use Rattle.dp_spec.specs.Bound.{all_agree}
use Rattle.dp_spec.specs.Front.{class_counts}
use Rattle.dp_spec.specs.JointNumbers.{parts_of}
use Rattle.dp_check.proofs.bounds.agrees.Given as goal

abbrev pub invariant-loop-agent : goal.invariant-loop-agent
invariant-loop-agent l =
    all_agree (drop l.agent l.front.front.agents) (drop l.agent
    (parts_of (class_counts l.front.front.agents) l.class))
    (drop l.agent (parts_of l.m.model.actions l.action))
    ≡ all_agree l.front.front.agents (parts_of (class_counts l.front.front.agents) l.class)
    (parts_of l.m.model.actions l.action)
