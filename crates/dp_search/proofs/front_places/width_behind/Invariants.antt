use Rattle.std.proofs.Common.{◌≡◌, drop}
use Rattle.dp_spec.specs.Front.{class_counts}
use Rattle.dp_spec.specs.JointNumbers.{product}
use Rattle.dp_search.proofs.front_places.width_behind.Given as goal

abbrev pub invariant-loop-before : goal.invariant-loop-before
invariant-loop-before l = l.width ≡ product (drop l.before (class_counts l.front.front.agents))
