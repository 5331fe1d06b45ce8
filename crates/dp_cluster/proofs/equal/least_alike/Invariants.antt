use Rattle.std.proofs.Common.{◌≡◌, ◌++◌, List, length}
use Rattle.dp_cluster.specs.EqualClasses.{IsFoundFrom, IsLaterOf}
use Rattle.dp_cluster.specs.declared.equal.OwnVector.{OwnVector}
use Rattle.dp_cluster.proofs.equal.least_alike.Given as goal

-- what was taken from the end is known
abbrev pub invariant-loop-vector : goal.invariant-loop-vector
invariant-loop-vector l = record {
  split : (after : List OwnVector) × (l.fn.vectors.items ≡ l.rest.items ++ after);
  later : IsLaterOf l.fn.vectors.items (length l.rest.items) l.later;
  found : IsFoundFrom l.fn.vectors.items (length l.rest.items) l.found;
}

abbrev pub decreases-loop-vector : goal.decreases-loop-vector
decreases-loop-vector l = length l.rest.items
