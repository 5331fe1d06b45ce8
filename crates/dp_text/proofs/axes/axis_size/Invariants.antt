use Rattle.std.proofs.Common.{map, drop}
use Rattle.dp_spec.specs.JointNumbers.{product}
use Rattle.dp_meaning.specs.NameLists.{size_of}
use Rattle.dp_meaning.specs.Statements.{axis_size}
use Rattle.dp_text.proofs.Saturating.{Saturates}
use Rattle.dp_text.proofs.axes.axis_size.Given as goal

abbrev pub invariant-loop-list : goal.invariant-loop-list
invariant-loop-list l = Saturates l.most (axis_size l.axis) l.size (product (map size_of (drop l.list-index l.axis)))
