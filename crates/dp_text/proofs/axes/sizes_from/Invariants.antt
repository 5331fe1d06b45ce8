use Rattle.std.proofs.Common.{map, drop}
use Rattle.dp_spec.specs.JointNumbers.{product}
use Rattle.dp_meaning.specs.Statements.{axes_of, axis_size}
use Rattle.dp_text.proofs.Saturating.{Saturates}
use Rattle.dp_text.proofs.axes.sizes_from.Given as goal

abbrev pub invariant-loop-place : goal.invariant-loop-place
invariant-loop-place l =
    Saturates l.most (product (map axis_size (drop l.first (axes_of l.header l.table)))) l.size
    (product (map axis_size (drop l.place (axes_of l.header l.table))))
