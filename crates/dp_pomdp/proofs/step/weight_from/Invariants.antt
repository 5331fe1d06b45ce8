use Rattle.std.proofs.Common.{◌≡◌}
use Rattle.dp_spec.specs.Quantities.{span_sum}
use Rattle.dp_links.proofs.LinkSums.{at_item}
use Rattle.dp_pomdp.specs.Looking.{updated_part}
use Rattle.dp_pomdp.proofs.step.weight_from.Given as goal

abbrev pub invariant-loop-place : goal.invariant-loop-place
invariant-loop-place g l = l.total ≡ span_sum l.place (at_item (updated_part (g.A.Arith.operations l.arith)
    l.model.model l.weights l.action l.seen l.to) l.states)
