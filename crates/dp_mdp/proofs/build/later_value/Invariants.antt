use Rattle.std.proofs.Common.{◌≡◌}
use Rattle.dp_spec.specs.Model.{trans_at}
use Rattle.dp_spec.specs.Quantities.{mdp_table_in}
use Rattle.dp_base.specs.Sums.{int_sum}
use Rattle.dp_mdp.proofs.build.later_value.Given as goal

abbrev pub invariant-loop-next : goal.invariant-loop-next
invariant-loop-next g l = l.total ≡ int_sum l.next (λ t. (g.A.Arith.operations l.arith).carry
    (mdp_table_in (g.A.Arith.operations l.arith) l.model.model l.rest t)
    (trans_at l.model.model l.action l.state t))
