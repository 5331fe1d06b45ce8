use Rattle.std.proofs.Common.{◌≡◌, ◌<◌, ℕ, suc, length, get_or, pos}
use Rattle.dp_spec.specs.Quantities.{mdp_table_in}
use Rattle.dp_mdp.proofs.build.next_row.Given as goal

abbrev pub invariant-loop-state : goal.invariant-loop-state
invariant-loop-state g l = record {
  filled : length l.next.items ≡ l.state;
  values : (s : ℕ) → s < l.state → get_or l.next.items s (pos 0)
      ≡ mdp_table_in (g.A.Arith.operations l.arith) l.model.model (suc l.rest) s;
}
