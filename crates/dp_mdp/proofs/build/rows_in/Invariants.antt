use Rattle.std.proofs.Common.{◌≡◌, ◌<◌, ℕ, suc, length, get_or, []}
use Rattle.dp_mdp.specs.TableRows.{IsRow}
use Rattle.dp_mdp.proofs.build.rows_in.Given as goal

abbrev pub invariant-loop-rest : goal.invariant-loop-rest
invariant-loop-rest g l = record {
  filled : length l.rows.items ≡ suc l.rest;
  each : (r : ℕ) → r < suc l.rest → IsRow (g.A.Arith.operations l.arith) l.model.model r
      (get_or l.rows.items r []);
}
