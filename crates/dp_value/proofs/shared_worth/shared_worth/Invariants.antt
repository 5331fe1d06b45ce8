use Rattle.std.proofs.Common.{◌≡◌, ◌<◌}
use Rattle.dp_spec.specs.SharedWorth.{rows_earn_in}
use Rattle.dp_value.specs.RowWeights.{AreRowWeights}
use Rattle.dp_value.proofs.shared_worth.shared_worth.Given as goal

abbrev pub invariant-loop-stage : goal.invariant-loop-stage
invariant-loop-stage g l = record {
  earned : l.total ≡ rows_earn_in (g.A.Arith.operations l.arith)
      l.model.model l.policy.rows l.policy.horizon l.stage;
  weights : l.stage < l.policy.horizon → AreRowWeights (g.A.Arith.operations l.arith)
      l.model.model l.policy.rows l.stage l.now;
}
