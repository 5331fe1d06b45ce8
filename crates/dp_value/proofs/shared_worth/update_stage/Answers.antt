use Rattle.std.proofs.Common.{◌≡◌, ℕ, ap, ◌∙◌, arith}
use Rattle.dp_spec.specs.Quantities.{span_sum}
use Rattle.dp_spec.specs.SharedWorth.{joint_row_count}
use Rattle.dp_value.specs.RowWeights.{row_gives}
use Rattle.dp_value.proofs.RowUpdates.{stage_all}
use Rattle.dp_value.proofs.shared_worth.update_stage.Goals as goal

pub returns : goal.returns
returns g c =
    let A = g.A.Arith.operations c.args.arith.now in
    let m = c.args.model.now.model in
    let p = c.args.policy.now.rows in
    let t = c.args.stage in
    let all : c.loop-row.row ≡ joint_row_count c.args.policy.now.rows c.args.stage = omega
    (arith, c.joint_rows-row-end.ensures.is, c.loop-row-test.false) in
    record {
      room = omega (arith, c.requires.room, c.loop-row.auto.next);
      are = λ j s lj ls. c.loop-row.invariant j s lj ls ∙ ap (λ (k : ℕ). span_sum k (row_gives A m p t j s)) all
          ∙ stage_all A m p t j s;
    }
