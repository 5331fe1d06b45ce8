use Rattle.std.proofs.Common.{ℕ, [], add-one, get_or, refl, arith}
use Rattle.dp_spec.specs.SharedPolicy.{row_at}
use Rattle.dp_policy.proofs.PlainStages.{counted_rows}
use Rattle.dp_policy.proofs.shared.Shared.goes_on_plainly.Goals as goal

pub loop-row-preserved : goal.loop-row-preserved
loop-row-preserved c =
    let S = get_or c.args.self.now.rows c.args.agent [] in
    let k = c.loop-row.row in
    rw add-one (counted_rows c.args.observations k (λ (r : ℕ). (row_at S c.args.stage r).next)
    c.nexts_of-nexts.result.now c.nexts_of-nexts.ensures.is
    (c.requires.nexts k (omega (arith, c.rows-row-end.ensures.is, c.loop-row-test.true)))
    (c.if-not-are_counted_from.ensures.0 refl) c.loop-row.invariant)
