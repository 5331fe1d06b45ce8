use Rattle.std.proofs.Common.{◌≡◌, ℕ, ap, ◌∙◌, arith}
use Rattle.dp_spec.specs.SharedWorth.{rows_earn_in}
use Rattle.dp_value.proofs.RowUpdates.{worth_is}
use Rattle.dp_value.proofs.shared_worth.shared_worth.Goals as goal

pub returns : goal.returns
returns g c =
    let A = g.A.Arith.operations c.args.arith.now in
    let m = c.args.model.now.model in
    let p = c.args.policy.now.rows in
    let h = c.args.policy.now.horizon in
    let all : c.loop-stage.stage ≡ c.args.policy.now.horizon = omega
    (arith, c.horizon-stage-end.ensures.is, c.loop-stage-test.false) in
    c.loop-stage.invariant.earned ∙ ap (λ (k : ℕ). rows_earn_in A m p h k) all ∙ worth_is A m h p
