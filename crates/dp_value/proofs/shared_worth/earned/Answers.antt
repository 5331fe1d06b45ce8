use Rattle.std.proofs.Common.{◌≡◌, ℕ, suc, ◌-◌, ◌^◌, ◌<◌, add-one, sym, ap, subst, ◌∙◌, arith}
use Rattle.dp_spec.specs.declared.span.Span.{Span}
use Rattle.dp_spec.specs.Arithmetic.{span_add}
use Rattle.dp_spec.specs.Calls.{size}
use Rattle.dp_spec.specs.Quantities.{span_sum, weighted_reward_in}
use Rattle.dp_spec.specs.SharedWorth.{joint_row_action, joint_row_count}
use Rattle.dp_value.specs.WeightUpdates.{weights_of}
use Rattle.dp_value.specs.RowWeights.{weight_in}
use Rattle.dp_value.proofs.RowUpdates.{earn_all, earn_all_room, earn_room, row_reward, row_rewardable, rows_reward}
use Rattle.dp_value.proofs.shared_worth.earned.Goals as goal

pub linked_reward-reward-requires-clause-sizes : goal.linked_reward-reward-requires-clause-sizes
linked_reward-reward-requires-clause-sizes g c =
    let A = g.A.Arith.operations c.args.arith.now in
    let m = c.args.model.now.model in
    let p = c.args.policy.now.rows in
    let h = c.args.policy.now.horizon in
    let t = c.args.stage in
    let r = c.horizon.result - c.args.stage - 1 in
    let e : c.horizon.result - c.args.stage - 1 ≡ c.args.policy.now.horizon - suc c.args.stage = omega
    (arith, c.horizon.ensures.is) in
    let j = c.loop-row.row in
    let lj : c.loop-row.row < joint_row_count c.args.policy.now.rows c.args.stage = omega
    (arith, c.joint_rows-row-end.ensures.is, c.loop-row-test.true) in
    let same = subst (λ (S : ℕ). (s : ℕ) → s < S → weights_of c.weights_at-weights.result.now s
    ≡ weight_in S c.args.now.now c.loop-row.row s) c.states.ensures.is c.weights_at-weights.ensures.are in
    row_rewardable A (g.A.Arith.calls c.args.arith.now) m h p c.requires.sizes t c.requires.stage c.args.now.now
    c.requires.weights j lj c.weights_at-weights.result.now same r
    (omega (arith, c.horizon.ensures.is, c.requires.stage))

pub add_spans-total-requires : goal.add_spans-total-requires
add_spans-total-requires g c =
    let A = g.A.Arith.operations c.args.arith.now in
    let m = c.args.model.now.model in
    let p = c.args.policy.now.rows in
    let h = c.args.policy.now.horizon in
    let t = c.args.stage in
    let r = c.horizon.result - c.args.stage - 1 in
    let e : c.horizon.result - c.args.stage - 1 ≡ c.args.policy.now.horizon - suc c.args.stage = omega
    (arith, c.horizon.ensures.is) in
    let j = c.loop-row.row in
    let lj : c.loop-row.row < joint_row_count c.args.policy.now.rows c.args.stage = omega
    (arith, c.joint_rows-row-end.ensures.is, c.loop-row-test.true) in
    let same = subst (λ (S : ℕ). (s : ℕ) → s < S → weights_of c.weights_at-weights.result.now s
    ≡ weight_in S c.args.now.now c.loop-row.row s) c.states.ensures.is c.weights_at-weights.ensures.are in
    let reward = c.linked_reward-reward.ensures ∙ ap (λ (a : ℕ). weighted_reward_in A m r
    (weights_of c.weights_at-weights.result.now) a) c.action_of.ensures.is
    ∙ row_reward A (g.A.Arith.calls c.args.arith.now) m h p c.requires.sizes t c.requires.stage c.args.now.now
    c.requires.weights j lj c.weights_at-weights.result.now same r (joint_row_action m p t j) in
    let step : span_add c.loop-row.total c.linked_reward-reward.result
    ≡ span_sum (suc c.loop-row.row) (rows_reward A m p t r) =
    (λ i. span_add (c.loop-row.invariant i) (reward i)) in
    record {
      room = subst (λ (w : Span). size w < 2 ^ 127) (sym step)
          (earn_room A (g.A.Arith.calls c.args.arith.now) m h p c.requires.sizes t c.requires.stage
          (suc c.loop-row.row) r e lj);
    }

pub loop-row-preserved : goal.loop-row-preserved
loop-row-preserved g c =
    let A = g.A.Arith.operations c.args.arith.now in
    let m = c.args.model.now.model in
    let p = c.args.policy.now.rows in
    let h = c.args.policy.now.horizon in
    let t = c.args.stage in
    let r = c.horizon.result - c.args.stage - 1 in
    let e : c.horizon.result - c.args.stage - 1 ≡ c.args.policy.now.horizon - suc c.args.stage = omega
    (arith, c.horizon.ensures.is) in
    let j = c.loop-row.row in
    let lj : c.loop-row.row < joint_row_count c.args.policy.now.rows c.args.stage = omega
    (arith, c.joint_rows-row-end.ensures.is, c.loop-row-test.true) in
    let same = subst (λ (S : ℕ). (s : ℕ) → s < S → weights_of c.weights_at-weights.result.now s
    ≡ weight_in S c.args.now.now c.loop-row.row s) c.states.ensures.is c.weights_at-weights.ensures.are in
    let reward = c.linked_reward-reward.ensures ∙ ap (λ (a : ℕ). weighted_reward_in A m r
    (weights_of c.weights_at-weights.result.now) a) c.action_of.ensures.is
    ∙ row_reward A (g.A.Arith.calls c.args.arith.now) m h p c.requires.sizes t c.requires.stage c.args.now.now
    c.requires.weights j lj c.weights_at-weights.result.now same r (joint_row_action m p t j) in
    let step : span_add c.loop-row.total c.linked_reward-reward.result
    ≡ span_sum (suc c.loop-row.row) (rows_reward A m p t r) =
    (λ i. span_add (c.loop-row.invariant i) (reward i)) in
    c.add_spans-total.ensures ∙ step ∙ ap (λ (k : ℕ). span_sum k (rows_reward A m p t r))
    (sym (add-one c.loop-row.row))

pub add_spans-requires : goal.add_spans-requires
add_spans-requires g c =
    let A = g.A.Arith.operations c.args.arith.now in
    let m = c.args.model.now.model in
    let p = c.args.policy.now.rows in
    let h = c.args.policy.now.horizon in
    let t = c.args.stage in
    let r = c.horizon.result - c.args.stage - 1 in
    let e : c.horizon.result - c.args.stage - 1 ≡ c.args.policy.now.horizon - suc c.args.stage = omega
    (arith, c.horizon.ensures.is) in
    let all : c.loop-row.row ≡ joint_row_count c.args.policy.now.rows c.args.stage = omega
    (arith, c.joint_rows-row-end.ensures.is, c.loop-row-test.false) in
    let whole = earn_all A (g.A.Arith.calls c.args.arith.now)
    m h p c.requires.sizes t c.requires.stage c.args.before c.loop-row.total r e c.requires.before
    (c.loop-row.invariant ∙ ap (λ (k : ℕ). span_sum k (rows_reward A m p t r)) all) in
    record {
      room = subst (λ (w : Span). size w < 2 ^ 127) (sym whole)
          (earn_all_room A (g.A.Arith.calls c.args.arith.now) m h p c.requires.sizes t c.requires.stage);
    }

pub returns : goal.returns
returns g c =
    let A = g.A.Arith.operations c.args.arith.now in
    let m = c.args.model.now.model in
    let p = c.args.policy.now.rows in
    let h = c.args.policy.now.horizon in
    let t = c.args.stage in
    let r = c.horizon.result - c.args.stage - 1 in
    let e : c.horizon.result - c.args.stage - 1 ≡ c.args.policy.now.horizon - suc c.args.stage = omega
    (arith, c.horizon.ensures.is) in
    let all : c.loop-row.row ≡ joint_row_count c.args.policy.now.rows c.args.stage = omega
    (arith, c.joint_rows-row-end.ensures.is, c.loop-row-test.false) in
    let whole = earn_all A (g.A.Arith.calls c.args.arith.now)
    m h p c.requires.sizes t c.requires.stage c.args.before c.loop-row.total r e c.requires.before
    (c.loop-row.invariant ∙ ap (λ (k : ℕ). span_sum k (rows_reward A m p t r)) all) in
    c.add_spans.ensures ∙ whole
