use Rattle.std.proofs.Common.{◌≡◌, ◌*◌, ◌^◌, ◌≤◌, true, max, refl, ap, ◌∙◌, arith}
use Rattle.dp_spec.specs.Mode.{greatest_magnitude, is_exact_mode}
use Rattle.dp_spec.specs.Model.{value_scale}
use Rattle.dp_model.proofs.HorizonLemmas.{condition, steps_room, unit_of_products, weights_room}
use Rattle.dp_model.proofs.horizon.exact_unit.Goals as goal

pub returns-in_err-weights-clause-is : goal.returns-in_err-weights-clause-is
returns-in_err-weights-clause-is c =
    rw c.from_residual.ensures
    (λ e. c.in_err-weights.ensures (weights_room c.args.model.now.model c.invariant.ensures.model c.args.horizon
    c.requires e))

pub returns-in_err-steps-clause-is : goal.returns-in_err-steps-clause-is
returns-in_err-steps-clause-is c =
    rw c.from_residual-in_err-steps.ensures
    (λ e. c.in_err-steps.ensures
    (rw (c.in_ok-weights.ensures.1, c.from.ensures) (steps_room c.args.model.now.model c.invariant.ensures.model
    c.args.horizon e)))

pub returns-in_err-product_within-clause-is : goal.returns-in_err-product_within-clause-is
returns-in_err-product_within-clause-is c =
    let scale : c.scales-scales.result.reward ≡ c.args.model.now.model.scales.reward =
    ap (λ s. s.reward) c.scales-scales.ensures in
    rw c.from_residual-in_err-product_within.ensures
    (λ e. c.in_err-product_within.ensures
    (rw (
      c.in_ok-steps.ensures.1,
      c.in_ok-weights.ensures.1,
      c.from.ensures,
      c.from-2.ensures,
      c.max-reward.ensures,
      c.greatest_reward.ensures,
      scale,
    )
    (condition c.args.model.now.model c.invariant.ensures.model c.args.horizon e)))

-- the mode is exact, and the product is its unit
is_unit : (c : goal.After-from-3) → let m = c.args.model.now.model in
    (is_exact_mode m c.args.horizon ≡ true) × (c.in_ok-weights.weights * c.from-3.result
    ≡ value_scale m c.args.horizon)
    × (c.in_ok-weights.weights * c.from-3.result ≤ 2 ^ 126)
is_unit c =
    let m = c.args.model.now.model in
    let scale : c.scales-scales.result.reward ≡ m.scales.reward = ap (λ s. s.reward) c.scales-scales.ensures in
    let most : c.from-2.result ≡ max (greatest_magnitude m.reward) m.scales.reward =
    rw (c.from-2.ensures, c.max-reward.ensures, c.greatest_reward.ensures, scale) refl in
    unit_of_products m c.invariant.ensures.model c.args.horizon
    c.in_ok-weights.weights c.from.result c.in_ok-steps.steps c.from-2.result c.from-3.result
    c.requires c.in_ok-weights.ensures.1 c.from.ensures c.in_ok-steps.ensures.1 most (c.from-3.ensures
    ∙ scale) c.in_ok-product_within.ensures.0

pub overflow_mul-result : goal.overflow_mul-result
overflow_mul-result c = let limit = (is_unit c).2 in omega arith

pub returns-clause-is : goal.returns-clause-is
returns-clause-is c = ((is_unit c).0, (is_unit c).1)

pub returns-clause-limit : goal.returns-clause-limit
returns-clause-limit c = (is_unit c).2
