-- In exact mode every size record holds, by the mode's condition.
use Rattle.std.proofs.Common.{◌≡◌, ℕ, suc, ◌*◌, ◌^◌, ◌<◌, ◌≤◌, true, ℤ, pos, ◌*ℤ◌, refl, ap, ◌∙◌, arith}
use Rattle.std.proofs.Math.Nat.{le-mul_of_pos_right, mul-le-mul_left, mul-le-mul_right, mul-le-mul, pow-le-pow_right}
use Rattle.dp_spec.specs.declared.span.Span.{Span}
use Rattle.dp_spec.specs.declared.scales.Scales.{Scales}
use Rattle.dp_laws.proofs.ExactHistorySizes.{start_total}
use Rattle.dp_laws.proofs.ExactSizes.{chance_size, later_size, next_parts, updated_total}
use Rattle.dp_spec.proofs.ModeCondition.{exact_condition, reward_most, reward_most_some, step_scale_some}
use Rattle.dp_laws.proofs.OrderedSpans.{IsOrdered, sum_ordered, sum_point, times_ordered, total_size, weight_ordered}
use Rattle.dp_base.proofs.Ring.{zle_of, zle_pos}
use Rattle.dp_spec.proofs.QuantityScales.{scale_of_first, scale_of_next, step_scale_is}
use Rattle.dp_spec.specs.Arithmetic.{exact}
use Rattle.dp_spec.specs.Calls.{IsPoint, exact_calls, size}
use Rattle.dp_spec.specs.Mode.{is_exact_mode}
use Rattle.dp_spec.specs.Model.{IsModel, Model, joint_actions, joint_observations, obs_at, start_at, step_scale}
use Rattle.dp_spec.specs.Model.{trans_at}
use Rattle.dp_spec.specs.Quantities.{weights_after_in}
use Rattle.dp_spec.specs.Sizes.{AreWeights, CanUpdateWeights, IsStep}
use Rattle.dp_base.specs.Sums.{nat_sum}
use Rattle.dp_base.proofs.NaturalSumLaws.{nat_sum_at}

-- a weight times chances is one number where the weight is
pub chance_point : (c : Scales) (w : Span) (p z : ℕ) → IsPoint w → IsPoint ((exact c).chance w p z)
unfolding exact
chance_point c w p z e = ap (λ (x : ℤ). x *ℤ pos (p * z)) e

-- so is a weight times the discount
later_point : (c : Scales) (w : Span) → IsPoint w → IsPoint ((exact c).later w)
unfolding exact
later_point c w e = ap (λ (x : ℤ). x *ℤ pos c.gain) e

-- a weight times chances is from 0 and in order
chance_ordered : (c : Scales) (w : Span) (p z : ℕ) → IsOrdered w → IsOrdered ((exact c).chance w p z)
unfolding exact
chance_ordered c w p z o = times_ordered w (p * z) o

-- so is a weight times the discount
later_ordered : (c : Scales) (w : Span) → IsOrdered w → IsOrdered ((exact c).later w)
unfolding exact
later_ordered c w o = times_ordered w c.gain o

module _ (m : Model) (is : IsModel m) (h : ℕ) (some : 0 < h) (mode : true ≡ is_exact_mode m h) where
  -- what the condition says of each factor
  pub whole_room : (x : ℕ) → x ≤ h → x * (m.scales.start * step_scale m ^ h * reward_most m) ≤ 2 ^ 126
  whole_room x le =
      let room = exact_condition m h mode in
      let more = mul-le-mul_right (m.scales.start * step_scale m ^ h * reward_most m) le in omega arith

  -- the weight 1 at the horizon
  pub weight_room : m.scales.start * step_scale m ^ h ≤ 2 ^ 126
  weight_room = let room = whole_room 1 some in let le = le-mul_of_pos_right (m.scales.start * step_scale m ^ h)
      (reward_most_some m) in omega arith

  -- the weight 1 at an earlier time
  pub power_grows : (t : ℕ) → t ≤ h → m.scales.start * step_scale m ^ t ≤ m.scales.start * step_scale m ^ h
  power_grows t le = mul-le-mul_left m.scales.start (pow-le-pow_right (step_scale_some m is) le)

  -- what a step may multiply the weights of a time by
  step_room : (t w x : ℕ) → t < h → w ≤ m.scales.start * step_scale m ^ t → x ≤ step_scale m → w * x ≤ 2 ^ 126
  step_room t w x lt small part =
      let both = mul-le-mul small part in
      let e = scale_of_next m t in
      let grown = power_grows (suc t) lt in
      let room = weight_room in omega arith

  -- two chances of a step by their scales
  chances_le : (a s u o : ℕ) → IsStep m a s u o → trans_at m a s u * obs_at m a u o
      ≤ m.scales.trans * m.scales.obs
  chances_le a s u o st =
      let p = nat_sum_at m.states (trans_at m a s) u st.next in
      let z = nat_sum_at (joint_observations m) (obs_at m a u) o st.seen in
      let e = is.rows.trans a s st.action st.state in
      let f = is.rows.obs a u st.action st.next in
      mul-le-mul (omega arith) (omega arith)

  -- and by the step scale
  pub chances_step : (a s u o : ℕ) → IsStep m a s u o → trans_at m a s u * obs_at m a u o ≤ step_scale m
  chances_step a s u o st = let le = chances_le a s u o st in
      let more = le-mul_of_pos_right (m.scales.trans * m.scales.obs) is.scales.discount in
      let e = step_scale_is m in omega arith

  -- the same with the discount
  chances_gain_step : (a s u o : ℕ) → IsStep m a s u o
      → trans_at m a s u * obs_at m a u o * m.scales.gain ≤ step_scale m
  chances_gain_step a s u o st = let le = mul-le-mul (chances_le a s u o st) is.scales.gain in
      let e = step_scale_is m in omega arith

  -- one weight is at most all of them
  weight_le : (t s : ℕ) (ws : ℕ → Span) → AreWeights true m t ws → s < m.states
      → size (ws s) ≤ m.scales.start * step_scale m ^ t
  weight_le t s ws are ps = let one = nat_sum_at m.states (λ s. size (ws s)) s ps in let all = are.limit in
      omega arith

  -- ---- updates of weights
  may_chance : (t : ℕ) (ws : ℕ → Span) (a s u o : ℕ) → t < h → AreWeights true m t ws → IsStep m a s u o
      → (exact_calls m.scales).Chance (ws s) (trans_at m a s u) (obs_at m a u o)
  may_chance t ws a s u o lt are st =
      let room = step_room t (size (ws s)) (trans_at m a s u * obs_at m a u o) lt
      (weight_le t s ws are st.state)
      (chances_step a s u o st) in
      let e = chance_size m.scales (ws s) (trans_at m a s u) (obs_at m a u o) in
      (are.points refl s st.state, omega arith)

  -- the call with the discount
  may_later : (t : ℕ) (ws : ℕ → Span) (a s u o : ℕ) → t < h → AreWeights true m t ws → IsStep m a s u o
      → (exact_calls m.scales).Later ((exact m.scales).chance (ws s) (trans_at m a s u) (obs_at m a u o))
  may_later t ws a s u o lt are st =
      let v = (exact m.scales).chance (ws s) (trans_at m a s u) (obs_at m a u o) in
      let room = step_room t (size (ws s)) (trans_at m a s u * obs_at m a u o * m.scales.gain) lt
      (weight_le t s ws are st.state) (chances_gain_step a s u o st) in
      let e = later_size m.scales v ∙ ap (λ (n : ℕ). n * m.scales.gain)
      (chance_size m.scales (ws s) (trans_at m a s u) (obs_at m a u o)) in
      (chance_point m.scales (ws s) _ _ (are.points refl s st.state), omega arith)

  -- the parts of a next weight
  may_add : (t : ℕ) (ws : ℕ → Span) (a u o : ℕ) → t < h → AreWeights true m t ws → a < joint_actions m
      → u < m.states
      → o < joint_observations m →
      nat_sum m.states (λ s. size ((exact m.scales).later ((exact m.scales).chance (ws s) (trans_at m a s u)
      (obs_at m a u o)))) < 2 ^ 127
  may_add t ws a u o lt are pa pu po = let parts = next_parts m is ws a o u pa po pu in
      let room = step_room t (total_size m ws) (step_scale m) lt are.limit (omega arith) in omega arith

  -- the weights of the start
  started_weights : AreWeights true m 0 (λ s. (exact m.scales).start (start_at m s))
  unfolding exact
  started_weights = record {
    from = λ s p. zle_pos (start_at m s);
    order = λ s p. zle_of _ _ refl;
    points = λ e s p. refl;
    limit = let e = start_total m is in let f = scale_of_first m in omega arith;
  }

  -- next weights are from 0 and in order
  next_ordered : (t : ℕ) (ws : ℕ → Span) (a o u : ℕ) → AreWeights true m t ws
      → IsOrdered (weights_after_in (exact m.scales) m ws a o u)
  unfolding weights_after_in
  next_ordered t ws a o u are = sum_ordered m.states _ (λ s p. later_ordered m.scales _
      (chance_ordered m.scales (ws s) _ _ (weight_ordered are s p)))

  -- next weights are one number each
  next_point : (t : ℕ) (ws : ℕ → Span) (a o u : ℕ) → AreWeights true m t ws
      → IsPoint (weights_after_in (exact m.scales) m ws a o u)
  unfolding weights_after_in
  next_point t ws a o u are = sum_point m.states _ (λ s p. later_point m.scales _
      (chance_point m.scales (ws s) _ _ (are.points refl s p)))

  -- next weights are weights of the next time
  next_weights : (t : ℕ) (ws : ℕ → Span) (a o : ℕ) → AreWeights true m t ws → a < joint_actions m
      → o < joint_observations m → AreWeights true m (suc t) (weights_after_in (exact m.scales) m ws a o)
  next_weights t ws a o are pa po = record {
    from = λ u p. (next_ordered t ws a o u are).from;
    order = λ u p. (next_ordered t ws a o u are).order;
    points = λ e u p. next_point t ws a o u are;
    limit =
        let all = updated_total m is ws a pa in
        let one = nat_sum_at (joint_observations m) (λ o. total_size m
        (weights_after_in (exact m.scales) m ws a o)) o po in
        let grown = mul-le-mul_right (step_scale m) are.limit in
        let e = scale_of_next m t in omega arith;
  }

  -- in exact mode weights can be updated
  pub exact_can_update_weights : CanUpdateWeights (exact m.scales) (exact_calls m.scales) m h
  unfolding exact
  exact_can_update_weights = record {
    start = λ s p. tt;
    started = started_weights;
    chance = may_chance;
    later = may_later;
    add = may_add;
    updated = λ t ws a o lt are pa po. next_weights t ws a o are pa po;
  }
