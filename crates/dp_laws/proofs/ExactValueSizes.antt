-- In exact arithmetic: how large worth, the table, look-ahead, earnings and bounds are, by the sum of the weights.
use Rattle.std.proofs.Common.{◌≡◌, ℕ, zero, suc, ◌+◌, ◌*◌, ◌^◌, ◌<◌, ◌≤◌, ◌+ℤ◌, unsigned_abs, List, refl, ap, arith}
use Rattle.std.proofs.Math.Nat.{pow-suc, mul-le-mul_left, mul-le-mul_right, mul-le-mul}
use Rattle.dp_spec.specs.declared.span.Span.{Span}
use Rattle.dp_laws.proofs.ExactSizes.{carry_size, gained_total, updated_total, reward_total, tail_size}
use Rattle.dp_spec.proofs.ModeCondition.{reward_most}
use Rattle.dp_laws.proofs.OneStep.{trees_after_fit, root_joint_action_below}
use Rattle.dp_laws.proofs.OrderedSpans.{total_size}
use Rattle.dp_spec.proofs.QuantityScales.{step_scale_is}
use Rattle.dp_laws.proofs.SizeSums.{abs_add, abs_min, int_sum_abs, reward_size_le, table_action_le}
use Rattle.dp_spec.specs.Arithmetic.{exact}
use Rattle.dp_spec.specs.Calls.{size}
use Rattle.dp_spec.specs.Model.{IsModel, Model, joint_actions, joint_observations, step_scale, trans_at}
use Rattle.dp_spec.specs.PolicyTree.{IsPolicyOf, PolicyTree}
use Rattle.dp_spec.specs.Quantities.{look_ahead_in, mdp_table_in, weighted_reward_in, weighted_table_in}
use Rattle.dp_spec.specs.Quantities.{weights_after_in}
use Rattle.dp_spec.specs.Sizes.{reward_size}
use Rattle.dp_spec.specs.SizesOfEarnings.{worth_size}
use Rattle.dp_spec.specs.SizesOfLookAhead.{next_look_size, weighted_table_size}
use Rattle.dp_spec.specs.SizesOfTable.{table_later_size, table_reward_size}
use Rattle.dp_base.specs.Sums.{int_sum, nat_sum, numbers_below}
use Rattle.dp_spec.specs.Value.{joint_root_action, trees_after}
use Rattle.dp_base.proofs.Members.{below-IsIn}
use Rattle.dp_base.proofs.GreatestValues.{greatest_abs}
use Rattle.dp_base.proofs.NaturalSumLaws.{nat_sum_le, nat_sum_scale, nat_sum_times}

-- a reward now and r rewards after it
one_more : (M K r most p q : ℕ) → q ≡ p * K → M * (most * q) + M * K * (r * most * p) ≡ M * (suc r * most * q)
one_more M K r most p q e = omega (arith, ap (λ (n : ℕ). M * r * most * n) e)

-- what a value over r steps from the weight 1 is at most
unfoldable pub value_most : Model → ℕ → ℕ
value_most m r = r * reward_most m * step_scale m ^ r

-- the weight 1
pub one_size : (m : Model) → size (exact m.scales).one ≡ 1
unfolding exact
one_size m = refl

module _ (m : Model) (is : IsModel m) where
  -- a reward now and the values after it are a value over one step more
  one_step_more : (M r : ℕ)
      → M * (reward_most m * step_scale m ^ suc r) + M * step_scale m * value_most m r
      ≡ M * value_most m (suc r)
  unfolding value_most
  one_step_more M r = one_more M (step_scale m) r (reward_most m) (step_scale m ^ r) (step_scale m ^ suc r)
      (pow-suc (step_scale m) r)

  -- ---- worth
  -- all parts of the worth of a joint policy
  pub worth_most : (r : ℕ) (ws : ℕ → Span) (qs : List PolicyTree) → IsPolicyOf m r qs
      → worth_size (exact m.scales) m r ws qs ≤ total_size m ws * value_most m r
  worth_most zero ws qs p = omega arith
  worth_most (suc r) ws qs p =
      let O = joint_observations m in
      let a = joint_root_action m qs in
      let a_in = root_joint_action_below m r qs p in
      let W = λ (o : ℕ). weights_after_in (exact m.scales) m ws a o in
      let reward = reward_total m is ws a r a_in in
      let each = nat_sum_le O (λ o. worth_size (exact m.scales) m r (W o) (trees_after m qs o))
      (λ o. total_size m (W o) * value_most m r) (λ o q. worth_most r (W o) (trees_after m qs o)
      (trees_after_fit m r qs o q p)) in
      let times = nat_sum_times O (λ o. total_size m (W o)) (value_most m r) in
      let updated = mul-le-mul_right (value_most m r) (updated_total m is ws a a_in) in
      let both = one_step_more (total_size m ws) r in
      omega arith

  -- ---- the table
  -- all parts of the reward now
  pub table_reward_most : (r a s : ℕ) → a < joint_actions m → s < m.states
      → table_reward_size (exact m.scales) m r a s ≤ reward_most m * step_scale m ^ suc r
  unfolding table_reward_size
  table_reward_most r a s pa ps =
      let all = gained_total m is (exact m.scales).one a s r pa ps in
      let e = ap (λ (n : ℕ). n * (reward_most m * step_scale m ^ suc r)) (one_size m) in omega arith

  -- one part of a value one step earlier
  carry_part : (V p z g d : ℕ) (v : ℕ) → v ≤ V → g ≤ d → v * (p * z * g) ≤ V * p * (z * d)
  carry_part V p z g d v le lg = let one = mul-le-mul le (mul-le-mul_left (p * z) lg) in omega arith

  -- all parts of the value after it
  pub table_later_most : (r a s : ℕ) → a < joint_actions m → s < m.states
      → ((t : ℕ) → t < m.states → unsigned_abs (mdp_table_in (exact m.scales) m r t) ≤ value_most m r)
      → table_later_size (exact m.scales) m r a s ≤ step_scale m * value_most m r
  unfolding table_later_size
  table_later_most r a s pa ps small =
      let c = m.scales.obs * m.scales.discount in
      let each = nat_sum_le m.states (λ t. unsigned_abs ((exact m.scales).carry
      (mdp_table_in (exact m.scales) m r t) (trans_at m a s t))) (λ t. value_most m r * trans_at m a s t * c)
      (λ t pt. let e = carry_size m.scales (mdp_table_in (exact m.scales) m r t) (trans_at m a s t) in
      let le = carry_part (value_most m r) (trans_at m a s t) m.scales.obs m.scales.gain m.scales.discount _
      (small t pt) is.scales.gain in omega arith) in
      let e = nat_sum_scale m.states (value_most m r) c (trans_at m a s) in
      let f = joined (value_most m r) m.scales.trans m.scales.obs m.scales.discount (step_scale m)
      (nat_sum m.states (trans_at m a s)) (is.rows.trans a s pa ps) (step_scale_is m) in
      omega arith
    where
      joined : (V dt do' dg k n : ℕ) → n ≡ dt → dt * do' * dg ≡ k → V * n * (do' * dg) ≡ k * V
      joined V dt do' dg k n e f = omega (arith, ap (λ (x : ℕ). V * x * (do' * dg)) e, ap (λ (x : ℕ). V * x) f)

  -- both together
  pub table_parts_most : (r a s : ℕ) → a < joint_actions m → s < m.states
      → ((t : ℕ) → t < m.states → unsigned_abs (mdp_table_in (exact m.scales) m r t) ≤ value_most m r) →
      table_reward_size (exact m.scales) m r a s + table_later_size (exact m.scales) m r a s
      ≤ value_most m (suc r)
  table_parts_most r a s pa ps small =
      let now = table_reward_most r a s pa ps in
      let after = table_later_most r a s pa ps small in
      let both = one_step_more 1 r in omega arith

  -- a value of the table
  pub table_most : (r s : ℕ) → s < m.states → unsigned_abs (mdp_table_in (exact m.scales) m r s)
      ≤ value_most m r
  table_most zero s ps = omega arith
  table_most (suc r) s ps =
      greatest_abs _ (value_most m (suc r)) (numbers_below (joint_actions m))
      (λ a h. let pa = below-IsIn (joint_actions m) a h in let parts = table_action_le (exact m.scales)
      m r a s in
      let most = table_parts_most r a s pa ps (λ t pt. table_most r t pt) in omega arith)

  -- ---- look-ahead
  -- all weights against the table
  pub weighted_table_most : (r : ℕ) (ws : ℕ → Span)
      → weighted_table_size (exact m.scales) m r ws ≤ total_size m ws * value_most m r
  unfolding weighted_table_size
  weighted_table_most r ws =
      let each = nat_sum_le m.states (λ s. unsigned_abs ((exact m.scales).tail (ws s)
      (mdp_table_in (exact m.scales) m r s))) (λ s. size (ws s) * value_most m r)
      (λ s ps. let part = tail_size m.scales (ws s) (mdp_table_in (exact m.scales) m r s) in
      let le = mul-le-mul_left (size (ws s)) (table_most r s ps) in omega arith) in
      let e = nat_sum_times m.states (λ s. size (ws s)) (value_most m r) in omega arith

  -- their sum
  weighted_table_abs : (r : ℕ) (ws : ℕ → Span)
      → unsigned_abs (weighted_table_in (exact m.scales) m r ws) ≤ total_size m ws * value_most m r
  unfolding weighted_table_in weighted_table_size
  weighted_table_abs r ws = let parts = int_sum_abs m.states
      (λ s. (exact m.scales).tail (ws s) (mdp_table_in (exact m.scales) m r s)) in
      let most = weighted_table_most r ws in omega arith

  -- the reward now and the look-aheads after it, where these are small
  looks_from : (r k : ℕ) (ws : ℕ → Span) (a : ℕ) → a < joint_actions m
      → ((ws : ℕ → Span) → unsigned_abs (look_ahead_in (exact m.scales) m r ws k)
      ≤ total_size m ws * value_most m r) →
      reward_size (exact m.scales) m r ws a + next_look_size (exact m.scales) m r ws a k
      ≤ total_size m ws * value_most m (suc r)
  unfolding next_look_size
  looks_from r k ws a pa small =
      let O = joint_observations m in
      let W = λ (o : ℕ). weights_after_in (exact m.scales) m ws a o in
      let reward = reward_total m is ws a r pa in
      let each = nat_sum_le O (λ o. unsigned_abs (look_ahead_in (exact m.scales) m r (W o) k))
      (λ o. total_size m (W o) * value_most m r) (λ o q. small (W o)) in
      let times = nat_sum_times O (λ o. total_size m (W o)) (value_most m r) in
      let updated = mul-le-mul_right (value_most m r) (updated_total m is ws a pa) in
      let both = one_step_more (total_size m ws) r in
      omega arith

  -- look-ahead of a joint action by its parts
  look_parts : (r k : ℕ) (ws : ℕ → Span) (a : ℕ) →
      unsigned_abs ((weighted_reward_in (exact m.scales) m r ws a).high +ℤ int_sum (joint_observations m)
      (λ o. look_ahead_in (exact m.scales) m r (weights_after_in (exact m.scales) m ws a o) k))
      ≤ reward_size (exact m.scales) m r ws a + next_look_size (exact m.scales) m r ws a k
  unfolding next_look_size
  look_parts r k ws a =
      let V = λ (o : ℕ). look_ahead_in (exact m.scales) m r (weights_after_in (exact m.scales) m ws a o) k in
      let now = reward_size_le (exact m.scales) m r ws a in
      let after = int_sum_abs (joint_observations m) V in
      let both = abs_add (weighted_reward_in (exact m.scales) m r ws a).high
      (int_sum (joint_observations m) V) in
      omega arith

  -- look-ahead
  pub look_most : (r k : ℕ) (ws : ℕ → Span)
      → unsigned_abs (look_ahead_in (exact m.scales) m r ws k) ≤ total_size m ws * value_most m r
  look_most zero k ws = omega arith
  look_most (suc r) zero ws = weighted_table_abs (suc r) ws
  look_most (suc r) (suc k) ws =
      abs_min _ (weighted_table_in (exact m.scales) m (suc r) ws) (total_size m ws * value_most m (suc r))
      (greatest_abs _ (total_size m ws * value_most m (suc r)) (numbers_below (joint_actions m))
      (λ a h. let pa = below-IsIn (joint_actions m) a h in let parts = look_parts r k ws a in
      let most = looks_from r k ws a pa (λ vs. look_most r k vs) in omega arith))
      (weighted_table_abs (suc r) ws)

  -- the reward now and the look-aheads after it
  pub looks_most : (r k : ℕ) (ws : ℕ → Span) (a : ℕ) → a < joint_actions m
      → reward_size (exact m.scales) m r ws a + next_look_size (exact m.scales) m r ws a k
      ≤ total_size m ws * value_most m (suc r)
  looks_most r k ws a pa = looks_from r k ws a pa (λ vs. look_most r k vs)
