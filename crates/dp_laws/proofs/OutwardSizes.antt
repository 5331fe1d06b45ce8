-- In outward arithmetic each product grows by at most one in rounding.
use Rattle.std.proofs.Common.{◌≡◌, ℕ, zero, suc, ◌+◌, ◌*◌, ◌^◌, ◌<◌, ◌≤◌, ℤ, pos, negsuc, ◌*ℤ◌, neg_ℤ, ◌≤ℤ◌}
use Rattle.std.proofs.Common.{unsigned_abs, refl, sym, ap, arith}
use Rattle.std.proofs.lemmas.Int.{ints, unsigned_abs-mul}
use Rattle.std.proofs.Math.Nat.{div-mul-le_self, le_of_mul-le-mul_right, mul-le-mul_right, mul-le-mul}
use Rattle.dp_spec.specs.declared.span.Span.{Span}
use Rattle.dp_base.proofs.Floors.{le_mul_up, mul_down_le, part_abs}
use Rattle.dp_spec.proofs.ModeCondition.{reward_within}
use Rattle.dp_base.proofs.Order.{le_of_mul_le_right, mul_le_right}
use Rattle.dp_laws.proofs.OrderedSpans.{IsOrdered, high_is_size, total_size}
use Rattle.dp_base.proofs.Ring.{zle_of, zle_pos, zle_trans}
use Rattle.dp_laws.proofs.SizeSums.{updated_size_le}
use Rattle.dp_spec.specs.Arithmetic.{outward}
use Rattle.dp_spec.specs.Calls.{size}
use Rattle.dp_spec.specs.Model.{IsModel, Model, joint_actions, joint_observations, obs_at, reward_at, start_at}
use Rattle.dp_spec.specs.Model.{trans_at}
use Rattle.dp_spec.specs.Quantities.{weights_after_in}
use Rattle.dp_base.specs.Rounding.{by_sign, ceiling_of, floor_of, mul_down, mul_up}
use Rattle.dp_spec.specs.Sizes.{reward_size}
use Rattle.dp_base.specs.Sums.{nat_sum}
use Rattle.dp_base.proofs.NaturalSumLaws.{nat_sum_add, nat_sum_at, nat_sum_const, nat_sum_ext, nat_sum_le}
use Rattle.dp_base.proofs.NaturalSumLaws.{nat_sum_swap, nat_sum_times}
use Rattle.dp_base.proofs.RoundingLaws.{unsigned_abs-neg}

-- ---- one quotient
-- a quotient rounded down
floor_abs : (a : ℤ) (d : ℕ) → unsigned_abs (floor_of a d) * d ≤ unsigned_abs a + d
floor_abs (pos n) d = let q = div-mul-le_self n d in omega arith
floor_abs (negsuc n) d = let q = div-mul-le_self n d in omega arith

-- a quotient rounded up
ceiling_abs : (a : ℤ) (d : ℕ) → unsigned_abs (ceiling_of a d) * d ≤ unsigned_abs a + d
unfolding ceiling_of
ceiling_abs a d = let q = floor_abs (neg_ℤ a) d in let e = unsigned_abs-neg a in
    rw (unsigned_abs-neg (floor_of (neg_ℤ a) d)) (omega arith)

-- a product over d, rounded down
pub mul_down_abs : (a b : ℤ) (d : ℕ) → unsigned_abs (mul_down a b d) * d ≤ unsigned_abs a * unsigned_abs b + d
unfolding mul_down
mul_down_abs a b d = let q = floor_abs (a *ℤ b) d in let e = unsigned_abs-mul a b in omega arith

-- a product over d, rounded up
pub mul_up_abs : (a b : ℤ) (d : ℕ) → unsigned_abs (mul_up a b d) * d ≤ unsigned_abs a * unsigned_abs b + d
unfolding mul_up
mul_up_abs a b d = let q = ceiling_abs (a *ℤ b) d in let e = unsigned_abs-mul a b in omega arith

-- shares of w by chances p over d, each rounded
pub shares : (n w d : ℕ) (p x : ℕ → ℕ) → 0 < d → nat_sum n p ≡ d → ((u : ℕ) → u < n → x u * d ≤ w * p u + d)
    → nat_sum n x ≤ w + n
shares n w d p x some e h = le_of_mul-le-mul_right {m = nat_sum n x} {n = w + n} {k = d}
    (let all = parts n w d p x h in let f = ap (λ (k : ℕ). w * k) e in omega arith) some
  where
    parts : (n w d : ℕ) (p x : ℕ → ℕ) → ((u : ℕ) → u < n → x u * d ≤ w * p u + d)
        → nat_sum n x * d ≤ w * nat_sum n p + n * d
    parts zero w d p x h = omega arith
    parts (suc n) w d p x h = let here = h n (omega arith) in
        let rest = parts n w d p x (λ u q. h u (omega arith)) in omega arith

-- ---- spans of weights
-- a part of a number from 0 is from 0
down_from : (a : ℤ) (p d : ℕ) → pos 0 ≤ℤ a → pos 0 ≤ℤ mul_down a (pos p) d
unfolding mul_down
down_from (pos n) p d h = omega (arith, ints)
down_from (negsuc n) p d h = absurd (omega (arith, ints))

-- a part rounded down is at most a part rounded up
in_order : (l h : ℤ) (p d : ℕ) → 0 < d → l ≤ℤ h → mul_down l (pos p) d ≤ℤ mul_up h (pos p) d
in_order l h p d some le =
    le_of_mul_le_right d _ _ some (zle_trans _ _ _ (mul_down_le l (pos p) d some)
    (zle_trans _ _ _ (mul_le_right p l h le) (le_mul_up h (pos p) d some)))

-- a part of a span of weights
pub rounded_ordered : (l h : ℤ) (p d : ℕ) → 0 < d → pos 0 ≤ℤ l → l ≤ℤ h
    → IsOrdered (record { low = mul_down l (pos p) d; high = mul_up h (pos p) d })
rounded_ordered l h p d some from order = record {
  from = down_from l p d from;
  order = in_order l h p d some order;
}

-- the magnitude of a span of weights is that of its high end
pub size_high : (w : Span) → IsOrdered w → size w ≡ unsigned_abs w.high
size_high w o = ap unsigned_abs (sym (high_is_size w o))

-- either end
by_sign_size : (r : ℤ) (w : Span)
    → (unsigned_abs (by_sign r w.low w.high) ≤ size w) × (unsigned_abs (by_sign r w.high w.low) ≤ size w)
by_sign_size (pos n) w = (omega arith, omega arith)
by_sign_size (negsuc n) w = (omega arith, omega arith)

-- a quotient by a reward's scale
reward_part : (q x r dr W : ℕ) → 0 < dr → x ≤ W → r ≤ 10 ^ 8 * dr → q * (1000 * dr) ≤ x * r + 1000 * dr
    → q ≤ W * 10 ^ 5 + 1
reward_part q x r dr W some le small h = le_of_mul-le-mul_right {m = q} {n = W * 10 ^ 5 + 1} {k = 1000 * dr}
    (let both = mul-le-mul le small in omega arith) (omega arith)

module _ (m : Model) (is : IsModel m) where
  -- ---- the operations
  -- a weight times chances is from 0 and in order
  pub chance_ordered : (w : Span) (p z : ℕ) → IsOrdered w → IsOrdered ((outward m.scales).chance w p z)
  unfolding outward
  chance_ordered w p z o =
      let one = rounded_ordered w.low w.high p m.scales.trans is.scales.trans o.from o.order in
      rounded_ordered _ _ z m.scales.obs is.scales.obs one.from one.order

  -- so is a weight times the discount
  pub later_ordered : (w : Span) → IsOrdered w → IsOrdered ((outward m.scales).later w)
  unfolding outward
  later_ordered w o = rounded_ordered w.low w.high m.scales.gain m.scales.discount is.scales.discount o.from
      o.order

  -- a weight times the chance of a next state
  pub state_part : Span → ℕ → ℕ
  state_part w p = unsigned_abs (mul_up w.high (pos p) m.scales.trans)

  -- it grows by at most one in rounding
  state_part_most : (w : Span) (p : ℕ) → IsOrdered w → state_part w p * m.scales.trans
      ≤ size w * p + m.scales.trans
  unfolding state_part
  state_part_most w p o = let q = mul_up_abs w.high (pos p) m.scales.trans in
      let e = ap (λ (n : ℕ). n * p) (size_high w o) in omega arith

  -- it is no larger than the weight
  state_part_le : (w : Span) (p : ℕ) → IsOrdered w → p ≤ m.scales.trans → state_part w p ≤ size w
  unfolding state_part
  state_part_le w p o le = let q = part_abs w.high p m.scales.trans is.scales.trans le in
      let e = size_high w o in
      omega arith

  -- a chance to observe makes it no larger
  chance_le : (w : Span) (p z : ℕ) → IsOrdered w → z ≤ m.scales.obs
      → size ((outward m.scales).chance w p z) ≤ state_part w p
  unfolding outward state_part
  chance_le w p z o le = let e = size_high _ (chance_ordered w p z o) in
      let q = part_abs (mul_up w.high (pos p) m.scales.trans) z m.scales.obs is.scales.obs le in omega arith

  -- and grows by at most one in rounding
  chance_most : (w : Span) (p z : ℕ) → IsOrdered w
      → size ((outward m.scales).chance w p z) * m.scales.obs ≤ state_part w p * z + m.scales.obs
  unfolding outward state_part
  chance_most w p z o =
      let e = ap (λ (n : ℕ). n * m.scales.obs) (size_high _ (chance_ordered w p z o)) in
      let q = mul_up_abs (mul_up w.high (pos p) m.scales.trans) (pos z) m.scales.obs in omega arith

  -- a weight times chances is no larger than the weight
  pub chance_small : (w : Span) (p z : ℕ) → IsOrdered w → p ≤ m.scales.trans → z ≤ m.scales.obs
      → size ((outward m.scales).chance w p z) ≤ size w
  chance_small w p z o lp lz = let one = chance_le w p z o lz in let two = state_part_le w p o lp in omega arith

  -- nor is a weight times the discount
  later_le : (w : Span) → IsOrdered w → size ((outward m.scales).later w) ≤ size w
  unfolding outward
  later_le w o = let e = size_high _ (later_ordered w o) in let f = size_high w o in
      let q = part_abs w.high m.scales.gain m.scales.discount is.scales.discount is.scales.gain in omega arith

  -- a weight times a reward
  pub gain_most : (w : Span) (r : ℤ) (rest : ℕ) → unsigned_abs r ≤ 10 ^ 8 * m.scales.reward
      → size ((outward m.scales).gain w r rest) ≤ size w * 10 ^ 5 + 1
  unfolding outward
  gain_most w r rest small =
      let ends = by_sign_size r w in
      let low = reward_part _ _ _ _ (size w) is.scales.reward ends.0 small
      (mul_down_abs (by_sign r w.low w.high) r (1000 * m.scales.reward)) in
      let high = reward_part _ _ _ _ (size w) is.scales.reward ends.1 small
      (mul_up_abs (by_sign r w.high w.low) r (1000 * m.scales.reward)) in
      omega arith

  -- a value of the table one step earlier
  pub carry_most : (v : ℤ) (p V : ℕ) → unsigned_abs v ≤ V
      → unsigned_abs ((outward m.scales).carry v p) * m.scales.trans ≤ V * p + m.scales.trans
  unfolding outward
  carry_most v p V le =
      let one = part_abs (mul_up v (pos p) m.scales.trans) m.scales.gain m.scales.discount is.scales.discount
      is.scales.gain in
      let two = mul_up_abs v (pos p) m.scales.trans in
      let three = mul-le-mul_right m.scales.trans one in
      let four = mul-le-mul_right p le in omega arith

  -- a weight against a value of the table
  pub tail_most : (w : Span) (v : ℤ) → unsigned_abs v ≤ 2 ^ 62
      → unsigned_abs ((outward m.scales).tail w v) ≤ size w * 2 ^ 23 + 1
  unfolding outward
  tail_most w v small =
      le_of_mul-le-mul_right {m = unsigned_abs (mul_up (by_sign v w.high w.low) v (10 ^ 12))}
      {n = size w * 2 ^ 23 + 1} {k = 10 ^ 12}
      (let q = mul_up_abs (by_sign v w.high w.low) v (10 ^ 12) in
      let le = mul-le-mul (by_sign_size v w).1 small in
      omega arith) (omega arith)

  -- a start weight is from 0 and in order
  pub start_ordered : (b : ℕ) → IsOrdered ((outward m.scales).start b)
  unfolding outward
  start_ordered b = rounded_ordered (pos b) (pos b) (10 ^ 12) m.scales.start is.scales.start (zle_pos b)
      (zle_of _ _ refl)

  -- it grows by at most one in rounding
  start_most : (b : ℕ) → size ((outward m.scales).start b) * m.scales.start ≤ 10 ^ 12 * b + m.scales.start
  unfolding outward
  start_most b = let e = ap (λ (n : ℕ). n * m.scales.start) (size_high _ (start_ordered b)) in
      let q = mul_up_abs (pos b) (pos (10 ^ 12)) m.scales.start in omega arith

  -- ---- sums
  -- the chance of a next state is within its scale
  pub trans_part : (a s t : ℕ) → a < joint_actions m → s < m.states → t < m.states
      → trans_at m a s t ≤ m.scales.trans
  trans_part a s t pa ps pt = let le = nat_sum_at m.states (trans_at m a s) t pt in
      let e = is.rows.trans a s pa ps in omega arith

  -- so is that of a joint observation
  pub obs_part : (a t o : ℕ) → a < joint_actions m → t < m.states → o < joint_observations m
      → obs_at m a t o ≤ m.scales.obs
  obs_part a t o pa pt po = let le = nat_sum_at (joint_observations m) (obs_at m a t) o po in
      let e = is.rows.obs a t pa pt in omega arith

  -- the weights of the start
  pub start_total : total_size m (λ s. (outward m.scales).start (start_at m s)) ≤ 10 ^ 12 + m.states
  start_total = shares m.states (10 ^ 12) m.scales.start (start_at m)
      (λ s. size ((outward m.scales).start (start_at m s))) is.scales.start is.rows.start
      (λ s p. start_most (start_at m s))

  -- all parts of the next weights after one joint observation
  pub next_parts : (ws : ℕ → Span) (a o : ℕ) → a < joint_actions m → o < joint_observations m
      → ((s : ℕ) → s < m.states → IsOrdered (ws s)) →
      nat_sum m.states (λ u. nat_sum m.states (λ s. size ((outward m.scales).later
      ((outward m.scales).chance (ws s) (trans_at m a s u) (obs_at m a u o)))))
      ≤ total_size m ws + m.states * m.states
  next_parts ws a o pa po h =
      let S = m.states in
      let X = λ (s u : ℕ). size ((outward m.scales).later ((outward m.scales).chance (ws s) (trans_at m a s u)
      (obs_at m a u o))) in
      let each : (s : ℕ) → s < S → nat_sum S (λ u. X s u) ≤ size (ws s) + S = λ s ps.
      shares S (size (ws s)) m.scales.trans (trans_at m a s) (X s) is.scales.trans (is.rows.trans a s pa ps)
      (λ u pu.
      let one = later_le _ (chance_ordered (ws s) (trans_at m a s u) (obs_at m a u o) (h s ps)) in
      let two = chance_le (ws s) (trans_at m a s u) (obs_at m a u o) (h s ps) (obs_part a u o pa pu po) in
      let three = state_part_most (ws s) (trans_at m a s u) (h s ps) in
      let four : X s u ≤ state_part (ws s) (trans_at m a s u) = omega arith in
      let five = mul-le-mul_right m.scales.trans four in omega arith) in
      let swapped = nat_sum_swap S S (λ u s. X s u) in
      let whole = nat_sum_le S (λ s. nat_sum S (λ u. X s u)) (λ s. size (ws s) + S) each in
      let sums = nat_sum_add S (λ s. size (ws s)) (λ s. S) in
      let flat = nat_sum_const S S in
      omega arith

  -- the next weights after one joint observation
  pub next_total : (ws : ℕ → Span) (a o : ℕ) → a < joint_actions m → o < joint_observations m
      → ((s : ℕ) → s < m.states → IsOrdered (ws s))
      → total_size m (weights_after_in (outward m.scales) m ws a o) ≤ total_size m ws + m.states * m.states
  next_total ws a o pa po h =
      let parts = next_parts ws a o pa po h in
      let each = nat_sum_le m.states (λ u. size (weights_after_in (outward m.scales) m ws a o u))
      (λ u. nat_sum m.states (λ s. size ((outward m.scales).later
      ((outward m.scales).chance (ws s) (trans_at m a s u) (obs_at m a u o)))))
      (λ u p. updated_size_le (outward m.scales) m ws a o u) in
      omega arith

  -- the parts of one weight after all joint observations
  spread_parts : (w : Span) (a s : ℕ) → a < joint_actions m → s < m.states → IsOrdered w →
      nat_sum m.states (λ u. nat_sum (joint_observations m) (λ o. size
      ((outward m.scales).later ((outward m.scales).chance w (trans_at m a s u) (obs_at m a u o)))))
      ≤ size w + (m.states + m.states * joint_observations m)
  spread_parts w a s pa ps ow =
      let S = m.states in
      let O = joint_observations m in
      let C = λ (u o : ℕ). (outward m.scales).chance w (trans_at m a s u) (obs_at m a u o) in
      let L = λ (u o : ℕ). size ((outward m.scales).later (C u o)) in
      let X = λ (u : ℕ). state_part w (trans_at m a s u) in
      let states = shares S (size w) m.scales.trans (trans_at m a s) X is.scales.trans (is.rows.trans a s pa ps)
      (λ u pu. state_part_most w (trans_at m a s u) ow) in
      let row : (u : ℕ) → u < S → nat_sum O (λ o. L u o) ≤ X u + O = λ u pu.
      let seen = shares O (X u) m.scales.obs (obs_at m a u) (λ o. size (C u o)) is.scales.obs
      (is.rows.obs a u pa pu) (λ o po. chance_most w (trans_at m a s u) (obs_at m a u o) ow) in
      let each = nat_sum_le O (λ o. L u o) (λ o. size (C u o))
      (λ o po. later_le (C u o) (chance_ordered w (trans_at m a s u) (obs_at m a u o) ow)) in
      omega arith in
      let all = nat_sum_le S (λ u. nat_sum O (λ o. L u o)) (λ u. X u + O) row in
      let sums = nat_sum_add S X (λ u. O) in
      let flat = nat_sum_const S O in
      omega arith

  -- the next weights after all joint observations together
  pub spread_total : (ws : ℕ → Span) (a : ℕ) → a < joint_actions m
      → ((s : ℕ) → s < m.states → IsOrdered (ws s)) →
      nat_sum (joint_observations m) (λ o. total_size m (weights_after_in (outward m.scales) m ws a o))
      ≤ total_size m ws + m.states * (m.states + m.states * joint_observations m)
  spread_total ws a pa h =
      let S = m.states in
      let O = joint_observations m in
      let f = λ (o u s : ℕ). size ((outward m.scales).later ((outward m.scales).chance (ws s) (trans_at m a s u)
      (obs_at m a u o))) in
      let parts = nat_sum_le O (λ o. total_size m (weights_after_in (outward m.scales) m ws a o))
      (λ o. nat_sum S (λ u. nat_sum S (λ s. f o u s)))
      (λ o po. nat_sum_le S (λ u. size (weights_after_in (outward m.scales) m ws a o u))
      (λ u. nat_sum S (λ s. f o u s)) (λ u pu. updated_size_le (outward m.scales) m ws a o u)) in
      let first = nat_sum_swap O S (λ o u. nat_sum S (λ s. f o u s)) in
      let second = nat_sum_ext S (λ u. nat_sum O (λ o. nat_sum S (λ s. f o u s)))
      (λ u. nat_sum S (λ s. nat_sum O (λ o. f o u s))) (λ u pu. nat_sum_swap O S (λ o s. f o u s)) in
      let third = nat_sum_swap S S (λ u s. nat_sum O (λ o. f o u s)) in
      let each = nat_sum_le S (λ s. nat_sum S (λ u. nat_sum O (λ o. f o u s))) (λ s. size (ws s) + (S + S * O))
      (λ s ps. spread_parts (ws s) a s pa ps (h s ps)) in
      let sums = nat_sum_add S (λ s. size (ws s)) (λ s. S + S * O) in
      let flat = nat_sum_const S (S + S * O) in
      omega arith

  -- the parts of the reward from one weight
  pub gained_total : (w : Span) (a s r : ℕ) → a < joint_actions m → s < m.states → IsOrdered w →
      nat_sum m.states (λ t. nat_sum (joint_observations m) (λ o. size
      ((outward m.scales).gain ((outward m.scales).chance w (trans_at m a s t) (obs_at m a t o))
      (reward_at m a s t o) r)))
      ≤ (size w + m.states + m.states * joint_observations m) * 10 ^ 5 + m.states * joint_observations m
  gained_total w a s r pa ps ow =
      let S = m.states in
      let O = joint_observations m in
      let C = λ (t o : ℕ). (outward m.scales).chance w (trans_at m a s t) (obs_at m a t o) in
      let G = λ (t o : ℕ). size ((outward m.scales).gain (C t o) (reward_at m a s t o) r) in
      let X = λ (t : ℕ). state_part w (trans_at m a s t) in
      let states = shares S (size w) m.scales.trans (trans_at m a s) X is.scales.trans (is.rows.trans a s pa ps)
      (λ t pt. state_part_most w (trans_at m a s t) ow) in
      let row : (t : ℕ) → t < S → nat_sum O (λ o. G t o) ≤ X t * 10 ^ 5 + O * (10 ^ 5 + 1) = λ t pt.
      let seen = shares O (X t) m.scales.obs (obs_at m a t) (λ o. size (C t o)) is.scales.obs
      (is.rows.obs a t pa pt) (λ o po. chance_most w (trans_at m a s t) (obs_at m a t o) ow) in
      let each = nat_sum_le O (λ o. G t o) (λ o. size (C t o) * 10 ^ 5 + 1)
      (λ o po. gain_most (C t o) (reward_at m a s t o) r (reward_within m is a s t o)) in
      let sums = nat_sum_add O (λ o. size (C t o) * 10 ^ 5) (λ o. 1) in
      let times = nat_sum_times O (λ o. size (C t o)) (10 ^ 5) in
      let flat = nat_sum_const O 1 in
      omega arith in
      let all = nat_sum_le S (λ t. nat_sum O (λ o. G t o)) (λ t. X t * 10 ^ 5 + O * (10 ^ 5 + 1)) row in
      let sums = nat_sum_add S (λ t. X t * 10 ^ 5) (λ t. O * (10 ^ 5 + 1)) in
      let times = nat_sum_times S X (10 ^ 5) in
      let flat = nat_sum_const S (O * (10 ^ 5 + 1)) in
      omega arith

  -- the parts of the reward from weights
  pub reward_total : (ws : ℕ → Span) (a r : ℕ) → a < joint_actions m
      → ((s : ℕ) → s < m.states → IsOrdered (ws s)) →
      reward_size (outward m.scales) m r ws a ≤ (total_size m
      ws + m.states * (m.states + m.states * joint_observations m)) * 10 ^
      5 + m.states * (m.states * joint_observations m)
  unfolding reward_size
  reward_total ws a r pa h =
      let S = m.states in
      let O = joint_observations m in
      let all = nat_sum_le S (λ s. nat_sum S (λ t. nat_sum O
      (λ o. size ((outward m.scales).gain ((outward m.scales).chance (ws s) (trans_at m a s t)
      (obs_at m a t o)) (reward_at m a s t o) r)))) (λ s. size (ws s) * 10 ^ 5 + ((S + S * O) * 10 ^ 5 + S * O))
      (λ s ps. let part = gained_total (ws s) a s r pa ps (h s ps) in omega arith) in
      let sums = nat_sum_add S (λ s. size (ws s) * 10 ^ 5) (λ s. (S + S * O) * 10 ^ 5 + S * O) in
      let times = nat_sum_times S (λ s. size (ws s)) (10 ^ 5) in
      let flat = nat_sum_const S ((S + S * O) * 10 ^ 5 + S * O) in
      omega arith
