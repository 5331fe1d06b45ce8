-- In exact arithmetic magnitudes are multiplied, so what weights come to is bounded by their sum.
use Rattle.std.proofs.Common.{◌≡◌, inl, inr, ℕ, suc, ◌*◌, ◌^◌, ◌<◌, ◌≤◌, max, ℤ, pos, ◌*ℤ◌, unsigned_abs, ap, ◌∙◌}
use Rattle.std.proofs.Common.{arith}
use Rattle.std.proofs.lemmas.Int.{unsigned_abs-mul}
use Rattle.std.proofs.Math.Nat.{pow-suc, mul-le-mul_left, mul-le-mul_right}
use Rattle.dp_spec.specs.declared.span.Span.{Span}
use Rattle.dp_spec.specs.declared.scales.Scales.{Scales}
use Rattle.dp_spec.proofs.ModeCondition.{reward_at_most, reward_most}
use Rattle.dp_laws.proofs.OrderedSpans.{total_size}
use Rattle.dp_spec.proofs.QuantityScales.{reward_factor_is, step_scale_is}
use Rattle.dp_laws.proofs.SizeSums.{updated_size_le}
use Rattle.dp_spec.specs.Arithmetic.{exact, reward_factor}
use Rattle.dp_spec.specs.Calls.{size}
use Rattle.dp_spec.specs.LookAhead.{weights_after}
use Rattle.dp_spec.specs.Model.{IsModel, Model, joint_actions, joint_observations, obs_at, reward_at, step_scale}
use Rattle.dp_spec.specs.Model.{trans_at}
use Rattle.dp_spec.specs.Quantities.{weights_after_in}
use Rattle.dp_spec.specs.Sizes.{reward_size}
use Rattle.dp_base.specs.Sums.{nat_sum}
use Rattle.dp_base.proofs.NaturalSumLaws.{nat_sum_at, nat_sum_ext, nat_sum_le, nat_sum_scale, nat_sum_swap}
use Rattle.dp_base.proofs.NaturalSumLaws.{nat_sum_times}
use Rattle.std.proofs.lemmas.Bool.{cases_lt}

-- ---- the operations
max_times : (a b n : ℕ) → max (a * n) (b * n) ≡ max a b * n
max_times a b n =
    elim (cases_lt a b) [
      | inl lt ↦ let le : a ≤ b = omega arith in let more = mul-le-mul_right n le in
          let e : max a b ≡ b = omega arith in rw e (omega arith)
      | inr le ↦ let more = mul-le-mul_right n le in let e : max a b ≡ a = omega arith in rw e (omega arith)
    ]

-- a span whose ends are multiplied
size_times : (w v : Span) (n : ℕ) → unsigned_abs v.low ≡ unsigned_abs w.low * n
    → unsigned_abs v.high ≡ unsigned_abs w.high * n → size v ≡ size w * n
size_times w v n e f = rw (e, f) (max_times (unsigned_abs w.low) (unsigned_abs w.high) n)

-- a weight times chances
pub chance_size : (c : Scales) (w : Span) (p z : ℕ) → size ((exact c).chance w p z) ≡ size w * (p * z)
unfolding exact
chance_size c w p z = size_times w ((exact c).chance w p z) (p * z) (unsigned_abs-mul w.low (pos (p * z)))
    (unsigned_abs-mul w.high (pos (p * z)))

-- a weight times the discount
pub later_size : (c : Scales) (w : Span) → size ((exact c).later w) ≡ size w * c.gain
unfolding exact
later_size c w = size_times w ((exact c).later w) c.gain (unsigned_abs-mul w.low (pos c.gain))
    (unsigned_abs-mul w.high (pos c.gain))

-- a product of three
abs_times : (x r : ℤ) (k : ℕ) → unsigned_abs (x *ℤ (r *ℤ pos k)) ≡ unsigned_abs x * (unsigned_abs r * k)
abs_times x r k = unsigned_abs-mul x (r *ℤ pos k) ∙ ap (λ (n : ℕ). unsigned_abs x * n)
    (unsigned_abs-mul r (pos k))

-- a weight times a reward
pub gain_size : (c : Scales) (w : Span) (r : ℤ) (rest : ℕ)
    → size ((exact c).gain w r rest) ≡ size w * (unsigned_abs r * reward_factor c rest)
unfolding exact
gain_size c w r rest = size_times w ((exact c).gain w r rest) (unsigned_abs r * reward_factor c rest)
    (abs_times w.low r (reward_factor c rest)) (abs_times w.high r (reward_factor c rest))

-- a value of the table one step earlier
pub carry_size : (c : Scales) (v : ℤ) (p : ℕ)
    → unsigned_abs ((exact c).carry v p) ≡ unsigned_abs v * (p * c.obs * c.gain)
unfolding exact
carry_size c v p = unsigned_abs-mul v (pos (p * c.obs * c.gain))

-- a weight against a value of the table
pub tail_size : (c : Scales) (w : Span) (v : ℤ) → unsigned_abs ((exact c).tail w v) ≤ size w * unsigned_abs v
unfolding exact
tail_size c w v = let le : unsigned_abs w.low ≤ size w = omega arith in
    rw (unsigned_abs-mul w.low v) (mul-le-mul_right (unsigned_abs v) le)

-- one weight with its chances and discount, and with its reward
updated_part : (c : Scales) (w : Span) (p z : ℕ)
    → size ((exact c).later ((exact c).chance w p z)) ≡ size w * (p * z * c.gain)
updated_part c w p z = later_size c ((exact c).chance w p z) ∙ ap (λ (n : ℕ). n * c.gain) (chance_size c w p z)
    ∙ omega arith

-- one weight with its chances and reward
gained_part : (m : Model) (w : Span) (p z r : ℕ) (x : ℤ)
    → size ((exact m.scales).gain ((exact m.scales).chance w p z) x r)
    ≡ size w * (p * z) * (unsigned_abs x * (m.scales.discount * step_scale m ^ r))
gained_part m w p z r x =
    gain_size m.scales ((exact m.scales).chance w p z) x r ∙ ap
    (λ (n : ℕ). n * (unsigned_abs x * reward_factor m.scales r)) (chance_size m.scales w p z)
    ∙ ap (λ (n : ℕ). size w * (p * z) * (unsigned_abs x * n)) (reward_factor_is m r)

module _ (m : Model) (is : IsModel m) where
  -- ---- the weights of the next time
  -- all next weights together
  spread : (w : ℕ → ℕ) (a : ℕ) → a < joint_actions m
      → nat_sum (joint_observations m) (λ o. nat_sum m.states (λ t. weights_after m w a o t))
      ≡ nat_sum m.states w * (m.scales.trans * m.scales.obs * m.scales.gain)
  unfolding weights_after
  spread w a p =
      let S = m.states in
      let O = joint_observations m in
      nat_sum_swap O S (λ o t. nat_sum S (λ s. w s * (trans_at m a s t * obs_at m a t o * m.scales.gain)))
      ∙ nat_sum_ext S _ (λ t. nat_sum S (λ s. w s * (trans_at m a s t * m.scales.obs * m.scales.gain))) (λ t q.
      nat_sum_swap O S (λ o s. w s * (trans_at m a s t * obs_at m a t o * m.scales.gain))
      ∙ nat_sum_ext S _ (λ s. w s * (trans_at m a s t * m.scales.obs * m.scales.gain))
      (λ s r. over_o (w s) (trans_at m a s t) m.scales.gain m.scales.obs O (obs_at m a t)
      (is.rows.obs a t p q)))
      ∙ nat_sum_swap S S (λ t s. w s * (trans_at m a s t * m.scales.obs * m.scales.gain))
      ∙ nat_sum_ext S _ (λ s. w s * (m.scales.trans * m.scales.obs * m.scales.gain))
      (λ s r. over_t (w s) m.scales.obs m.scales.gain m.scales.trans S (trans_at m a s) (is.rows.trans a s p r))
      ∙ nat_sum_times S w (m.scales.trans * m.scales.obs * m.scales.gain)
    where
      over_o : (w p g d n : ℕ) (f : ℕ → ℕ) → nat_sum n f ≡ d
          → nat_sum n (λ o. w * (p * f o * g)) ≡ w * (p * d * g)
      over_o w p g d n f e = nat_sum_ext n _ (λ o. w * p * f o * g) (λ o h. omega arith)
          ∙ nat_sum_scale n (w * p) g f ∙ ap (λ (x : ℕ). w * p * x * g) e ∙ omega arith

      over_t : (w z g d n : ℕ) (f : ℕ → ℕ) → nat_sum n f ≡ d
          → nat_sum n (λ t. w * (f t * z * g)) ≡ w * (d * z * g)
      over_t w z g d n f e = nat_sum_ext n _ (λ t. w * f t * (z * g)) (λ t h. omega arith)
          ∙ nat_sum_scale n w (z * g) f ∙ ap (λ (x : ℕ). w * x * (z * g)) e ∙ omega arith

  -- the parts of a next weight are those of the exact definition, from the magnitudes
  updated_parts : (ws : ℕ → Span) (a o t : ℕ)
      → nat_sum m.states (λ s. size ((exact m.scales).later ((exact m.scales).chance (ws s) (trans_at m a s t)
      (obs_at m a t o))))
      ≡ weights_after m (λ s. size (ws s)) a o t
  unfolding weights_after
  updated_parts ws a o t = nat_sum_ext m.states _ _ (λ s p. updated_part m.scales (ws s) (trans_at m a s t)
      (obs_at m a t o))

  -- all parts of all next weights together
  parts_total : (ws : ℕ → Span) (a : ℕ) → a < joint_actions m
      → nat_sum (joint_observations m) (λ o. nat_sum m.states (λ t. weights_after m (λ s. size (ws s)) a o t))
      ≤ total_size m ws * step_scale m
  unfolding step_scale
  parts_total ws a p = let e = spread (λ s. size (ws s)) a p in
      let le = mul-le-mul_left (total_size m ws) (mul-le-mul_left (m.scales.trans * m.scales.obs)
      is.scales.gain) in omega arith

  -- the parts of one next weight
  pub next_parts : (ws : ℕ → Span) (a o t : ℕ) → a < joint_actions m → o < joint_observations m → t < m.states →
      nat_sum m.states (λ s. size ((exact m.scales).later ((exact m.scales).chance (ws s) (trans_at m a s t)
      (obs_at m a t o)))) ≤ total_size m ws * step_scale m
  next_parts ws a o t pa po pt =
      let all = parts_total ws a pa in
      let some = nat_sum_at (joint_observations m) (λ o. nat_sum m.states
      (λ t. weights_after m (λ s. size (ws s)) a o t)) o po in
      let one = nat_sum_at m.states (λ t. weights_after m (λ s. size (ws s)) a o t) t pt in
      let e = updated_parts ws a o t in omega arith

  -- all next weights together
  pub updated_total : (ws : ℕ → Span) (a : ℕ) → a < joint_actions m
      → nat_sum (joint_observations m) (λ o. total_size m (weights_after_in (exact m.scales) m ws a o))
      ≤ total_size m ws * step_scale m
  updated_total ws a pa =
      let all = parts_total ws a pa in
      let each = nat_sum_le (joint_observations m) (λ o. total_size m
      (weights_after_in (exact m.scales) m ws a o))
      (λ o. nat_sum m.states (λ t. weights_after m (λ s. size (ws s)) a o t))
      (λ o p. nat_sum_le m.states _ _ (λ t q. let le = updated_size_le (exact m.scales) m ws a o t in
      let e = updated_parts ws a o t in omega arith)) in
      omega arith

  -- ---- rewards
  -- a reward over the scales of a step
  step_of : (most r w : ℕ)
      → w * m.scales.trans * (m.scales.obs * (most * (m.scales.discount * step_scale m ^ r)))
      ≡ w * (most * step_scale m ^ suc r)
  step_of most r w = scaled w m.scales.trans m.scales.obs m.scales.discount most (step_scale m ^ r)
      (step_scale m)
      _ (step_scale_is m) (pow-suc (step_scale m) r)
    where
      scaled : (w dt do' dg x p k q : ℕ) → dt * do' * dg ≡ k → q ≡ p * k
          → w * dt * (do' * (x * (dg * p))) ≡ w * (x * q)
      scaled w dt do' dg x p k q d e = omega (
        arith,
        ap (λ (n : ℕ). w * (x * n)) e,
        ap (λ (n : ℕ). w * x * p * n) d,
      )

  -- the parts of the reward from one weight
  pub gained_total : (w : Span) (a s r : ℕ) → a < joint_actions m → s < m.states →
      nat_sum m.states (λ t. nat_sum (joint_observations m) (λ o. size
      ((exact m.scales).gain ((exact m.scales).chance w (trans_at m a s t) (obs_at m a t o))
      (reward_at m a s t o) r))) ≤ size w * (reward_most m * step_scale m ^ suc r)
  gained_total w a s r pa ps =
      let S = m.states in
      let O = joint_observations m in
      let G = λ (t o : ℕ). size ((exact m.scales).gain ((exact m.scales).chance w (trans_at m a s t)
      (obs_at m a t o)) (reward_at m a s t o) r) in
      let c = reward_most m * (m.scales.discount * step_scale m ^ r) in
      let each = nat_sum_le S (λ t. nat_sum O (λ o. G t o)) (λ t. size w * trans_at m a s t * m.scales.obs * c)
      (λ t pt.
      let under = nat_sum_le O (λ o. G t o) (λ o. size w * (trans_at m a s t * obs_at m a t o) * c)
      (λ o po.
      let e = gained_part m w (trans_at m a s t) (obs_at m a t o) r (reward_at m a s t o) in
      let le = mul-le-mul_left (size w * (trans_at m a s t * obs_at m a t o))
      (mul-le-mul_right (m.scales.discount * step_scale m ^ r) (reward_at_most m a s t o)) in omega arith) in
      let e = over_o O (size w) (trans_at m a s t) c m.scales.obs (obs_at m a t) (is.rows.obs a t pa pt) in
      omega arith) in
      let e = over_t S (size w) m.scales.obs c m.scales.trans (trans_at m a s) (is.rows.trans a s pa ps) in
      let f = step_of (reward_most m) r (size w) in
      omega arith
    where
      over_o : (n w p c d : ℕ) (f : ℕ → ℕ) → nat_sum n f ≡ d
          → nat_sum n (λ o. w * (p * f o) * c) ≡ w * p * d * c
      over_o n w p c d f e = nat_sum_ext n _ (λ o. w * p * f o * c) (λ o h. omega arith)
          ∙ nat_sum_scale n (w * p) c f ∙ ap (λ (y : ℕ). w * p * y * c) e

      over_t : (n w z c d : ℕ) (f : ℕ → ℕ) → nat_sum n f ≡ d
          → nat_sum n (λ t. w * f t * z * c) ≡ w * d * (z * c)
      over_t n w z c d f e = nat_sum_ext n _ (λ t. w * f t * (z * c)) (λ t h. omega arith)
          ∙ nat_sum_scale n w (z * c) f ∙ ap (λ (y : ℕ). w * y * (z * c)) e

  -- the parts of the reward from weights
  pub reward_total : (ws : ℕ → Span) (a r : ℕ) → a < joint_actions m
      → reward_size (exact m.scales) m r ws a ≤ total_size m ws * (reward_most m * step_scale m ^ suc r)
  unfolding reward_size
  reward_total ws a r pa =
      let all = nat_sum_le m.states (λ s. nat_sum m.states (λ t. nat_sum (joint_observations m)
      (λ o. size ((exact m.scales).gain ((exact m.scales).chance (ws s) (trans_at m a s t) (obs_at m a t o))
      (reward_at m a s t o) r)))) (λ s. size (ws s) * (reward_most m * step_scale m ^ suc r))
      (λ s ps. gained_total (ws s) a s r pa ps) in
      let e = nat_sum_times m.states (λ s. size (ws s)) (reward_most m * step_scale m ^ suc r) in omega arith
