-- The scales of the quantities: how they grow with each operation.
use Rattle.std.proofs.Common.{◌≡◌, ℕ, suc, ◌+◌, ◌*◌, ◌^◌, ◌<◌, refl, sym, ap, ◌∙◌, arith}
use Rattle.std.proofs.Math.Nat.{mul-pos, one-le-pow, pow-suc, pow-zero}
use Rattle.std.proofs.lemmas.Nat.{pow-add}
use Rattle.dp_spec.specs.Arithmetic.{reward_factor}
use Rattle.dp_spec.specs.Model.{IsModel, Model, step_scale, value_scale}

-- the step scale by its parts
pub step_scale_is : (m : Model) → m.scales.trans * m.scales.obs * m.scales.discount ≡ step_scale m
unfolding step_scale
step_scale_is m = refl

-- what a reward is multiplied by, by the step scale
pub reward_factor_is : (m : Model) (r : ℕ) → reward_factor m.scales r ≡ m.scales.discount * step_scale m ^ r
unfolding reward_factor step_scale
reward_factor_is m r = refl

-- three factors as one
times_step : (T K a b c : ℕ) → a * b * c ≡ K → T * (a * b) * c ≡ T * K
times_step T K a b c e = omega (arith, ap (λ (n : ℕ). T * n) e)

-- a weight times the chances and the discount of a step
pub scale_after_step : (m : Model) (T : ℕ) → T * (m.scales.trans * m.scales.obs) * m.scales.discount ≡ T
    * step_scale m
scale_after_step m T = times_step T (step_scale m) m.scales.trans m.scales.obs m.scales.discount (step_scale_is m)

-- three factors as one, apart
times_gain : (T K a b c p d : ℕ) → a * b * c ≡ K → T * (a * b) * (c * p) * d ≡ T * (d * (p * K))
times_gain T K a b c p d e = omega (arith, ap (λ (n : ℕ). T * (d * (p * n))) e)

-- a reward of one step more
pub scale_after_reward : (m : Model) (T r : ℕ)
    → T * (m.scales.trans * m.scales.obs) * (m.scales.discount * step_scale m ^ r) * m.scales.reward
    ≡ T * (m.scales.reward * step_scale m ^ suc r)
scale_after_reward m T r =
    times_gain T (step_scale m) m.scales.trans m.scales.obs m.scales.discount (step_scale m ^ r) m.scales.reward
    (step_scale_is m)
    ∙ ap (λ (n : ℕ). T * (m.scales.reward * n)) (sym (pow-suc (step_scale m) r))

-- a value of the table one step earlier
pub scale_after_carry : (m : Model) (r : ℕ)
    → m.scales.reward * step_scale m ^ r * step_scale m ≡ m.scales.reward * step_scale m ^ suc r
scale_after_carry m r = omega (arith, ap (λ (n : ℕ). m.scales.reward * n) (pow-suc (step_scale m) r))

-- a factor as two
times_tail : (T d K p q : ℕ) → q ≡ p * K → T * K * (d * p) ≡ T * (d * q)
times_tail T d K p q e = omega (arith, ap (λ (n : ℕ). T * (d * n)) e)

-- a value after one step
pub scale_after_tail : (m : Model) (T r : ℕ)
    → T * step_scale m * (m.scales.reward * step_scale m ^ r) ≡ T * (m.scales.reward * step_scale m ^ suc r)
scale_after_tail m T r = times_tail T m.scales.reward (step_scale m) (step_scale m ^ r) (step_scale m ^ suc r)
    (pow-suc (step_scale m) r)

-- weights of a stage against values of the steps that are left
pub scale_at_stage : (m : Model) (t r : ℕ)
    → m.scales.start * step_scale m ^ t * (m.scales.reward * step_scale m ^ r) ≡ value_scale m (t + r)
unfolding value_scale
scale_at_stage m t r = omega (
  arith,
  ap (λ (n : ℕ). m.scales.start * (m.scales.reward * n))
      (pow-add (step_scale m) t r),
)

-- weights against a value of r rewards of at most x, where two powers make up one
pub weights_times_value : (d p r x q k : ℕ) → p * q ≡ k → d * p * (r * x * q) ≡ r * (d * k * x)
weights_times_value d p r x q k e = omega (arith, ap (λ (n : ℕ). r * d * n * x) e)

-- weights of the next stage
pub scale_of_next : (m : Model) (t : ℕ)
    → m.scales.start * step_scale m ^ t * step_scale m ≡ m.scales.start * step_scale m ^ suc t
scale_of_next m t = omega (arith, ap (λ (n : ℕ). m.scales.start * n) (pow-suc (step_scale m) t))

-- weights of stage 0
pub scale_of_first : (m : Model) → m.scales.start ≡ m.scales.start * step_scale m ^ 0
scale_of_first m = rw pow-zero (omega arith)

-- the value scale of a model is not 0
pub value_scale_positive : (m : Model) (h : ℕ) → IsModel m → 0 < value_scale m h
unfolding value_scale step_scale
value_scale_positive m h is =
    mul-pos is.scales.start
    (mul-pos is.scales.reward (one-le-pow h _ (mul-pos (mul-pos is.scales.trans is.scales.obs) is.scales.discount)))
