-- The condition of exact mode in numbers, and the greatest magnitude of a reward.
use Rattle.std.proofs.Common.{◌≡◌, ℕ, zero, suc, ◌+◌, ◌*◌, ◌^◌, ◌<◌, ◌≤◌, true, max, ℤ, pos, unsigned_abs, List, []}
use Rattle.std.proofs.Common.{◌∷◌, get_or, sym, arith}
use Rattle.std.proofs.lemmas.Bool.{leb-true}
use Rattle.dp_spec.specs.Mode.{greatest_magnitude, is_exact_mode}
use Rattle.dp_spec.specs.Model.{IsModel, Model, joint_observations, reward_at, step_scale}
use Rattle.std.proofs.Math.Nat.{mul-pos}

-- the magnitude that the condition of exact mode takes for a reward
unfoldable pub reward_most : Model → ℕ
reward_most m = max (max (greatest_magnitude m.reward) m.scales.reward) 1

-- each number of a list is within the greatest magnitude
magnitude_at : (rs : List ℤ) (i : ℕ) → unsigned_abs (get_or rs i (pos 0)) ≤ greatest_magnitude rs
magnitude_at [] i = omega arith
magnitude_at (r ∷ rs) zero = omega arith
magnitude_at (r ∷ rs) (suc i) = let rest = magnitude_at rs i in omega arith

-- no reward has a greater magnitude
pub reward_at_most : (m : Model) (a s t o : ℕ) → unsigned_abs (reward_at m a s t o) ≤ reward_most m
unfolding reward_most reward_at
reward_at_most m a s t o = let one = magnitude_at m.reward
    (((a * m.states + s) * m.states + t) * joint_observations m + o) in omega arith

-- it is at least 1
pub reward_most_some : (m : Model) → 1 ≤ reward_most m
unfolding reward_most
reward_most_some m = omega arith

-- the condition of exact mode
pub exact_condition : (m : Model) (h : ℕ) → true ≡ is_exact_mode m h
    → m.scales.start * step_scale m ^ h * h * reward_most m ≤ 2 ^ 126
unfolding is_exact_mode reward_most
exact_condition m h e = leb-true _ _ (sym e)

-- the step scale is at least 1
pub step_scale_some : (m : Model) → IsModel m → 0 < step_scale m
unfolding step_scale
step_scale_some m is = mul-pos (mul-pos is.scales.trans is.scales.obs) is.scales.discount

-- the limit of rewards
pub reward_within : (m : Model) → IsModel m → (a s t o : ℕ)
    → unsigned_abs (reward_at m a s t o) ≤ 10 ^ 8 * m.scales.reward
unfolding reward_at
reward_within m is a s t o = is.tables.reward_limit (((a * m.states + s) * m.states + t) * joint_observations m + o)

-- a limit of all numbers is one of the greatest magnitude
pub magnitude_most : (rs : List ℤ) (c : ℕ) → ((i : ℕ) → unsigned_abs (get_or rs i (pos 0)) ≤ c)
    → greatest_magnitude rs ≤ c
magnitude_most [] c h = omega arith
magnitude_most (r ∷ rs) c h = let here : unsigned_abs r ≤ c = h 0 in
    let rest = magnitude_most rs c (λ i. h (suc i)) in omega arith

-- it holds of the magnitude that the condition takes too
pub reward_most_within : (m : Model) → IsModel m → reward_most m ≤ 10 ^ 8 * m.scales.reward
unfolding reward_most
reward_most_within m is = let most = magnitude_most m.reward (10 ^ 8 * m.scales.reward) is.tables.reward_limit in
    let some = is.scales.reward in omega arith
