-- What follows of the numbers of a model.
use Rattle.std.proofs.Common.{ℕ, ◌+◌, ◌*◌, ◌^◌, ◌<◌, ◌≤◌, pos, unsigned_abs, get_or, length, arith}
use Rattle.std.proofs.Math.Nat.{pow-le-pow_right}
use Rattle.dp_spec.specs.Model.{IsModel, Model, joint_actions, joint_observations}
use Rattle.dp_spec.proofs.JointNumberLaws.{row_below}

-- the place of a cell is within its table
pub obs_place : (m : Model) → IsModel m → (a t o : ℕ) → a < joint_actions m → t < m.states
    → o < joint_observations m →
    (a * m.states + t) * joint_observations m + o < length m.obs
obs_place m ok a t o action next observation =
    rw ok.tables.obs (row_below _ _ _ _ (row_below _ _ _ _ action next) observation)

pub reward_place : (m : Model) → IsModel m → (a s t o : ℕ) → a < joint_actions m → s < m.states → t < m.states
    → o < joint_observations m →
    ((a * m.states + s) * m.states + t) * joint_observations m + o < length m.reward
reward_place m ok a s t o action state next observation =
    rw ok.tables.reward (row_below _ _ _ _ (row_below _ _ _ _ (row_below _ _ _ _ action state) next) observation)

-- rewards are far from the ends of 64 bits
pub reward_small : (m : Model) → IsModel m → (i : ℕ) → unsigned_abs (get_or m.reward i (pos 0)) < 2 ^ 63
reward_small m ok i =
    let digits = ok.scales.reward_digits in
    let power : 10 ^ digits.0 ≤ 10 ^ 9 = pow-le-pow_right (omega arith) digits.1 in
    let scale : m.scales.reward ≤ 10 ^ 9 = rw digits.2 power in
    omega (arith, ok.tables.reward_limit i)
