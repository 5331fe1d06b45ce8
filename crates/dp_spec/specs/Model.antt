-- A decentralised POMDP (Oliehoek and Amato, chapter 2), as whole numbers over scales.
use Rattle.std.specs.Prelude.{ℕ, ◌+◌, ◌*◌, ◌^◌, ◌<◌, ◌≤◌, ◌≡◌, ℤ, pos, unsigned_abs, List, length, get_or}
use Rattle.dp_spec.specs.declared.scales.Scales.{Scales}
use Rattle.dp_base.specs.Sums.{nat_sum}
use Rattle.dp_spec.specs.JointNumbers.{product}

-- the sizes, the scales, and the tables one after the other by joint action, state, next state and joint observation
pub record Model : Type 0 where
  pub states : ℕ
  -- for each agent how many actions it has
  pub actions : List ℕ
  -- for each agent how many observations it has
  pub observations : List ℕ
  pub scales : Scales
  pub start : List ℕ
  pub trans : List ℕ
  pub obs : List ℕ
  pub reward : List ℤ

-- how many joint actions there are
unfoldable pub joint_actions : Model → ℕ
joint_actions m = product m.actions

-- how many joint observations there are
unfoldable pub joint_observations : Model → ℕ
joint_observations m = product m.observations

-- the chance to start in state s
unfoldable pub start_at : Model → ℕ → ℕ
start_at m s = get_or m.start s 0

-- the chance of the next state t after joint action a in state s
unfoldable pub trans_at : Model → ℕ → ℕ → ℕ → ℕ
trans_at m a s t = get_or m.trans ((a * m.states + s) * m.states + t) 0

-- the chance of joint observation o on arriving in state t by joint action a
unfoldable pub obs_at : Model → ℕ → ℕ → ℕ → ℕ
obs_at m a t o = get_or m.obs ((a * m.states + t) * joint_observations m + o) 0

-- the reward of joint action a in state s where state t and joint observation o follow
unfoldable pub reward_at : Model → ℕ → ℕ → ℕ → ℕ → ℤ
reward_at m a s t o = get_or m.reward (((a * m.states + s) * m.states + t) * joint_observations m + o) (pos 0)

-- what the chances and the discount of one step are counted in
unfoldable pub step_scale : Model → ℕ
step_scale m = m.scales.trans * m.scales.obs * m.scales.discount

-- what values over h steps are counted in: the expected reward is the value over this number
unfoldable pub value_scale : Model → ℕ → ℕ
value_scale m h = m.scales.start * (m.scales.reward * step_scale m ^ h)

-- ---- what holds of every model

-- each scale is at least 1, those of the chances are at most 2^62, the others are powers of ten, and the discount is
-- at most 1
pub record AreScales (c : Scales) : Type 0 where
  pub start : 0 < c.start
  pub trans : 0 < c.trans
  pub obs : 0 < c.obs
  pub reward : 0 < c.reward
  pub discount : 0 < c.discount
  pub start_limit : c.start ≤ 2 ^ 62
  pub trans_limit : c.trans ≤ 2 ^ 62
  pub obs_limit : c.obs ≤ 2 ^ 62
  pub reward_digits : (k : ℕ) × (k ≤ 9) × (c.reward ≡ 10 ^ k)
  pub discount_digits : (k : ℕ) × (k ≤ 18) × (c.discount ≡ 10 ^ k)
  pub gain : c.gain ≤ c.discount

-- there is an agent, each has an action, and the limits on sizes and cells are kept
pub record AreSizes (m : Model) : Type 0 where
  pub alike : length m.observations ≡ length m.actions
  pub some_agent : 0 < length m.actions
  pub some_action : 0 < joint_actions m
  pub agents_limit : length m.actions ≤ 6
  pub states_limit : m.states ≤ 256
  pub joint_actions_limit : joint_actions m ≤ 256
  pub joint_observations_limit : joint_observations m ≤ 256
  pub trans_cells_limit : joint_actions m * m.states * m.states ≤ 2 ^ 22
  pub obs_cells_limit : joint_actions m * m.states * joint_observations m ≤ 2 ^ 22
  pub reward_cells_limit : joint_actions m * m.states * m.states * joint_observations m ≤ 2 ^ 28

-- the tables have one cell for each of their places, and no reward is past 10^8
pub record AreTables (m : Model) : Type 0 where
  pub start : length m.start ≡ m.states
  pub trans : length m.trans ≡ joint_actions m * m.states * m.states
  pub obs : length m.obs ≡ joint_actions m * m.states * joint_observations m
  pub reward : length m.reward ≡ joint_actions m * m.states * m.states * joint_observations m
  pub reward_limit : (i : ℕ) → unsigned_abs (get_or m.reward i (pos 0)) ≤ 10 ^ 8 * m.scales.reward

-- each row of chances sums to its scale
pub record AreRows (m : Model) : Type 0 where
  pub start : nat_sum m.states (start_at m) ≡ m.scales.start
  pub trans : (a s : ℕ) → a < joint_actions m → s < m.states → nat_sum m.states (trans_at m a s) ≡ m.scales.trans
  pub obs : (a t : ℕ) → a < joint_actions m → t < m.states
      → nat_sum (joint_observations m) (obs_at m a t) ≡ m.scales.obs

-- what holds of every model: of its sizes, its scales, its tables and their rows of chances
pub record IsModel (m : Model) : Type 0 where
  pub sizes : AreSizes m
  pub scales : AreScales m.scales
  pub tables : AreTables m
  pub rows : AreRows m
