-- The mode of a model and a horizon, the unit in which its values are counted, and the limits of a horizon.
use Rattle.std.specs.Prelude.{ℕ, ◌+◌, ◌*◌, ◌-◌, ◌^◌, ◌<◌, ◌≤◌, ◌≡◌, ◌⊎◌, Bool, nat_le, max, unsigned_abs, ℤ, pos}
use Rattle.std.specs.Prelude.{List, [], ◌∷◌, if◌then◌else◌}
use Rattle.dp_base.specs.Sums.{nat_sum}
use Rattle.dp_spec.specs.Model.{Model, joint_actions, joint_observations, step_scale, value_scale}

-- the greatest magnitude of a list of numbers
abbrev pub greatest_magnitude : List ℤ → ℕ
greatest_magnitude [] = 0
greatest_magnitude (r ∷ rs) = max (unsigned_abs r) (greatest_magnitude rs)

-- the mode is exact where the bound on every value is at most 2^126
unfoldable pub is_exact_mode : Model → ℕ → Bool
is_exact_mode m h =
    nat_le (m.scales.start * step_scale m ^ h * h * max (max (greatest_magnitude m.reward) m.scales.reward) 1)
    (2 ^ 126)

-- what values are counted in: the value scale in exact mode, and else 10^9
unfoldable pub unit_of : Model → ℕ → ℕ
unit_of m h = if is_exact_mode m h then value_scale m h else 10 ^ 9

-- how many own histories shorter than h the agents have together
abbrev pub own_history_count : List ℕ → ℕ → ℕ
own_history_count [] h = 0
own_history_count (n ∷ ns) h = nat_sum h (λ t. n ^ t) + own_history_count ns h

-- the horizon is at least 1 and keeps every limit of policies with a row for each own history
pub record IsWithinLimits (m : Model) (h : ℕ) : Type 0 where
  pub some_step : 0 < h
  pub horizon : h ≤ 16
  pub own_histories : own_history_count m.observations h ≤ 2048
  pub stage_cells : m.states * joint_observations m ^ (h - 1) ≤ 2 ^ 22
  pub game_cells : joint_actions m * joint_observations m ^ (h - 1) ≤ 2 ^ 24

-- A version of certificates is 1 or 2, and the horizon keeps its limits: in version 1 those above, and in version 2
-- only from 1 to 24 steps.
pub record IsWithinVersion (m : Model) (h version : ℕ) : Type 0 where
  pub known : (version ≡ 1) ⊎ (version ≡ 2)
  pub first : version ≡ 1 → IsWithinLimits m h
  pub second : version ≡ 2 → (0 < h) × (h ≤ 24)

-- A true fit: so many steps, a mode and a unit as they are for a model, at any horizon from 1 to 24.
pub record IsTrueFit (m : Model) (h : ℕ) (e : Bool) (u : ℤ) : Type 0 where
  pub horizon : (0 < h) × (h ≤ 24)
  pub mode : e ≡ is_exact_mode m h
  pub unit : u ≡ pos (unit_of m h)
