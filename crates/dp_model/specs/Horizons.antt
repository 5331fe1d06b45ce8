-- The limits of a horizon, and what a run needs of a horizon that keeps them.
use Rattle.std.specs.Prelude.{ℕ, ◌*◌, ◌-◌, ◌^◌, nat_lt, if◌then◌else◌, pos, List, [], ◌∷◌, Option, Some, None}
use Rattle.dp_spec.specs.Mode.{is_exact_mode, own_history_count, unit_of}
use Rattle.dp_spec.specs.Model.{Model, joint_actions, joint_observations}
use Rattle.dp_model.specs.declared.horizon.Fit.{Fit}
use Rattle.dp_model.specs.declared.limit.Limit.TheVariants as limits
use Rattle.dp_model.specs.declared.limit.TooLarge.{TooLarge}
use Rattle.dp_model.specs.Limits.{passed_by}

-- the limits of a horizon, in order
abbrev pub horizon_limits : Model → ℕ → List (Option TooLarge)
horizon_limits m h =
    passed_by limits.Horizon h
    ∷ passed_by limits.OwnHistories (own_history_count m.observations h)
    ∷ passed_by limits.StageCells (m.states * joint_observations m ^ (h - 1))
    ∷ passed_by limits.GameCells (joint_actions m * joint_observations m ^ (h - 1))
    ∷ []

-- the limit of a horizon in version 2 of certificates, which has no other: at most 24 steps
abbrev pub long_horizon_passed : ℕ → Option TooLarge
long_horizon_passed h = if nat_lt 24 h then Some (record { what = limits.Horizon; count = h }) else None

-- the horizon with its mode and its unit
abbrev pub fit_of : Model → ℕ → Fit
fit_of m h = record { horizon = h; exact = is_exact_mode m h; unit = pos (unit_of m h) }
