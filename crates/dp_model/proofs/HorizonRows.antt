-- Worked rows of horizons: the first limit that is passed, and the fit where none is.
use Rattle.std.proofs.Common.{◌≡◌, ℕ, ◌*◌, ◌^◌, true, false, pos, negsuc, List, [], ◌∷◌, refl}
use Rattle.std.specs.Prelude.{Some, None}
use Rattle.dp_spec.specs.Mode.{is_exact_mode, unit_of}
use Rattle.dp_spec.specs.Model.{Model, joint_actions, joint_observations, step_scale, value_scale}
use Rattle.dp_model.specs.declared.limit.Limit.TheVariants as limits
use Rattle.dp_model.specs.Horizons.{fit_of, horizon_limits, long_horizon_passed}
use Rattle.dp_model.specs.Limits.{first_passed}
use Rattle.dp_model.proofs.TwoAgents.{two_agents}

-- ---- with the sizes, the scales and the greatest reward of the decentralised tiger
abbrev tiger : Model
tiger = record two_agents {
  states = 2;
  actions = 3 ∷ 3 ∷ [];
  observations = 2 ∷ 2 ∷ [];
  scales = record { start = 2; trans = 2; obs = 10000; reward = 1; discount = 1; gain = 1 };
  reward = pos 20 ∷ negsuc 100 ∷ [];
}

own_histories_of_ten_steps : first_passed (horizon_limits tiger 10) ≡ None
unfolding joint_actions joint_observations
own_histories_of_ten_steps = refl

own_histories_of_eleven_steps : first_passed (horizon_limits tiger 11)
    ≡ Some (record { what = limits.OwnHistories; count = 4094 })
unfolding joint_actions joint_observations
own_histories_of_eleven_steps = refl

-- more steps than 16 are told before more own histories
steps : first_passed (horizon_limits tiger 17) ≡ Some (record { what = limits.Horizon; count = 17 })
unfolding joint_actions joint_observations
steps = refl

fit_of_one_step : fit_of tiger 1 ≡ record { horizon = 1; exact = true; unit = pos 40000 }
unfolding unit_of is_exact_mode value_scale step_scale
fit_of_one_step = refl

exact_at_eight_steps : is_exact_mode tiger 8 ≡ true
unfolding is_exact_mode step_scale
exact_at_eight_steps = refl

fit_of_nine_steps : fit_of tiger 9 ≡ record { horizon = 9; exact = false; unit = pos 1000000000 }
unfolding unit_of is_exact_mode value_scale step_scale
fit_of_nine_steps = refl

-- in version 2 there may be 24
kept_in_version_two : long_horizon_passed 24 ≡ None
kept_in_version_two = refl

passed_in_version_two : long_horizon_passed 25 ≡ Some (record { what = limits.Horizon; count = 25 })
passed_in_version_two = refl

fit_of_twenty_steps : fit_of tiger 20 ≡ record { horizon = 20; exact = false; unit = pos 1000000000 }
unfolding unit_of is_exact_mode value_scale step_scale
fit_of_twenty_steps = refl

-- ---- sizes with few own histories and many joint ones: 4 agents of 2 observations over 6 steps have 16^5 in the
-- last stage
abbrev four_agents : ℕ → List ℕ → Model
four_agents states actions = record two_agents {
  states = states;
  actions = actions;
  observations =
      2 ∷ 2 ∷ 2 ∷ 2 ∷ [];
}

stage_cells_kept : first_passed (horizon_limits (four_agents 4 (2 ∷ 2 ∷ 2 ∷ 2 ∷ [])) 6) ≡ None
unfolding joint_actions joint_observations
stage_cells_kept = refl

stage_cells_passed : first_passed (horizon_limits (four_agents 5 (4 ∷ 4 ∷ 4 ∷ 4 ∷ [])) 6)
    ≡ Some (record { what = limits.StageCells; count = 5 * 16 ^ 5 })
unfolding joint_actions joint_observations
stage_cells_passed = refl

game_cells_passed : first_passed (horizon_limits (four_agents 4 (3 ∷ 3 ∷ 2 ∷ 1 ∷ [])) 6)
    ≡ Some (record { what = limits.GameCells; count = 18 * 16 ^ 5 })
unfolding joint_actions joint_observations
game_cells_passed = refl
