-- Worked rows of whole certificates: one that is valid in both versions, and a branch that stands at a wide node.
use Rattle.std.proofs.Common.{◌≡◌, ◌⊎◌, inl, inr, ℕ, ◌<◌, true, false, ℤ, pos, [], ◌∷◌, refl, sym, ◌∙◌, arith}
use Rattle.dp_spec.specs.Model.{joint_actions, joint_observations, obs_at, reward_at, start_at, step_scale, trans_at}
use Rattle.dp_spec.specs.Model.{value_scale}
use Rattle.dp_spec.specs.Mode.{is_exact_mode, unit_of}
use Rattle.dp_spec.specs.Front.{fixed_joint_action, joint_class}
use Rattle.dp_spec.specs.Bound.{agreeing_actions}
use Rattle.dp_spec.specs.Steps.{advanced_agent, front_after_choice, root_front}
use Rattle.dp_spec.specs.Arithmetic.{Arithmetic, exact, reward_factor}
use Rattle.dp_spec.specs.Quantities.{action_look_ahead_in, class_weight_in, weighted_reward_in, weighted_table_in}
use Rattle.dp_spec.specs.Quantities.{weights_after_in}
use Rattle.dp_spec.specs.BoundTree.{BoundTrees, branch}
use Rattle.dp_spec.specs.SharedPolicy.{AreAgentRows, IsSharedOf}
use Rattle.dp_spec.specs.SharedPolicy.AreRowsOfAgents.{and_agent, no_agents}
use Rattle.dp_spec.specs.PlainForm.{IsPlain}
use Rattle.dp_spec.specs.PlainForm.ArePlain.{and_agent as and_plain, no_agents as none_plain}
use Rattle.dp_spec.specs.SharedWorth.{joint_row_action, next_joint_row, shared_worth_in}
use Rattle.dp_spec.specs.Wide.{is_room, is_wide, widens}
use Rattle.dp_spec.specs.Fitting.{FitsFront, front_bound}
use Rattle.dp_spec.specs.Certificate.{Certificate, HasPolicyOfVersion, IsValid}
use Rattle.dp_spec.proofs.SmallModels.{fan, solo}
use Rattle.dp_spec.proofs.TreeRows.{both_actions}
use Rattle.dp_spec.proofs.TextLemmas.{one_row}
use Rattle.dp_spec.proofs.WideRows.{all_but_one, all_but_one_is_wide}

-- ---- the certificate of one agent that earns 3 by its second action

abbrev pub solo_certificate : ℕ → Certificate
solo_certificate version = record {
  version = version;
  horizon = 1;
  look = 1;
  is_exact = true;
  unit = pos 1;
  lower =
      pos 3;
  upper = pos 3;
  inner = 1;
  policy = one_row 1 ∷ [];
  tree = both_actions;
}

no_more : (c : ℕ) → c < 1 → c ≡ 0
no_more c lt = omega arith

solo_rows : AreAgentRows 2 1 1 (one_row 1)
solo_rows = record {
  of_horizon = refl;
  one_first = refl;
  rows = (
    omega arith,
    λ r lt. rw (no_more r lt) (record {
      action = omega arith;
      one_each = refl;
      below =
          λ o seen. absurd (omega arith);
    }),
    tt,
  );
}

solo_shared : IsSharedOf solo 1 (one_row 1 ∷ [])
unfolding solo
solo_shared = record {
  agents = and_agent solo_rows no_agents;
  cells = λ t lt. rw (no_more t lt) (omega arith);
}

solo_plain : IsPlain solo 1 (one_row 1 ∷ [])
unfolding solo
solo_plain = and_plain (record {
  counts = λ t lt. rw (no_more t lt) refl;
  nexts =
      λ t c o step below seen. absurd (omega arith);
}) none_plain

solo_policy : (version : ℕ) → (version ≡ 1) ⊎ (version ≡ 2) → HasPolicyOfVersion solo (solo_certificate version)
solo_policy version known = record { version = known; shared = solo_shared; plain = λ e. solo_plain }

pub solo_tree : FitsFront (exact solo.scales) solo 1 1 0 both_actions (root_front solo)
    (front_bound (exact solo.scales) solo 1 1 (root_front solo))
unfolding solo front_bound exact reward_factor weights_after_in weighted_reward_in weighted_table_in
    action_look_ahead_in class_weight_in joint_class fixed_joint_action agreeing_actions joint_observations
    joint_actions trans_at obs_at reward_at start_at step_scale root_front front_after_choice advanced_agent is_wide
    widens is_room
solo_tree = (omega arith, (omega arith, refl), (refl, (refl, refl)), refl)

-- it is valid in version 1 ..
pub solo_is_valid : IsValid solo (solo_certificate 1)
unfolding solo unit_of is_exact_mode value_scale step_scale shared_worth_in exact reward_factor weights_after_in
    weighted_reward_in joint_row_action next_joint_row joint_observations joint_actions trans_at obs_at reward_at
    start_at
solo_is_valid = record {
  within = record {
    known = inl refl;
    first = λ e. record {
      some_step = omega arith;
      horizon = omega arith;
      own_histories = omega arith;
      stage_cells =
          omega arith;
      game_cells = omega arith;
    };
    second = λ e. absurd (omega arith);
  };
  mode = refl;
  unit = refl;
  policy = solo_policy 1 (inl refl);
  lower = refl;
  tree = solo_tree;
  inner = refl;
  upper = refl;
}

-- .. and in version 2
solo_is_valid_shared : IsValid solo (solo_certificate 2)
unfolding solo unit_of is_exact_mode value_scale step_scale shared_worth_in exact reward_factor weights_after_in
    weighted_reward_in joint_row_action next_joint_row joint_observations joint_actions trans_at obs_at reward_at
    start_at
solo_is_valid_shared = record {
  within = record { known = inr refl; first = λ e. absurd (omega arith); second = λ e. (omega arith, omega arith) };
  mode = refl;
  unit = refl;
  policy = solo_policy 2 (inr refl);
  lower = refl;
  tree = solo_tree;
  inner = refl;
  upper = refl;
}

-- ---- no branch stands at a wide node: the last class of 256 is left as it is
no_branch_at_wide : (A : Arithmetic) (look : ℕ) (ks : BoundTrees) (least : ℤ)
    → FitsFront A fan 3 look 256 (branch 0 0 ks) all_but_one least → ⊥
no_branch_at_wide A look ks least fits = let both : true ≡ false = sym all_but_one_is_wide ∙ fits.3 in cc
