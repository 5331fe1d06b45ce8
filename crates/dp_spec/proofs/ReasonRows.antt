-- Worked rows of the first reason why a certificate is not valid, one for each kind of reason and for their order.
use Rattle.std.proofs.Common.{◌≡◌, ℕ, true, false, ℤ, pos, negsuc, [], ◌∷◌, Some, None, refl}
use Rattle.dp_spec.specs.Model.{joint_actions, joint_observations, obs_at, reward_at, start_at, step_scale, trans_at}
use Rattle.dp_spec.specs.Model.{value_scale}
use Rattle.dp_spec.specs.Mode.{is_exact_mode, unit_of}
use Rattle.dp_spec.specs.Front.{fixed_joint_action, joint_class}
use Rattle.dp_spec.specs.Bound.{agreeing_actions}
use Rattle.dp_spec.specs.Steps.{advanced_agent, front_after_choice, root_front}
use Rattle.dp_spec.specs.LookAhead.{weights_after}
use Rattle.dp_spec.specs.Merge.{class_of_agent, class_of_others, class_total, place_weight}
use Rattle.dp_spec.specs.UnequalPlaces.{first_unequal, place_count}
use Rattle.dp_base.specs.Rounding.{ceiling_of, mul_down, mul_up}
use Rattle.dp_spec.specs.Arithmetic.{exact, outward, reward_factor}
use Rattle.dp_spec.specs.Quantities.{action_look_ahead_in, class_weight_in, weighted_reward_in, weighted_table_in}
use Rattle.dp_spec.specs.Quantities.{weights_after_in}
use Rattle.dp_spec.specs.SharedPolicy.{AgentRows}
use Rattle.dp_spec.specs.SharedWorth.{joint_row_action, next_joint_row, shared_worth_in}
use Rattle.dp_spec.specs.BoundTree.{BoundTree, branch, leaf, merge, more_bound_trees, no_bound_trees}
use Rattle.dp_spec.specs.Wide.{is_room, is_wide, widens}
use Rattle.dp_spec.specs.Fitting.{front_bound}
use Rattle.dp_spec.specs.Certificate.{Certificate}
use Rattle.dp_spec.specs.Reasons.{bound_is, children_are, first_reason, inner_is, lower_is, mode_is, no_place}
use Rattle.dp_spec.specs.Reasons.{unequal_at, unit_is, upper_is}
use Rattle.dp_spec.proofs.SmallModels.{solo, tiger}
use Rattle.dp_spec.proofs.CertificateRows.{solo_certificate}

-- ---- one agent that earns 1 or 3

abbrev valid : Certificate
valid = solo_certificate 1

abbrev with_tree : BoundTree → Certificate
with_tree T = record valid { tree = T }

abbrev two_leaves : ℕ → ℤ → ℤ → BoundTree
two_leaves c x y = branch 0 c (more_bound_trees (leaf x) (more_bound_trees (leaf y) no_bound_trees))

-- nothing is wrong
nothing_wrong : first_reason solo (valid) ≡ None
unfolding solo first_unequal place_count place_weight class_total class_of_agent class_of_others is_exact_mode unit_of
    value_scale shared_worth_in joint_row_action next_joint_row front_bound exact outward mul_down mul_up ceiling_of
    reward_factor weights_after weights_after_in weighted_reward_in weighted_table_in action_look_ahead_in
    class_weight_in joint_class fixed_joint_action agreeing_actions joint_observations joint_actions trans_at obs_at
    reward_at start_at step_scale root_front front_after_choice advanced_agent is_wide widens is_room
nothing_wrong = refl

-- the mode
mode_is_exact : first_reason solo (record valid { is_exact = false }) ≡ Some (mode_is true)
unfolding solo first_unequal place_count place_weight class_total class_of_agent class_of_others is_exact_mode unit_of
    value_scale shared_worth_in joint_row_action next_joint_row front_bound exact outward mul_down mul_up ceiling_of
    reward_factor weights_after weights_after_in weighted_reward_in weighted_table_in action_look_ahead_in
    class_weight_in joint_class fixed_joint_action agreeing_actions joint_observations joint_actions trans_at obs_at
    reward_at start_at step_scale root_front front_after_choice advanced_agent is_wide widens is_room
mode_is_exact = refl

-- the unit, also where the lower end is wrong too
unit_is_one : first_reason solo (record valid { unit = pos 2; lower = pos 6 }) ≡ Some (unit_is (pos 1))
unfolding solo first_unequal place_count place_weight class_total class_of_agent class_of_others is_exact_mode unit_of
    value_scale shared_worth_in joint_row_action next_joint_row front_bound exact outward mul_down mul_up ceiling_of
    reward_factor weights_after weights_after_in weighted_reward_in weighted_table_in action_look_ahead_in
    class_weight_in joint_class fixed_joint_action agreeing_actions joint_observations joint_actions trans_at obs_at
    reward_at start_at step_scale root_front front_after_choice advanced_agent is_wide widens is_room
unit_is_one = refl

-- the lower end, also where the upper end is wrong too
lower_is_three : first_reason solo (record valid { lower = pos 1; upper = pos 4 }) ≡ Some (lower_is (pos 3))
unfolding solo first_unequal place_count place_weight class_total class_of_agent class_of_others is_exact_mode unit_of
    value_scale shared_worth_in joint_row_action next_joint_row front_bound exact outward mul_down mul_up ceiling_of
    reward_factor weights_after weights_after_in weighted_reward_in weighted_table_in action_look_ahead_in
    class_weight_in joint_class fixed_joint_action agreeing_actions joint_observations joint_actions trans_at obs_at
    reward_at start_at step_scale root_front front_after_choice advanced_agent is_wide widens is_room
lower_is_three = refl

-- a leaf at the root
root_bound_is_three : first_reason solo (with_tree (leaf (pos 2))) ≡ Some (bound_is 0 (pos 3))
unfolding solo first_unequal place_count place_weight class_total class_of_agent class_of_others is_exact_mode unit_of
    value_scale shared_worth_in joint_row_action next_joint_row front_bound exact outward mul_down mul_up ceiling_of
    reward_factor weights_after weights_after_in weighted_reward_in weighted_table_in action_look_ahead_in
    class_weight_in joint_class fixed_joint_action agreeing_actions joint_observations joint_actions trans_at obs_at
    reward_at start_at step_scale root_front front_after_choice advanced_agent is_wide widens is_room
root_bound_is_three = refl

-- the first of two wrong leaves
first_bound_is_one : first_reason solo (with_tree (two_leaves 0 (pos 3) (pos 1))) ≡ Some (bound_is 1 (pos 1))
unfolding solo first_unequal place_count place_weight class_total class_of_agent class_of_others is_exact_mode unit_of
    value_scale shared_worth_in joint_row_action next_joint_row front_bound exact outward mul_down mul_up ceiling_of
    reward_factor weights_after weights_after_in weighted_reward_in weighted_table_in action_look_ahead_in
    class_weight_in joint_class fixed_joint_action agreeing_actions joint_observations joint_actions trans_at obs_at
    reward_at start_at step_scale root_front front_after_choice advanced_agent is_wide widens is_room
first_bound_is_one = refl

-- the second leaf
second_bound_is_three : first_reason solo (with_tree (two_leaves 0 (pos 1) (pos 1))) ≡ Some (bound_is 2 (pos 3))
unfolding solo first_unequal place_count place_weight class_total class_of_agent class_of_others is_exact_mode unit_of
    value_scale shared_worth_in joint_row_action next_joint_row front_bound exact outward mul_down mul_up ceiling_of
    reward_factor weights_after weights_after_in weighted_reward_in weighted_table_in action_look_ahead_in
    class_weight_in joint_class fixed_joint_action agreeing_actions joint_observations joint_actions trans_at obs_at
    reward_at start_at step_scale root_front front_after_choice advanced_agent is_wide widens is_room
second_bound_is_three = refl

-- a branch on a class that is not there
no_class_one : first_reason solo (with_tree (two_leaves 1 (pos 1) (pos 3))) ≡ Some (no_place 0)
unfolding solo first_unequal place_count place_weight class_total class_of_agent class_of_others is_exact_mode unit_of
    value_scale shared_worth_in joint_row_action next_joint_row front_bound exact outward mul_down mul_up ceiling_of
    reward_factor weights_after weights_after_in weighted_reward_in weighted_table_in action_look_ahead_in
    class_weight_in joint_class fixed_joint_action agreeing_actions joint_observations joint_actions trans_at obs_at
    reward_at start_at step_scale root_front front_after_choice advanced_agent is_wide widens is_room
no_class_one = refl

-- a branch of an agent that is not there, which has no children
no_agent_one : first_reason solo (with_tree (branch 1 0 no_bound_trees)) ≡ Some (no_place 0)
unfolding solo first_unequal place_count place_weight class_total class_of_agent class_of_others is_exact_mode unit_of
    value_scale shared_worth_in joint_row_action next_joint_row front_bound exact outward mul_down mul_up ceiling_of
    reward_factor weights_after weights_after_in weighted_reward_in weighted_table_in action_look_ahead_in
    class_weight_in joint_class fixed_joint_action agreeing_actions joint_observations joint_actions trans_at obs_at
    reward_at start_at step_scale root_front front_after_choice advanced_agent is_wide widens is_room
no_agent_one = refl

-- a branch with one child: its agent has two actions, and the leaf is not looked at
two_actions : first_reason solo (with_tree (branch 0 0 (more_bound_trees (leaf (pos 7)) no_bound_trees)))
    ≡ Some (children_are 0 2)
unfolding solo first_unequal place_count place_weight class_total class_of_agent class_of_others is_exact_mode unit_of
    value_scale shared_worth_in joint_row_action next_joint_row front_bound exact outward mul_down mul_up ceiling_of
    reward_factor weights_after weights_after_in weighted_reward_in weighted_table_in action_look_ahead_in
    class_weight_in joint_class fixed_joint_action agreeing_actions joint_observations joint_actions trans_at obs_at
    reward_at start_at step_scale root_front front_after_choice advanced_agent is_wide widens is_room
two_actions = refl

-- a branch at a full front
full_front : first_reason solo (with_tree (branch 0 0 (more_bound_trees (branch 0 0 no_bound_trees)
    (more_bound_trees (leaf (pos 3)) no_bound_trees)))) ≡ Some (no_place 1)
unfolding solo first_unequal place_count place_weight class_total class_of_agent class_of_others is_exact_mode unit_of
    value_scale shared_worth_in joint_row_action next_joint_row front_bound exact outward mul_down mul_up ceiling_of
    reward_factor weights_after weights_after_in weighted_reward_in weighted_table_in action_look_ahead_in
    class_weight_in joint_class fixed_joint_action agreeing_actions joint_observations joint_actions trans_at obs_at
    reward_at start_at step_scale root_front front_after_choice advanced_agent is_wide widens is_room
full_front = refl

-- the number of inner nodes
one_inner_node : first_reason solo (record valid { inner = 3; upper = pos 4 }) ≡ Some (inner_is 1)
unfolding solo first_unequal place_count place_weight class_total class_of_agent class_of_others is_exact_mode unit_of
    value_scale shared_worth_in joint_row_action next_joint_row front_bound exact outward mul_down mul_up ceiling_of
    reward_factor weights_after weights_after_in weighted_reward_in weighted_table_in action_look_ahead_in
    class_weight_in joint_class fixed_joint_action agreeing_actions joint_observations joint_actions trans_at obs_at
    reward_at start_at step_scale root_front front_after_choice advanced_agent is_wide widens is_room
one_inner_node = refl

-- the upper end
upper_is_three : first_reason solo (record valid { upper = pos 4 }) ≡ Some (upper_is (pos 3))
unfolding solo first_unequal place_count place_weight class_total class_of_agent class_of_others is_exact_mode unit_of
    value_scale shared_worth_in joint_row_action next_joint_row front_bound exact outward mul_down mul_up ceiling_of
    reward_factor weights_after weights_after_in weighted_reward_in weighted_table_in action_look_ahead_in
    class_weight_in joint_class fixed_joint_action agreeing_actions joint_observations joint_actions trans_at obs_at
    reward_at start_at step_scale root_front front_after_choice advanced_agent is_wide widens is_room
upper_is_three = refl

-- a merge of a class with itself
class_zero_twice : first_reason solo (with_tree (merge 0 0 0 (leaf (pos 3)))) ≡ Some (no_place 0)
unfolding solo first_unequal place_count place_weight class_total class_of_agent class_of_others is_exact_mode unit_of
    value_scale shared_worth_in joint_row_action next_joint_row front_bound exact outward mul_down mul_up ceiling_of
    reward_factor weights_after weights_after_in weighted_reward_in weighted_table_in action_look_ahead_in
    class_weight_in joint_class fixed_joint_action agreeing_actions joint_observations joint_actions trans_at obs_at
    reward_at start_at step_scale root_front front_after_choice advanced_agent is_wide widens is_room
class_zero_twice = refl

-- ---- listening tigers: after one observation the classes of an agent differ at the first place

abbrev listens : AgentRows
listens = (record { action = 0; next = 0 ∷ 1 ∷ [] } ∷ []) ∷
    (record { action = 0; next = [] } ∷ record { action = 0; next = [] } ∷ []) ∷ []

abbrev first_of_three : ℕ → BoundTree → BoundTree
first_of_three i k = branch i 0 (more_bound_trees k (more_bound_trees (leaf (pos 0))
    (more_bound_trees (leaf (pos 0)) no_bound_trees)))

abbrev listening : Certificate
listening = record {
  version = 1;
  horizon = 2;
  look = 1;
  is_exact = true;
  unit = pos 800000000;
  lower = negsuc 3199999999;
  upper = pos 0;
  inner = 3;
  policy = listens ∷ listens ∷ [];
  tree = first_of_three 0 (first_of_three 1 (merge 0 0 1 (leaf (pos 0))));
}

differ_first : first_reason tiger listening ≡ Some (unequal_at 2 0)
unfolding tiger first_unequal place_count place_weight class_total class_of_agent class_of_others is_exact_mode
    unit_of value_scale shared_worth_in joint_row_action next_joint_row front_bound exact outward mul_down mul_up
    ceiling_of reward_factor weights_after weights_after_in weighted_reward_in weighted_table_in action_look_ahead_in
    class_weight_in joint_class fixed_joint_action agreeing_actions joint_observations joint_actions trans_at obs_at
    reward_at start_at step_scale root_front front_after_choice advanced_agent is_wide widens is_room
differ_first = refl
