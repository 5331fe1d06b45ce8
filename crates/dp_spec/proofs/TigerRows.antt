-- Worked rows of the tiger model at horizons 1, 2 and 3.
use Rattle.std.proofs.Common.{◌≡◌, ◌*◌, pos, negsuc, List, [], ◌∷◌, refl, arith}
use Rattle.dp_spec.specs.Model.{joint_actions, joint_observations, start_at, trans_at, obs_at, reward_at, step_scale}
use Rattle.dp_spec.specs.Model.{value_scale}
use Rattle.dp_spec.specs.PolicyTree.{PolicyTree, node, no_trees, more_trees}
use Rattle.dp_spec.specs.Value.{joint_root_action, trees_after, policy_value}
use Rattle.dp_spec.specs.MdpTable.{mdp_table}
use Rattle.dp_spec.specs.LookAhead.{weights_after, weighted_reward, look_ahead, action_look_ahead}
use Rattle.dp_spec.specs.JointHistory.{earned_reward}
use Rattle.dp_spec.specs.Front.{Front, fixed_joint_action, joint_class, class_weight}
use Rattle.dp_spec.specs.Bound.{agreeing_actions, bound_of}
use Rattle.dp_spec.specs.Steps.{root_front, chosen_front, front_after_choice, advanced_agent}
use Rattle.dp_spec.specs.Merge.{AreEquivalent, class_of_agent, class_of_others, place_weight, class_total}
use Rattle.dp_spec.specs.Mode.{is_exact_mode, unit_of}
use Rattle.dp_spec.proofs.SmallModels.{tiger}

-- ---- scales and units
unit_of_one_step : unit_of tiger 1 ≡ 40000
unfolding tiger unit_of is_exact_mode value_scale step_scale
unit_of_one_step = refl

unit_of_two_steps : unit_of tiger 2 ≡ 800000000
unfolding tiger unit_of is_exact_mode value_scale step_scale
unit_of_two_steps = refl

unit_of_nine_steps : unit_of tiger 9 ≡ 1000000000
unfolding tiger unit_of is_exact_mode value_scale step_scale
unit_of_nine_steps = refl

-- ---- values of policies that always listen
abbrev listen_once : List PolicyTree
listen_once = node 0 no_trees ∷ node 0 no_trees ∷ []

abbrev listen_twice : PolicyTree
listen_twice = node 0 (more_trees (node 0 no_trees) (more_trees (node 0 no_trees) no_trees))

value_of_one_step : policy_value tiger 1 listen_once ≡ negsuc 79999
unfolding tiger policy_value joint_root_action trees_after joint_observations start_at trans_at obs_at reward_at
    step_scale
value_of_one_step = refl

value_of_two_steps : policy_value tiger 2 (listen_twice ∷ listen_twice ∷ []) ≡ negsuc 3199999999
unfolding tiger policy_value joint_root_action trees_after joint_observations start_at trans_at obs_at reward_at
    step_scale
value_of_two_steps = refl

-- ---- the table and look-ahead
table_of_one_step : mdp_table tiger 1 0 ≡ pos 400000
unfolding tiger joint_actions joint_observations trans_at obs_at reward_at step_scale
table_of_one_step = refl

table_of_two_steps : mdp_table tiger 2 1 ≡ pos 16000000000
unfolding tiger joint_actions joint_observations trans_at obs_at reward_at step_scale
table_of_two_steps = refl

look_of_one : look_ahead tiger 2 (start_at tiger) 1 ≡ pos 14400000000
unfolding tiger joint_actions joint_observations start_at trans_at obs_at reward_at step_scale weights_after
    weighted_reward
look_of_one = refl

look_of_two : look_ahead tiger 2 (start_at tiger) 2 ≡ pos 8652000000
unfolding tiger joint_actions joint_observations start_at trans_at obs_at reward_at step_scale weights_after
    weighted_reward
look_of_two = refl

-- both agents open the left door
look_of_an_action : action_look_ahead tiger 1 (start_at tiger) 4 1 ≡ pos 4000000000
unfolding tiger joint_actions joint_observations start_at trans_at obs_at reward_at step_scale weights_after
    weighted_reward action_look_ahead
look_of_an_action = refl

-- ---- bounds of fronts
root_bound : bound_of tiger 2 (root_front tiger) 1 ≡ pos 14400000000
unfolding tiger joint_actions joint_observations start_at trans_at obs_at reward_at step_scale weights_after
    weighted_reward action_look_ahead fixed_joint_action joint_class class_weight agreeing_actions root_front
root_bound = refl

root_bound_of_look_two : bound_of tiger 2 (root_front tiger) 2 ≡ pos 8652000000
unfolding tiger joint_actions joint_observations start_at trans_at obs_at reward_at step_scale weights_after
    weighted_reward action_look_ahead fixed_joint_action joint_class class_weight agreeing_actions root_front
root_bound_of_look_two = refl

-- the first agent is to open the left door
bound_after_a_choice : bound_of tiger 2 (chosen_front (root_front tiger) 0 0 1) 1 ≡ pos 4000000000
unfolding tiger joint_actions joint_observations start_at trans_at obs_at reward_at step_scale weights_after
    weighted_reward action_look_ahead fixed_joint_action joint_class class_weight agreeing_actions root_front
bound_after_a_choice = refl

-- ---- after both agents listened
abbrev pub listened : Front
listened = front_after_choice tiger (front_after_choice tiger (root_front tiger) 0 0 0) 1 0 0

earned_by_listening : earned_reward tiger (fixed_joint_action tiger listened) 2 1 ≡ negsuc 1599999999
unfolding tiger joint_actions joint_observations start_at trans_at obs_at reward_at step_scale weights_after
    weighted_reward fixed_joint_action root_front front_after_choice advanced_agent
earned_by_listening = refl

-- the bound counts it
bound_after_listening : bound_of tiger 1 listened 1 ≡ pos 8652000000
unfolding tiger weights_after weighted_reward action_look_ahead class_weight joint_class fixed_joint_action
    agreeing_actions joint_observations joint_actions trans_at obs_at reward_at start_at step_scale root_front
    front_after_choice advanced_agent
bound_after_listening = refl

weight_of_both_left : class_weight tiger listened 0 0 ≡ 14450
unfolding tiger joint_actions joint_observations start_at trans_at obs_at reward_at step_scale weights_after
    fixed_joint_action joint_class class_weight root_front front_after_choice advanced_agent
weight_of_both_left = refl

weight_of_both_left_wrongly : class_weight tiger listened 0 1 ≡ 450
unfolding tiger joint_actions joint_observations start_at trans_at obs_at reward_at step_scale weights_after
    fixed_joint_action joint_class class_weight root_front front_after_choice advanced_agent
weight_of_both_left_wrongly = refl

-- the two classes of an agent have equal totals ..
total_of_left : class_total tiger listened 0 0 ≡ 20000
unfolding tiger joint_actions joint_observations start_at trans_at obs_at reward_at step_scale weights_after
    fixed_joint_action class_of_agent class_total root_front front_after_choice advanced_agent
total_of_left = refl

total_of_right : class_total tiger listened 0 1 ≡ 20000
unfolding tiger joint_actions joint_observations start_at trans_at obs_at reward_at step_scale weights_after
    fixed_joint_action class_of_agent class_total root_front front_after_choice advanced_agent
total_of_right = refl

-- .. and differ at place 0, so they are not equivalent
place_of_left : place_weight tiger listened 0 0 0 0 ≡ 14450
unfolding tiger joint_actions joint_observations start_at trans_at obs_at reward_at step_scale weights_after
    fixed_joint_action class_of_agent class_of_others place_weight root_front front_after_choice advanced_agent
place_of_left = refl

place_of_right : place_weight tiger listened 0 1 0 0 ≡ 2550
unfolding tiger joint_actions joint_observations start_at trans_at obs_at reward_at step_scale weights_after
    fixed_joint_action class_of_agent class_of_others place_weight root_front front_after_choice advanced_agent
place_of_right = refl

pub left_and_right_are_not_equivalent : AreEquivalent tiger listened 0 0 1 → ⊥
unfolding tiger joint_actions joint_observations start_at trans_at obs_at reward_at step_scale weights_after
    fixed_joint_action class_of_agent class_of_others place_weight class_total root_front front_after_choice
    advanced_agent
left_and_right_are_not_equivalent h = let products : 14450 * 20000 ≡ 2550 * 20000 =
    h.same 0 0 (omega arith) (omega arith) in absurd (omega arith)

-- ---- after both agents listened twice, of three steps
abbrev pub listened_twice : Front
listened_twice = front_after_choice tiger (front_after_choice tiger
    (front_after_choice tiger (front_after_choice tiger listened 0 0 0) 0 1 0) 1 0 0) 1 1 0

earned_by_listening_twice : earned_reward tiger (fixed_joint_action tiger listened_twice) 3 2 ≡ negsuc 63999999999999
unfolding tiger joint_actions joint_observations start_at trans_at obs_at reward_at step_scale weights_after
    weighted_reward fixed_joint_action root_front front_after_choice advanced_agent
earned_by_listening_twice = refl

-- both agents heard the left door twice
weight_of_left_twice : class_weight tiger listened_twice 0 0 ≡ 208802500
unfolding tiger joint_actions joint_observations start_at trans_at obs_at reward_at step_scale weights_after
    fixed_joint_action joint_class class_weight root_front front_after_choice advanced_agent
weight_of_left_twice = refl

weight_of_left_twice_wrongly : class_weight tiger listened_twice 0 1 ≡ 202500
unfolding tiger joint_actions joint_observations start_at trans_at obs_at reward_at step_scale weights_after
    fixed_joint_action joint_class class_weight root_front front_after_choice advanced_agent
weight_of_left_twice_wrongly = refl

-- the first agent heard the left door and then the right one
weight_of_left_then_right : class_weight tiger listened_twice 4 0 ≡ 36847500
unfolding tiger joint_actions joint_observations start_at trans_at obs_at reward_at step_scale weights_after
    fixed_joint_action joint_class class_weight root_front front_after_choice advanced_agent
weight_of_left_then_right = refl

weight_of_left_then_right_wrongly : class_weight tiger listened_twice 4 1 ≡ 1147500
unfolding tiger joint_actions joint_observations start_at trans_at obs_at reward_at step_scale weights_after
    fixed_joint_action joint_class class_weight root_front front_after_choice advanced_agent
weight_of_left_then_right_wrongly = refl
