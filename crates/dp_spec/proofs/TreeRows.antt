-- Worked rows of bound trees, and of the places where a branch may stand.
use Rattle.std.proofs.Common.{◌≡◌, ℕ, pos, [], ◌∷◌, map, refl}
use Rattle.dp_spec.specs.Model.{joint_actions, joint_observations, start_at, trans_at, obs_at, reward_at, step_scale}
use Rattle.dp_spec.specs.Front.{fixed_joint_action, joint_class}
use Rattle.dp_spec.specs.Bound.{agreeing_actions}
use Rattle.dp_spec.specs.Steps.{chosen_front, root_front, front_after_choice, advanced_agent}
use Rattle.dp_spec.specs.Arithmetic.{exact, reward_factor}
use Rattle.dp_spec.specs.Quantities.{weights_after_in, weighted_reward_in, weighted_table_in, action_look_ahead_in}
use Rattle.dp_spec.specs.Quantities.{class_weight_in}
use Rattle.dp_spec.specs.BoundTree.{BoundTree, leaf, branch, no_bound_trees, more_bound_trees, inner_count, depth_of}
use Rattle.dp_spec.specs.BoundTree.{greatest_leaf}
use Rattle.dp_spec.specs.Fitting.{front_bound}
use Rattle.dp_spec.specs.Qualities.{Place, Node, nodes_of, places_of, upper_weight, spread_of}
use Rattle.dp_spec.proofs.SmallModels.{solo, tiger}
use Rattle.dp_spec.proofs.TigerRows.{listened}

-- ---- a bound tree: one branch on both actions
abbrev pub both_actions : BoundTree
both_actions = branch 0 0 (more_bound_trees (leaf (pos 1)) (more_bound_trees (leaf (pos 3)) no_bound_trees))

inner_of_both : inner_count both_actions ≡ 1
inner_of_both = refl

-- the longest path counts, and leaves do not
depth_of_uneven : depth_of (branch 0 0 (more_bound_trees (leaf (pos 1))
    (more_bound_trees both_actions (more_bound_trees (leaf (pos 2)) no_bound_trees))))
    ≡ 2
depth_of_uneven = refl

greatest_of_both : greatest_leaf both_actions ≡ pos 3
greatest_of_both = refl

root_bound_of_solo : front_bound (exact solo.scales) solo 1 1 (root_front solo) ≡ pos 3
unfolding solo front_bound exact reward_factor weights_after_in weighted_reward_in weighted_table_in
    action_look_ahead_in class_weight_in joint_class fixed_joint_action agreeing_actions joint_observations
    joint_actions trans_at obs_at reward_at start_at step_scale root_front
root_bound_of_solo = refl

-- the capped bounds of its nodes in preorder
caps_of_solo : map (λ (n : Node). n.cap) (nodes_of (exact solo.scales) solo 1 1 0 both_actions (root_front solo)
    (pos 3))
    ≡ pos 3 ∷ pos 1 ∷ pos 3 ∷ []
unfolding solo front_bound exact reward_factor weights_after_in weighted_reward_in weighted_table_in
    action_look_ahead_in class_weight_in joint_class fixed_joint_action agreeing_actions joint_observations
    joint_actions trans_at obs_at reward_at start_at step_scale root_front front_after_choice advanced_agent
caps_of_solo = refl

-- ---- the places of tiger's root front at horizon 2
abbrev place_of : ℕ → Place
place_of i = record { agent = i; class = 0; weight = pos 2; spread = pos 10400000000 }

places_of_tiger : places_of (exact tiger.scales) tiger 2 1 (root_front tiger) ≡ place_of 0 ∷ place_of 1 ∷ []
unfolding tiger upper_weight spread_of front_bound exact reward_factor weights_after_in weighted_reward_in
    weighted_table_in action_look_ahead_in class_weight_in joint_class fixed_joint_action agreeing_actions
    joint_observations joint_actions trans_at obs_at reward_at start_at step_scale root_front
places_of_tiger = refl

-- ---- the places of a front whose last choice completes it: the spread is taken before the advance
spread_before_the_advance : places_of (exact tiger.scales) tiger 2 1 (chosen_front (root_front tiger) 0 0 0)
    ≡ record { agent = 1; class = 0; weight = pos 2; spread = pos 35200000000 } ∷ []
unfolding tiger upper_weight spread_of front_bound exact reward_factor weights_after_in weighted_reward_in
    weighted_table_in action_look_ahead_in class_weight_in joint_class fixed_joint_action agreeing_actions
    joint_observations joint_actions trans_at obs_at reward_at start_at step_scale root_front
spread_before_the_advance = refl

-- ---- the weight of a class over its two joint classes
weight_over_joint_classes : upper_weight (exact tiger.scales) tiger listened 0 0 ≡ pos 20000
unfolding tiger upper_weight exact reward_factor weights_after_in class_weight_in joint_class fixed_joint_action
    joint_observations joint_actions trans_at obs_at reward_at start_at step_scale root_front front_after_choice
    advanced_agent
weight_over_joint_classes = refl
