-- Worked rows of numbers that are rounded outward at each product.
use Rattle.std.proofs.Common.{◌≡◌, pos, [], ◌∷◌, map, refl}
use Rattle.dp_spec.specs.Model.{joint_actions, joint_observations, start_at, trans_at, obs_at, reward_at, step_scale}
use Rattle.dp_spec.specs.PolicyTree.{PolicyTree, node, no_trees, more_trees}
use Rattle.dp_spec.specs.Value.{joint_root_action, trees_after}
use Rattle.dp_spec.specs.Front.{fixed_joint_action, joint_class}
use Rattle.dp_spec.specs.Bound.{agreeing_actions}
use Rattle.dp_spec.specs.Steps.{root_front, front_after_choice, advanced_agent}
use Rattle.dp_spec.specs.declared.scales.Scales.{Scales}
use Rattle.dp_base.specs.Rounding.{ceiling_of, mul_down, mul_up}
use Rattle.dp_spec.specs.Arithmetic.{outward, point, reward_factor}
use Rattle.dp_spec.specs.Quantities.{weights_after_in, weighted_reward_in, forward_worth_in, weighted_table_in}
use Rattle.dp_spec.specs.Quantities.{action_look_ahead_in, class_weight_in, look_ahead_in}
use Rattle.dp_spec.specs.BoundTree.{BoundTree, leaf, branch, no_bound_trees, more_bound_trees}
use Rattle.dp_spec.specs.Fitting.{front_bound}
use Rattle.dp_spec.specs.Qualities.{Node, nodes_of}
use Rattle.dp_spec.proofs.SmallModels.{decay}

-- ---- numbers rounded outward at each product
abbrev always : PolicyTree
always = node 0 (more_trees (node 0 (more_trees (node 0 (more_trees (node 0 no_trees) no_trees)) no_trees)) no_trees)

worth_of_decay : forward_worth_in (outward decay.scales) decay 4 (always ∷ [])
    ≡ record { low = pos 1110999996; high = pos 1111000007 }
unfolding decay forward_worth_in weights_after_in weighted_reward_in outward mul_down mul_up ceiling_of
    joint_root_action trees_after joint_observations joint_actions trans_at obs_at reward_at start_at step_scale
worth_of_decay = refl

-- ---- outward: a chance is divided by the scale of transitions first and then by that of observations, a value of
-- the table by that of transitions and then by that of the discount, rounded each time
abbrev coarse : Scales
coarse = record { start = 1; trans = 2; obs = 4; reward = 1; discount = 4; gain = 3 }

chance_of_coarse : (outward coarse).chance (point (pos 5)) 1 3 ≡ record { low = pos 1; high = pos 3 }
unfolding outward mul_down mul_up ceiling_of
chance_of_coarse = refl

carry_of_coarse : (outward coarse).carry (pos 5) 1 ≡ pos 3
unfolding outward mul_down mul_up ceiling_of
carry_of_coarse = refl

-- ---- outward: the look-ahead is capped by the weights against the table
capped_look_of_decay : look_ahead_in (outward decay.scales) decay 2
    (λ s. (outward decay.scales).start (start_at decay s)) 2 ≡ pos 1100000002
unfolding decay outward mul_down mul_up ceiling_of weights_after_in weighted_reward_in weighted_table_in
    joint_observations joint_actions trans_at obs_at reward_at start_at step_scale
capped_look_of_decay = refl

-- ---- outward bounds along a path: each leaf states the least one
abbrev chain : BoundTree
chain = branch 0 0 (more_bound_trees (branch 0 0 (more_bound_trees
    (branch 0 0 (more_bound_trees (branch 0 0 (more_bound_trees (leaf (pos 1111000002)) no_bound_trees))
    no_bound_trees)) no_bound_trees)) no_bound_trees)

caps_of_decay : map (λ (n : Node). n.cap) (nodes_of (outward decay.scales) decay 4 1 0 chain (root_front decay)
    (front_bound (outward decay.scales) decay 4 1 (root_front decay)))
    ≡ pos 1111000002 ∷ pos 1111000002 ∷ pos 1111000002 ∷ pos 1111000002 ∷ pos 1111000002 ∷ []
unfolding decay front_bound outward mul_down mul_up ceiling_of reward_factor weights_after_in weighted_reward_in
    weighted_table_in action_look_ahead_in class_weight_in joint_class fixed_joint_action agreeing_actions
    joint_observations joint_actions trans_at obs_at reward_at start_at step_scale root_front front_after_choice
    advanced_agent
caps_of_decay = refl
