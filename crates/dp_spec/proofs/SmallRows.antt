-- Worked rows of the small models: discount, merging, outward numbers, certificates.
use Rattle.std.proofs.Common.{◌≡◌, ◌<◌, ℕ, pos, [], ◌∷◌, refl, arith}
use Rattle.dp_spec.specs.Model.{joint_actions, joint_observations, start_at, trans_at, obs_at, reward_at, step_scale}
use Rattle.dp_spec.specs.Model.{value_scale}
use Rattle.dp_spec.specs.PolicyTree.{PolicyTree, node, no_trees, more_trees}
use Rattle.dp_spec.specs.Value.{joint_root_action, trees_after, policy_value}
use Rattle.dp_spec.specs.MdpTable.{mdp_table}
use Rattle.dp_spec.specs.LookAhead.{look_ahead, weights_after, weighted_reward}
use Rattle.dp_spec.specs.Arithmetic.{exact, point, reward_factor}
use Rattle.dp_spec.specs.Quantities.{forward_worth_in, mdp_table_in, weighted_reward_in, weights_after_in}
use Rattle.dp_spec.specs.JointHistory.{earned_reward}
use Rattle.dp_spec.specs.Front.{Front, fixed_joint_action, joint_class, class_weight}
use Rattle.dp_spec.specs.Steps.{root_front, front_after_choice, advanced_agent}
use Rattle.dp_spec.specs.Merge.{AreEquivalent, class_of_agent, class_of_others, place_weight, class_total}
use Rattle.dp_spec.specs.Merge.{merged_front}
use Rattle.dp_spec.proofs.SmallModels.{blind, drift, halved, tiger}

-- ---- the discount is one half: the first reward of 3 counts in full, the second by one half
abbrev three_twice : PolicyTree
three_twice = node 0 (more_trees (node 0 no_trees) no_trees)

value_of_halved : policy_value halved 2 (three_twice ∷ []) ≡ pos 450
unfolding halved policy_value joint_root_action trees_after joint_observations start_at trans_at obs_at reward_at
    step_scale
value_of_halved = refl

scale_of_halved : value_scale halved 2 ≡ 100
unfolding halved value_scale step_scale
scale_of_halved = refl

-- 5 and the half of 5
table_of_halved : mdp_table halved 2 0 ≡ pos 750
unfolding halved joint_actions joint_observations trans_at obs_at reward_at step_scale
table_of_halved = refl

earned_of_halved : earned_reward halved (λ H. 0) 2 2 ≡ pos 450
unfolding halved joint_observations start_at trans_at obs_at reward_at step_scale weights_after weighted_reward
earned_of_halved = refl

-- ---- the chance of a joint observation is that of the state reached
abbrev twice : PolicyTree
twice = node 0 (more_trees (node 0 no_trees) (more_trees (node 0 no_trees) no_trees))

value_of_drift : policy_value drift 2 (twice ∷ []) ≡ pos 430980
unfolding drift policy_value joint_root_action trees_after joint_observations joint_actions trans_at obs_at reward_at
    start_at step_scale
value_of_drift = refl

-- the same in the table, along weights, and in an arithmetic
table_of_drift : mdp_table drift 2 0 ≡ pos 97980
unfolding drift joint_actions joint_observations trans_at obs_at reward_at step_scale
table_of_drift = refl

weights_of_drift : weights_after drift (start_at drift) 0 1 0 ≡ 126
unfolding drift joint_observations start_at trans_at obs_at weights_after
weights_of_drift = refl

look_of_drift : look_ahead drift 2 (start_at drift) 1 ≡ pos 430980
unfolding drift joint_actions joint_observations start_at trans_at obs_at reward_at step_scale weights_after
    weighted_reward
look_of_drift = refl

table_in_of_drift : mdp_table_in (exact drift.scales) drift 2 0 ≡ pos 97980
unfolding drift exact reward_factor joint_actions joint_observations trans_at obs_at reward_at step_scale
table_in_of_drift = refl

weights_in_of_drift : weights_after_in (exact drift.scales) drift (λ s. point (pos (start_at drift s))) 0 1 0
    ≡ point (pos 126)
unfolding drift exact joint_observations start_at trans_at obs_at weights_after_in
weights_in_of_drift = refl

worth_in_of_drift : forward_worth_in (exact drift.scales) drift 2 (twice ∷ []) ≡ point (pos 430980)
unfolding drift exact reward_factor forward_worth_in weights_after_in weighted_reward_in joint_root_action trees_after
    joint_actions joint_observations start_at trans_at obs_at reward_at step_scale
worth_in_of_drift = refl

-- ---- two equivalent classes, and the weight of the merged class
abbrev pub waited : Front
waited = front_after_choice blind (root_front blind) 0 0 0

place_of_heard : place_weight blind waited 0 0 0 0 ≡ 1
unfolding blind joint_actions joint_observations start_at trans_at obs_at weights_after fixed_joint_action
    class_of_agent class_of_others place_weight root_front front_after_choice advanced_agent
place_of_heard = refl

total_of_heard : class_total blind waited 0 0 ≡ 1
unfolding blind joint_actions joint_observations start_at trans_at obs_at weights_after fixed_joint_action
    class_of_agent class_total root_front front_after_choice advanced_agent
total_of_heard = refl

-- the other class never comes, so it is equivalent to every class
total_of_never : class_total blind waited 0 1 ≡ 0
unfolding blind joint_actions joint_observations start_at trans_at obs_at weights_after fixed_joint_action
    class_of_agent class_total root_front front_after_choice advanced_agent
total_of_never = refl

only_zero : (k : ℕ) → k < 1 → k ≡ 0
only_zero k h = omega arith

pub heard_and_never_are_equivalent : AreEquivalent blind waited 0 0 1
unfolding blind joint_actions joint_observations start_at trans_at obs_at weights_after fixed_joint_action
    class_of_agent class_of_others place_weight class_total root_front front_after_choice advanced_agent
heard_and_never_are_equivalent = record { same = λ x s first second. rw (only_zero x first, only_zero s second) refl }

-- listening tigers: the merged class has the weights 14450 and 2550 of its two parts
abbrev heard_together : Front
heard_together = merged_front (front_after_choice tiger (front_after_choice tiger (root_front tiger) 0 0 0) 1 0 0) 0 0
    1

weight_of_merged : class_weight tiger heard_together 0 0 ≡ 17000
unfolding tiger joint_actions joint_observations start_at trans_at obs_at weights_after fixed_joint_action joint_class
    class_weight root_front front_after_choice advanced_agent
weight_of_merged = refl
