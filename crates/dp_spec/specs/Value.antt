-- The value of a joint policy, computed backwards (Oliehoek and Amato, chapter 3).
use Rattle.std.specs.Prelude.{ℕ, zero, suc, ◌*◌, ◌^◌, ℤ, pos, ◌+ℤ◌, ◌*ℤ◌, List, [], ◌∷◌, map}
use Rattle.dp_base.specs.Sums.{int_sum}
use Rattle.dp_spec.specs.JointNumbers.{joint_number, parts_of}
use Rattle.dp_spec.specs.Model.{Model, joint_observations, trans_at, obs_at, reward_at, step_scale, start_at}
use Rattle.dp_spec.specs.PolicyTree.{PolicyTree, root_action, subtree}

-- the joint action at the roots of the trees
unfoldable pub joint_root_action : Model → List PolicyTree → ℕ
joint_root_action m qs = joint_number m.actions (map root_action qs)

-- in each tree what remains after that agent's observation
abbrev pub subtrees_at : List PolicyTree → List ℕ → List PolicyTree
subtrees_at [] os = []
subtrees_at (q ∷ qs) [] = []
subtrees_at (q ∷ qs) (o ∷ os) = subtree q o ∷ subtrees_at qs os

-- what remains of the trees after joint observation o
unfoldable pub trees_after : Model → List PolicyTree → ℕ → List PolicyTree
trees_after m qs o = subtrees_at qs (parts_of m.observations o)

-- the value of the trees over the r steps that are left, from state s
abbrev pub backward_value : Model → ℕ → ℕ → List PolicyTree → ℤ
backward_value m zero s qs = pos 0
backward_value m (suc r) s qs =
    int_sum m.states (λ t. int_sum (joint_observations m) (λ o.
    pos (trans_at m (joint_root_action m qs) s t * obs_at m (joint_root_action m qs) t o)
    *ℤ (reward_at m (joint_root_action m qs) s t o *ℤ pos (m.scales.discount * step_scale m ^ r)
    +ℤ pos m.scales.gain *ℤ backward_value m r t (trees_after m qs o))))

-- the value of a joint policy of h steps from the start, counted in the value scale
unfoldable pub policy_value : Model → ℕ → List PolicyTree → ℤ
policy_value m h qs = int_sum m.states (λ s. pos (start_at m s) *ℤ backward_value m h s qs)
