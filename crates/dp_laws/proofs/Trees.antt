-- Parts of policy trees and of joint policies.
use Rattle.std.proofs.Common.{ℕ, zero, suc, ◌%◌, ◌<◌, List, map, arith}
use Rattle.std.proofs.lemmas.Nat.{mod_below}
use Rattle.dp_spec.specs.JointNumbers.{joint_number, parts_of, product}
use Rattle.dp_spec.specs.PolicyTree.IsJointPolicy.{and_agent, no_agents}
use Rattle.dp_spec.specs.PolicyTree.{ArePolicyTrees, IsJointPolicy, IsPolicyTree, PolicyTree, PolicyTrees, more_trees}
use Rattle.dp_spec.specs.PolicyTree.{no_trees, node, nth_tree, root_action, subtree}
use Rattle.dp_spec.specs.Value.{subtrees_at}
use Rattle.dp_spec.proofs.JointNumberLaws.{part_below, positive_right, row_below}

-- the root of a tree of steps does an action of the agent
pub root_action_below : (b n r : ℕ) (q : PolicyTree) → IsPolicyTree b n (suc r) q → root_action q < b
root_action_below b n zero (node a ks) h = h.0
root_action_below b n (suc r) (node a ks) h = h.0

-- the joint action at the roots exists
pub joint_root_action_below : {r : ℕ} {bs ns : List ℕ} {qs : List PolicyTree} → IsJointPolicy (suc r) bs ns qs
    → joint_number bs (map root_action qs) < product bs
joint_root_action_below no_agents = omega arith
joint_root_action_below (and_agent {b = b} h hs) = row_below _ b _ _ (root_action_below _ _ _ _ h)
    (joint_root_action_below hs)

-- each tree of a list of trees is one
pub nth_tree_fits : (b n r c : ℕ) (ks : PolicyTrees) (o : ℕ) → o < c → ArePolicyTrees b n r c ks
    → IsPolicyTree b n r (nth_tree ks o)
nth_tree_fits b n r zero ks o p h = absurd (omega arith)
nth_tree_fits b n r (suc c) no_trees o p h = absurd h
nth_tree_fits b n r (suc c) (more_trees k ks) zero p h = h.0
nth_tree_fits b n r (suc c) (more_trees k ks) (suc o) p h = nth_tree_fits b n r c ks o (omega arith) h.1

-- what remains of a tree after an observation is a tree of one step less
pub subtree_fits : (b n r : ℕ) (q : PolicyTree) (o : ℕ) → o < n → IsPolicyTree b n (suc r) q
    → IsPolicyTree b n r (subtree q o)
subtree_fits b n zero q o p h = tt
subtree_fits b n (suc r) (node a ks) o p h = nth_tree_fits b n (suc r) n ks o p h.1

-- what remains of a joint policy after a joint observation is one of one step less
pub subtrees_fit : {r : ℕ} {bs ns : List ℕ} {qs : List PolicyTree} (o : ℕ) → o < product ns
    → IsJointPolicy (suc r) bs ns qs → IsJointPolicy r bs ns (subtrees_at qs (parts_of ns o))
subtrees_fit o p no_agents = no_agents
subtrees_fit o p (and_agent {n = n} {ns = ns} h hs) =
    and_agent (subtree_fits _ n _ _ _ (part_below n (product ns) o p) h)
    (subtrees_fit (o % product ns) (mod_below o (product ns) (positive_right n (product ns) o p)) hs)
