-- The trees of a joint policy with their horizon, and what is kept of them without a model.
use Rattle.std.specs.Prelude.{ℕ, suc, ◌^◌, ◌<◌, ◌≤◌, List, length, get_or, map, refl}
use Rattle.std.specs.Coded.{Coded, code_by, coded×, coded_ℕ, coded_list}
use Rattle.dp_spec.specs.PolicyTree.{IsPolicyTree, PolicyTree, PolicyTrees, node, no_trees, more_trees, subtrees}
use Rattle.dp_policy.specs.declared.tree.PTree.{PTree}
use Rattle.dp_policy.specs.contracts.tree.PTree as rows
use Rattle.dp_policy.specs.TreeValue.{policy_tree}

-- trees over a horizon
pub record HorizonTrees : Type 0 where
  pub horizon : ℕ
  pub trees : List PTree

-- they are stored as the pair of the two
abbrev pub trees_code : Coded HorizonTrees
trees_code =
    code_by (ℕ × List PTree) (coded× coded_ℕ (coded_list rows.the_row.coded)) (λ p. (p.horizon, p.trees))
    (λ p. record { horizon = p.0; trees = p.1 }) (λ _. refl)

-- the joint policy that they are: for each agent the policy tree that its tree holds
abbrev pub joint_policy : HorizonTrees → List PolicyTree
joint_policy p = map policy_tree p.trees

-- how many trees there are
abbrev pub tree_count : PolicyTrees → ℕ
tree_count no_trees = 0
tree_count (more_trees q qs) = suc (tree_count qs)

-- the tree of agent i
abbrev pub tree_of : List PolicyTree → ℕ → PolicyTree
tree_of qs i = get_or qs i (node 0 no_trees)

-- after how many own observations agent i's first step goes on
abbrev pub observations_of : List PolicyTree → ℕ → ℕ
observations_of qs i = tree_count (subtrees (tree_of qs i))

-- From 1 to 24 steps, at most 6 agents, and every node of an agent's tree goes on after as many observations as its
-- root does.
pub record AreKeptTrees (h : ℕ) (qs : List PolicyTree) : Type 0 where
  pub some_step : 0 < h
  pub horizon : h ≤ 24
  pub agents : length qs ≤ 6
  pub whole : (i : ℕ) → i < length qs → IsPolicyTree (2 ^ 32) (observations_of qs i) h (tree_of qs i)
