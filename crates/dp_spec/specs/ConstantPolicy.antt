-- The joint policy that always does one joint action (Oliehoek and Amato, chapter 3).
use Rattle.std.specs.Prelude.{ℕ, zero, suc, List, [], ◌∷◌}
use Rattle.dp_spec.specs.JointNumbers.{parts_of}
use Rattle.dp_spec.specs.Model.{Model}
use Rattle.dp_spec.specs.PolicyTree.{PolicyTree, PolicyTrees, node, no_trees, more_trees}

-- the same tree n times
abbrev pub repeated_tree : ℕ → PolicyTree → PolicyTrees
repeated_tree zero q = no_trees
repeated_tree (suc n) q = more_trees q (repeated_tree n q)

-- the tree of r steps over n observations that always does action a
abbrev pub constant_tree : ℕ → ℕ → ℕ → PolicyTree
constant_tree n zero a = node a no_trees
constant_tree n (suc zero) a = node a no_trees
constant_tree n (suc (suc r)) a = node a (repeated_tree n (constant_tree n (suc r) a))

-- such a tree for each agent, for these numbers of observations and these actions
abbrev pub constant_trees : List ℕ → ℕ → List ℕ → List PolicyTree
constant_trees [] r as' = []
constant_trees (n ∷ ns) r [] = []
constant_trees (n ∷ ns) r (a ∷ as') = constant_tree n r a ∷ constant_trees ns r as'

-- the joint policy of h steps in which every agent always does its part of joint action a
unfoldable pub constant_policy : Model → ℕ → ℕ → List PolicyTree
constant_policy m h a = constant_trees m.observations h (parts_of m.actions a)
