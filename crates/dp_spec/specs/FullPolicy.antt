-- The joint policy that a full front fixes.
use Rattle.std.specs.Prelude.{ℕ, zero, suc, ◌+◌, ◌*◌, List, [], ◌∷◌, get_or}
use Rattle.dp_spec.specs.Model.{Model}
use Rattle.dp_spec.specs.PolicyTree.{PolicyTree, PolicyTrees, node, no_trees, more_trees}
use Rattle.dp_spec.specs.Front.{AgentFront, Front}

-- the trees g 0, .., g (c - 1)
abbrev pub trees_from : ℕ → (ℕ → PolicyTree) → PolicyTrees
trees_from zero g = no_trees
trees_from (suc c) g = more_trees (g 0) (trees_from c (λ o. g (suc o)))

-- what remains, after own history x of length t with r steps left, of the tree that does act u y after each own
-- history y of length u
abbrev pub tree_doing_after : ℕ → (ℕ → ℕ → ℕ) → ℕ → ℕ → ℕ → PolicyTree
tree_doing_after n act zero t x = node 0 no_trees
tree_doing_after n act (suc zero) t x = node (act t x) no_trees
tree_doing_after n act (suc (suc r)) t x =
    node (act t x) (trees_from n (λ o. tree_doing_after n act (suc r) (suc t) (x * n + o)))

-- the tree of r steps that does act u y after each own history y of length u
abbrev pub tree_doing : ℕ → (ℕ → ℕ → ℕ) → ℕ → PolicyTree
tree_doing n act r = tree_doing_after n act r 0 0

-- for each agent the tree of f steps that does the fixed actions
abbrev pub trees_doing_fixed : ℕ → List ℕ → List AgentFront → List PolicyTree
trees_doing_fixed f [] ds = []
trees_doing_fixed f (n ∷ ns) [] = []
trees_doing_fixed f (n ∷ ns) (d ∷ ds) =
    tree_doing n (λ t x. get_or (get_or d.fixed t []) x 0) f ∷ trees_doing_fixed f ns ds

-- the joint policy that does, after each own history shorter than the stage, the action that the front fixes there
unfoldable pub full_policy : Model → Front → List PolicyTree
full_policy m F = trees_doing_fixed F.stage m.observations F.agents
