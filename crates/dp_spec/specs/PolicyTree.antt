-- Policy trees and joint policies (Oliehoek and Amato, chapter 3): deterministic, and each agent acts on its own
-- observations.
use Rattle.std.specs.Prelude.{ℕ, zero, suc, ◌<◌, ◌≡◌, List, [], ◌∷◌}
use Rattle.dp_spec.specs.Model.{Model}

-- an action, and the tree that is followed after each own observation
mutual
  pub data PolicyTree : Type 0 where
    node : ℕ → PolicyTrees → PolicyTree

  pub data PolicyTrees : Type 0 where
    no_trees : PolicyTrees
    more_trees : PolicyTree → PolicyTrees → PolicyTrees

-- the action at the root of a tree, which is done before any observation
abbrev pub root_action : PolicyTree → ℕ
root_action (node a ks) = a

-- what remains of a tree after each observation, in their order
abbrev pub subtrees : PolicyTree → PolicyTrees
subtrees (node a ks) = ks

-- a tree of the list, and one without subtrees where it has fewer
abbrev pub nth_tree : PolicyTrees → ℕ → PolicyTree
nth_tree no_trees o = node 0 no_trees
nth_tree (more_trees k ks) zero = k
nth_tree (more_trees k ks) (suc o) = nth_tree ks o

-- what remains of a tree after observation o
abbrev pub subtree : PolicyTree → ℕ → PolicyTree
subtree q o = nth_tree (subtrees q) o

abbrev mutual
  -- a tree of r steps over b actions and n observations, where of no steps nothing is asked
  pub IsPolicyTree : ℕ → ℕ → ℕ → PolicyTree → Type 0
  IsPolicyTree b n zero q = Unit {0}
  IsPolicyTree b n (suc zero) (node a ks) = (a < b) × (ks ≡ no_trees)
  IsPolicyTree b n (suc (suc r)) (node a ks) = (a < b) × ArePolicyTrees b n (suc r) n ks

  -- so many trees of r steps
  pub ArePolicyTrees : ℕ → ℕ → ℕ → ℕ → PolicyTrees → Type 0
  ArePolicyTrees b n r zero no_trees = Unit {0}
  ArePolicyTrees b n r zero (more_trees k ks) = ⊥
  ArePolicyTrees b n r (suc c) no_trees = ⊥
  ArePolicyTrees b n r (suc c) (more_trees k ks) = IsPolicyTree b n r k × ArePolicyTrees b n r c ks

-- one tree of r steps per agent, for agents with these numbers of actions and observations
pub data IsJointPolicy (r : ℕ) : List ℕ → List ℕ → List PolicyTree → Type 0 where
  no_agents : IsJointPolicy r [] [] []
  and_agent : {b n : ℕ} {bs ns : List ℕ} {q : PolicyTree} {qs : List PolicyTree} → IsPolicyTree b n r q
      → IsJointPolicy r bs ns qs → IsJointPolicy r (b ∷ bs) (n ∷ ns) (q ∷ qs)

-- a joint policy of h steps for a model
abbrev pub IsPolicyOf : Model → ℕ → List PolicyTree → Type 0
IsPolicyOf m h qs = IsJointPolicy h m.actions m.observations qs
