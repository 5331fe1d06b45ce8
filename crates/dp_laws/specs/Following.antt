-- A joint policy follows a front with given trees at its classes. (What keeping a front comes to, for proofs.)
use Rattle.std.specs.Prelude.{ℕ, ◌^◌, ◌<◌, ◌≡◌, List, [], ◌∷◌, length, get_or, Some, None}
use Rattle.dp_spec.specs.PolicyTree.{PolicyTree, root_action, IsPolicyTree}
use Rattle.dp_spec.specs.Front.{AgentFront}
use Rattle.dp_spec.specs.Keeping.{tree_at}

-- The tree q of an agent follows its part of a front of stage f: after a history of class c the tree us c remains,
-- over r steps.
pub record FollowsAgentFront (b n f r : ℕ) (d : AgentFront) (q : PolicyTree)
    (us : ℕ → PolicyTree) : Type 0 where
  pub does_fixed : (t x : ℕ) → t < f → x < n ^ t → root_action (tree_at n q t x)
      ≡ get_or (get_or d.fixed t []) x 0
  pub remains : (x : ℕ) → x < n ^ f → tree_at n q f x ≡ us (get_or d.class_of x 0)
  pub does_chosen : (c a : ℕ) → c < length d.chosen → get_or d.chosen c None ≡ Some a → root_action (us c) ≡ a
  pub are_trees : (c : ℕ) → c < length d.chosen → IsPolicyTree b n r (us c)
  pub in_range : (x : ℕ) → x < n ^ f → get_or d.class_of x 0 < length d.chosen
  pub of_stage : length d.fixed ≡ f

-- each tree of a joint policy follows its agent's part of a front of stage f, over the r steps that remain
pub data FollowsAgentFronts (f r : ℕ) : List ℕ → List ℕ → List AgentFront → List PolicyTree
    → List (ℕ → PolicyTree)
    → Type 0 where
  no_agents : FollowsAgentFronts f r [] [] [] [] []
  and_agent : {b n : ℕ} {bs ns : List ℕ} {d : AgentFront} {ds : List AgentFront} {q : PolicyTree}
      {qs : List PolicyTree} {us : ℕ → PolicyTree} {uss : List (ℕ → PolicyTree)} →
      FollowsAgentFront b n f r d q us → FollowsAgentFronts f r bs ns ds qs uss →
      FollowsAgentFronts f r (b ∷ bs) (n ∷ ns) (d ∷ ds) (q ∷ qs) (us ∷ uss)
