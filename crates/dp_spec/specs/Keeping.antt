-- A joint policy keeps a front: it does what the front has fixed and chosen, and goes on alike after histories of one
-- class.
use Rattle.std.specs.Prelude.{ℕ, zero, suc, ◌/◌, ◌%◌, ◌^◌, ◌<◌, ◌≡◌, List, [], ◌∷◌, get_or, Some, None}
use Rattle.dp_spec.specs.Model.{Model}
use Rattle.dp_spec.specs.PolicyTree.{PolicyTree, root_action, subtree}
use Rattle.dp_spec.specs.Front.{AgentFront, Front}

-- what remains of a tree after the own history of length t that has number x in base n
abbrev pub tree_at : ℕ → PolicyTree → ℕ → ℕ → PolicyTree
tree_at n q zero x = q
tree_at n q (suc t) x = subtree (tree_at n q t (x / n)) (x % n)

-- the tree of an agent with n observations keeps its part of a front of stage f
pub record KeepsAgentFront (n f : ℕ) (d : AgentFront) (q : PolicyTree) : Type 0 where
  -- it does the fixed action after each own history shorter than f
  pub does_fixed : (t x : ℕ) → t < f → x < n ^ t → root_action (tree_at n q t x) ≡ get_or (get_or d.fixed t []) x 0
  -- after any two own histories of one class the same remains of it
  pub alike : (x y : ℕ) → x < n ^ f → y < n ^ f → get_or d.class_of x 0 ≡ get_or d.class_of y 0
      → tree_at n q f x ≡ tree_at n q f y
  -- it does the chosen action after each own history of a class that has one
  pub does_chosen : (x a : ℕ) → x < n ^ f → get_or d.chosen (get_or d.class_of x 0) None ≡ Some a
      → root_action (tree_at n q f x) ≡ a

-- one tree per agent, each of which keeps that agent's part of a front of stage f
pub data KeepAgentFronts (f : ℕ) : List ℕ → List AgentFront → List PolicyTree → Type 0 where
  no_agents : KeepAgentFronts f [] [] []
  and_agent : {n : ℕ} {ns : List ℕ} {d : AgentFront} {ds : List AgentFront} {q : PolicyTree} {qs : List PolicyTree} →
      KeepsAgentFront n f d q → KeepAgentFronts f ns ds qs → KeepAgentFronts f (n ∷ ns) (d ∷ ds) (q ∷ qs)

-- the joint policy keeps the front
abbrev pub KeepsFront : Model → Front → List PolicyTree → Type 0
KeepsFront m F qs = KeepAgentFronts F.stage m.observations F.agents qs
