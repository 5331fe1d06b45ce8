-- The rows of a policy text: for each agent and each stage the actions after its own histories, in order.
use Rattle.std.specs.Prelude.{◌≡◌, ℕ, zero, suc, ◌^◌, ◌<◌, List, [], ◌∷◌, ◌++◌, length, get_or, map}
use Rattle.std.specs.List.{range_with_len}
use Rattle.dp_spec.specs.FullPolicy.{tree_doing}
use Rattle.dp_spec.specs.PolicyText.{row_actions}
use Rattle.dp_spec.specs.PolicyTree.{PolicyTree, PolicyTrees, node, no_trees, more_trees, root_action}

-- rows of h stages: that of stage t has an action below b for each of the n ^ t own histories of length t
pub record AreActionRows (b n h : ℕ) (rows : List (List ℕ)) : Type 0 where
  pub stages : length rows ≡ h
  pub histories : (t : ℕ) → t < h → length (get_or rows t []) ≡ n ^ t
  pub actions : (t x : ℕ) → t < h → x < n ^ t → get_or (get_or rows t []) x 0 < b

-- such rows for each agent, where the agents have bs actions and ns observations
abbrev pub AreAgentsRows : ℕ → List ℕ → List ℕ → List (List (List ℕ)) → Type 0
AreAgentsRows h [] [] [] = Unit {0}
AreAgentsRows h (b ∷ bs) (n ∷ ns) (rows ∷ agents) = AreActionRows b n h rows × AreAgentsRows h bs ns agents
AreAgentsRows h bs ns agents = ⊥

-- the action after own history x of length t
abbrev pub action_in : List (List ℕ) → ℕ → ℕ → ℕ
action_in rows t x = get_or (get_or rows t []) x 0

-- the tree of h steps that does these actions
abbrev pub tree_of_rows : ℕ → ℕ → List (List ℕ) → PolicyTree
tree_of_rows n h rows = tree_doing n (action_in rows) h

-- the joint policy that does these actions
abbrev pub trees_of_rows : ℕ → List ℕ → List (List (List ℕ)) → List PolicyTree
trees_of_rows h [] agents = []
trees_of_rows h (n ∷ ns) [] = []
trees_of_rows h (n ∷ ns) (rows ∷ agents) = tree_of_rows n h rows ∷ trees_of_rows h ns agents

-- the rows of a tree, for so many stages from t on
abbrev pub tree_rows : ℕ → PolicyTree → ℕ → ℕ → List (List ℕ)
tree_rows n q t k = map (row_actions n q) (range_with_len t k)

-- the rows of a joint policy
abbrev pub policy_actions : ℕ → List ℕ → List PolicyTree → List (List (List ℕ))
policy_actions h [] qs = []
policy_actions h (n ∷ ns) [] = []
policy_actions h (n ∷ ns) (q ∷ qs) = tree_rows n q 0 h ∷ policy_actions h ns qs

abbrev mutual
  -- the actions of a tree t steps below its root, from the first to the last
  pub actions_below : ℕ → PolicyTree → List ℕ
  actions_below zero q = root_action q ∷ []
  actions_below (suc t) (node a ks) = actions_of_all t ks

  -- those of several trees, one after the other
  pub actions_of_all : ℕ → PolicyTrees → List ℕ
  actions_of_all t no_trees = []
  actions_of_all t (more_trees k ks) = actions_below t k ++ actions_of_all t ks
