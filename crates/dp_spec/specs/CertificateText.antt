-- The text of a certificate: its head, its policy, and its bound tree with one line for each node. (Own.)
use Rattle.std.specs.Prelude.{◌≡◌, ℕ, ◌==◌, cond, ℤ, pos, FitsSigned, Bool, if◌then◌else◌, List, [], ◌∷◌, ◌++◌, codes}
use Rattle.std.specs.Int.{w128}
use Rattle.dp_spec.specs.Model.{Model}
use Rattle.dp_spec.specs.SharedPolicy.{unfolded}
use Rattle.dp_spec.specs.SharedRows.{shared_policy_rows}
use Rattle.dp_spec.specs.BoundTree.{BoundTree, BoundTrees, child_count, leaf, branch, merge, no_bound_trees}
use Rattle.dp_spec.specs.BoundTree.{more_bound_trees}
use Rattle.dp_spec.specs.Certificate.{Certificate, HasPolicyOfVersion}
use Rattle.dp_spec.specs.TextLines.{Item, fixed, plain, signed, any_plain, Line, fixed_line, text_of_lines, Allows}
use Rattle.dp_spec.specs.TextLines.{AllAllowed}
use Rattle.dp_spec.specs.PolicyText.{title_form, horizon_form, end_form, horizon_line, policy_rows, agent_lines}

-- ---- the forms of the lines

-- the look, from 1 to 16
abbrev pub look_form : List Item
look_form = fixed (codes "look") ∷ plain 1 16 ∷ []

-- the mode, as one of two words
abbrev pub mode_form : Bool → List Item
mode_form is_exact = fixed (codes "mode") ∷ fixed (if is_exact then codes "exact" else codes "outward") ∷ []

-- a word and a signed number
abbrev pub signed_form : List ℕ → List Item
signed_form word = fixed word ∷ signed ∷ []

-- the number of inner nodes
abbrev pub inner_form : List Item
inner_form = fixed (codes "inner") ∷ any_plain ∷ []

-- a leaf with its bound
abbrev pub leaf_form : List Item
leaf_form = signed_form (codes "L")

-- a branch: the agent, the class, and the number of children
abbrev pub branch_form : List Item
branch_form = fixed (codes "B") ∷ any_plain ∷ any_plain ∷ plain 1 256 ∷ []

-- a merge: the agent, the first class, and the second
abbrev pub merge_form : List Item
merge_form = fixed (codes "M") ∷ any_plain ∷ any_plain ∷ any_plain ∷ []

-- ---- the lines

-- the line of a word and a signed number
abbrev pub signed_line : List ℕ → ℤ → Line
signed_line word z = record { form = signed_form word; numbers = z ∷ [] }

-- the lines before the policy
abbrev pub head_lines : Certificate → List Line
head_lines c =
    fixed_line (title_form (codes "certificate") c.version)
    ∷ horizon_line c.horizon
    ∷ record { form = look_form; numbers = pos c.look ∷ [] }
    ∷ fixed_line (mode_form c.is_exact)
    ∷ signed_line (codes "unit") c.unit
    ∷ signed_line (codes "lower") c.lower
    ∷ signed_line (codes "upper") c.upper
    ∷ record { form = inner_form; numbers = pos c.inner ∷ [] }
    ∷ []

-- the line of a branch
abbrev pub branch_line : ℕ → ℕ → ℕ → Line
branch_line agent class children = record { form = branch_form; numbers = pos agent ∷ pos class ∷ pos children ∷ [] }

-- the line of a merge
abbrev pub merge_line : ℕ → ℕ → ℕ → Line
merge_line agent first second = record { form = merge_form; numbers = pos agent ∷ pos first ∷ pos second ∷ [] }

-- one line for each node in preorder, so that a node's line comes first and the lines of its children follow in order
abbrev mutual
  pub node_lines : BoundTree → List Line
  node_lines (leaf x) = signed_line (codes "L") x ∷ []
  node_lines (branch i c ks) = branch_line i c (child_count ks) ∷ children_lines ks
  node_lines (merge i a b k) = merge_line i a b ∷ node_lines k

  -- the lines of the trees of a list, in order
  pub children_lines : BoundTrees → List Line
  children_lines no_bound_trees = []
  children_lines (more_bound_trees k ks) = node_lines k ++ children_lines ks

-- for each agent the lines of its rows: in version 1 the actions after its own histories, else its shared rows
unfoldable pub certificate_rows : List ℕ → List ℕ → Certificate → List (List Line)
certificate_rows bs ns c =
    cond (c.version == 1) (policy_rows bs ns c.horizon (unfolded c.policy)) (shared_policy_rows bs ns c.policy)

-- the lines of the text of a certificate, where the agents have bs actions and ns observations
abbrev pub certificate_lines : List ℕ → List ℕ → Certificate → List Line
certificate_lines bs ns c =
    head_lines c
    ++ fixed_line (fixed (codes "policy") ∷ [])
    ∷ (agent_lines 0 (certificate_rows bs ns c)
    ++ fixed_line (fixed (codes "tree") ∷ []) ∷ (node_lines c.tree ++ fixed_line end_form ∷ []))

-- the text of a certificate
unfoldable pub certificate_text : List ℕ → List ℕ → Certificate → List ℕ
certificate_text bs ns c = text_of_lines (certificate_lines bs ns c)

-- the lines of a certificate allow its numbers
pub record HasTextNumbers (c : Certificate) : Type 0 where
  pub horizon : Allows horizon_form (pos c.horizon ∷ [])
  pub look : Allows look_form (pos c.look ∷ [])
  pub unit : FitsSigned w128 c.unit
  pub lower : FitsSigned w128 c.lower
  pub upper : FitsSigned w128 c.upper
  pub inner : Allows inner_form (pos c.inner ∷ [])
  pub tree : AllAllowed (node_lines c.tree)

-- These bytes are the text of a certificate with a policy of its version for a model, and each line has numbers that
-- it allows.
pub record IsCertificateText (m : Model) (bytes : List ℕ) (c : Certificate) : Type 0 where
  pub policy : HasPolicyOfVersion m c
  pub allowed : AllAllowed (certificate_lines m.actions m.observations c)
  pub text : bytes ≡ certificate_text m.actions m.observations c
