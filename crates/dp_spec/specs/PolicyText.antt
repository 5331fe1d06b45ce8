-- The text of a joint policy: for each agent the actions after its own histories, one line for each stage. (Own.)
use Rattle.std.specs.Prelude.{◌≡◌, ℕ, ◌+◌, ◌-◌, ◌^◌, pos, List, [], ◌∷◌, ◌++◌, map, replicate, codes}
use Rattle.std.specs.List.{range_with_len}
use Rattle.std.specs.Fmt.{decimal}
use Rattle.dp_spec.specs.Model.{Model}
use Rattle.dp_spec.specs.PolicyTree.{PolicyTree, root_action, IsPolicyOf}
use Rattle.dp_spec.specs.Keeping.{tree_at}
use Rattle.dp_spec.specs.TextLines.{Item, fixed, plain, Line, fixed_line, text_of_lines, AllAllowed}

-- ---- the forms of the lines

-- the first line of a text of this kind, in this version
abbrev pub title_form : List ℕ → ℕ → List Item
title_form kind version = fixed (codes "decplan") ∷ fixed kind ∷ fixed (decimal version) ∷ []

-- the horizon, at least 1
abbrev pub horizon_form : List Item
horizon_form = fixed (codes "horizon") ∷ plain 1 (2 ^ 32 - 1) ∷ []

-- the line before the rows of an agent
abbrev pub agent_form : ℕ → List Item
agent_form agent = fixed (codes "agent") ∷ fixed (decimal agent) ∷ []

-- stage t of an agent with b actions and n observations: one action for each own history of length t
abbrev pub row_form : ℕ → ℕ → ℕ → List Item
row_form b n t = replicate (n ^ t) (plain 0 (b - 1))

-- the last line
abbrev pub end_form : List Item
end_form = fixed (codes "end") ∷ []

-- ---- the lines

-- The actions of a tree after the own histories of length t, in order of the history read as a number with base n,
-- first observation most significant.
abbrev pub row_actions : ℕ → PolicyTree → ℕ → List ℕ
row_actions n q t = map (λ x. root_action (tree_at n q t x)) (range_with_len 0 (n ^ t))

-- the line of stage t
abbrev pub row_line : ℕ → ℕ → PolicyTree → ℕ → Line
row_line b n q t = record { form = row_form b n t; numbers = map pos (row_actions n q t) }

-- for each agent the lines of its stages, in order
abbrev pub policy_rows : List ℕ → List ℕ → ℕ → List PolicyTree → List (List Line)
policy_rows (b ∷ bs) (n ∷ ns) horizon (q ∷ qs) =
    map (row_line b n q) (range_with_len 0 horizon) ∷ policy_rows bs ns horizon qs
policy_rows bs ns horizon qs = []

-- the agents from this one on, each with its number on a line before its rows
abbrev pub agent_lines : ℕ → List (List Line) → List Line
agent_lines agent [] = []
agent_lines agent (rows ∷ others) = fixed_line (agent_form agent) ∷ (rows ++ agent_lines (agent + 1) others)

-- the line of a horizon
abbrev pub horizon_line : ℕ → Line
horizon_line horizon = record { form = horizon_form; numbers = pos horizon ∷ [] }

-- the lines of the text of a joint policy qs, where the agents have bs actions and ns observations
abbrev pub policy_lines : List ℕ → List ℕ → ℕ → List PolicyTree → List Line
policy_lines bs ns horizon qs =
    fixed_line (title_form (codes "policy") 1)
    ∷ horizon_line horizon
    ∷ (agent_lines 0 (policy_rows bs ns horizon qs) ++ fixed_line end_form ∷ [])

-- the text of a joint policy
unfoldable pub policy_text : List ℕ → List ℕ → ℕ → List PolicyTree → List ℕ
policy_text bs ns horizon qs = text_of_lines (policy_lines bs ns horizon qs)

-- These bytes are the text of a joint policy of h steps for a model, and each line has numbers that it allows.
pub record IsPolicyText (m : Model) (bytes : List ℕ) (h : ℕ) (qs : List PolicyTree) : Type 0 where
  pub policy : IsPolicyOf m h qs
  pub allowed : AllAllowed (policy_lines m.actions m.observations h qs)
  pub text : bytes ≡ policy_text m.actions m.observations h qs
