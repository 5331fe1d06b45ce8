-- The policy in a certificate text, in the rows of its version. (Own.)
use Rattle.std.specs.Prelude.{ℕ, zero, suc, ◌+◌, ◌*◌, ◌^◌, ℤ, unsigned_abs, cond, ◌==◌, List, [], ◌∷◌, map, replicate}
use Rattle.std.specs.Prelude.{option_map, Option}
use Rattle.dp_spec.specs.Model.{Model}
use Rattle.dp_spec.specs.TextLines.{Item}
use Rattle.dp_spec.specs.PolicyText.{row_form}
use Rattle.dp_spec.specs.PlainForm.{observations_after}
use Rattle.dp_spec.specs.SharedPolicy.{AgentRows, PolicyRow, SharedPolicy}
use Rattle.dp_spec.specs.SharedRows.{counts_form, first_past, products, shared_row_form}
use Rattle.dp_model.specs.declared.limit.Limit.TheVariants.{PolicyCells}
use Rattle.dp_model.specs.declared.limit.TooLarge.{TooLarge}
use Rattle.dp_lines.specs.Grammar.{Grammar, ends, ◌>>=◌}
use Rattle.dp_lines.specs.Steps.{and_then, the_words, the_numbers, unless_passed}
use Rattle.dp_policy.specs.PolicyGrammar.{agent_words}

-- a text of lines that says a value, or passes a limit
abbrev pub Text : Type 0 → Type 0
Text V = Grammar TooLarge V

-- ---- version 1: for each own history an action

-- The rows of the own histories from number c on, which do these actions and go on after these observations, of n.
abbrev pub rows_from : ℕ → List ℕ → ℕ → List ℕ → List PolicyRow
rows_from n seen c [] = []
rows_from n seen c (action ∷ actions) =
    record { action = action; next = map (λ o. c * n + o) seen } ∷ rows_from n seen (c + 1) actions

-- stage t of h, of an agent with b actions and n observations
abbrev pub plain_stage : ℕ → ℕ → ℕ → ℕ → Text (List PolicyRow)
plain_stage b n h t = do
  zs ← the_numbers (row_form b n t)
  ends (rows_from n (observations_after n h t) 0 (map unsigned_abs zs))

-- so many stages from stage t on
abbrev pub plain_stages : ℕ → ℕ → ℕ → ℕ → ℕ → Text AgentRows
plain_stages b n h t zero = ends []
plain_stages b n h t (suc left) = and_then (plain_stage b n h t) (plain_stages b n h (t + 1) left)

-- an agent of this number
abbrev pub plain_agent : ℕ → ℕ → ℕ → ℕ → Text AgentRows
plain_agent h agent b n = do
  title ← the_words (agent_words agent)
  plain_stages b n h 0 h

-- the agents from this one on, which have bs actions and ns observations
abbrev pub plain_agents : ℕ → ℕ → List ℕ → List ℕ → Text SharedPolicy
plain_agents h agent [] ns = ends []
plain_agents h agent (b ∷ bs) [] = ends []
plain_agents h agent (b ∷ bs) (n ∷ ns) = and_then (plain_agent h agent b n) (plain_agents h (agent + 1) bs ns)

-- ---- version 2: for each agent how many rows its stages have, and then the rows

-- the row of a line
abbrev pub row_of : List ℤ → PolicyRow
row_of [] = record { action = 0; next = [] }
row_of (z ∷ zs) = record { action = unsigned_abs z; next = map unsigned_abs zs }

-- a row of a form
abbrev pub row_line : List Item → Text PolicyRow
row_line form = do
  zs ← the_numbers form
  ends (row_of zs)

-- so many rows of a form
abbrev pub rows_of_form : List Item → ℕ → Text (List PolicyRow)
rows_of_form form zero = ends []
rows_of_form form (suc left) = and_then (row_line form) (rows_of_form form left)

-- how many next rows a row has where stages with these counts follow its own
abbrev pub nexts_before : ℕ → List ℕ → ℕ
nexts_before n [] = 0
nexts_before n (count ∷ counts) = n

-- how many rows the first of these stages has
abbrev pub first_of_counts : List ℕ → ℕ
first_of_counts [] = 0
first_of_counts (count ∷ counts) = count

-- stages with so many rows each
abbrev pub shared_stages : ℕ → ℕ → List ℕ → Text AgentRows
shared_stages b n [] = ends []
shared_stages b n (count ∷ counts) =
    and_then (rows_of_form (shared_row_form b (nexts_before n counts) (first_of_counts counts)) count)
    (shared_stages b n counts)

-- the limit that the cells of the stages pass: the first of them that is too large
unfoldable pub cells_passed : List ℕ → Option TooLarge
cells_passed cells = option_map (λ count. record { what = PolicyCells; count = count })
    (first_past (2 ^ 22) cells)

-- The counts of an agent behind others whose joint rows make these cells at the stages, of h stages.
abbrev pub counts_grammar : ℕ → ℕ → List ℕ → Text (List ℕ)
counts_grammar h agent cells = do
  title ← the_words (agent_words agent)
  zs ← the_numbers (counts_form h)
  kept ← unless_passed (cells_passed (products cells (map unsigned_abs zs)))
  ends (map unsigned_abs zs)

-- the agents from this one on
abbrev pub shared_agents : ℕ → ℕ → List ℕ → List ℕ → List ℕ → Text SharedPolicy
shared_agents h agent cells [] ns = ends []
shared_agents h agent cells (b ∷ bs) [] = ends []
shared_agents h agent cells (b ∷ bs) (n ∷ ns) = do
  counts ← counts_grammar h agent cells
  and_then (shared_stages b n counts) (shared_agents h (agent + 1) (products cells counts) bs ns)

-- ---- either

-- the policy of h steps for a model in the rows of a version
unfoldable pub policy_grammar : Model → ℕ → ℕ → Text SharedPolicy
policy_grammar m version h =
    cond (version == 1)
    (plain_agents h 0 m.actions m.observations)
    (shared_agents h 0 (replicate h m.states) m.actions m.observations)
