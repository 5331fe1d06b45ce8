-- The grammar of policy texts: for each agent the actions after its own histories, stage by stage. (Own.)
use Rattle.std.specs.Prelude.{ℕ, zero, suc, ◌+◌, unsigned_abs, List, [], ◌∷◌, map, Option, codes}
use Rattle.std.specs.Fmt.{decimal}
use Rattle.dp_spec.specs.Model.{Model}
use Rattle.dp_spec.specs.PolicyText.{horizon_form, row_form}
use Rattle.dp_model.specs.declared.limit.TooLarge.{TooLarge}
use Rattle.dp_model.specs.Horizons.{horizon_limits}
use Rattle.dp_model.specs.Limits.{first_passed}
use Rattle.dp_lines.specs.Grammar.{Grammar, ends, ◌>>=◌}
use Rattle.dp_lines.specs.Steps.{the_words, the_numbers, unless_passed, first_plain}

-- a joint policy by its actions: for each agent and each stage those after the own histories, in order
pub record PolicyActions : Type 0 where
  pub horizon : ℕ
  pub agents : List (List (List ℕ))

-- the rows of so many stages from stage t on, of an agent with b actions and n observations
abbrev pub stage_rows : {L : Type 0} → ℕ → ℕ → ℕ → ℕ → Grammar L (List (List ℕ))
stage_rows b n t zero = ends []
stage_rows b n t (suc left) = do
  row ← the_numbers (row_form b n t)
  others ← stage_rows b n (t + 1) left
  ends (map unsigned_abs row ∷ others)

-- the words of the line before an agent's rows
abbrev pub agent_words : ℕ → List (List ℕ)
agent_words agent = codes "agent" ∷ decimal agent ∷ []

-- the agents from this one on, which have so many actions and observations
abbrev pub agent_rows : {L : Type 0} → ℕ → ℕ → List ℕ → List ℕ → Grammar L (List (List (List ℕ)))
agent_rows h agent [] ns = ends []
agent_rows h agent (b ∷ bs) [] = ends []
agent_rows h agent (b ∷ bs) (n ∷ ns) = do
  title ← the_words (agent_words agent)
  rows ← stage_rows b n 0 h
  others ← agent_rows h (agent + 1) bs ns
  ends (rows ∷ others)

abbrev pub title_words : List ℕ → List (List ℕ)
title_words kind = codes "decplan" ∷ kind ∷ codes "1" ∷ []

abbrev pub end_words : List (List ℕ)
end_words = codes "end" ∷ []

-- Policy texts for agents with so many actions and observations, where a horizon may pass a limit.
abbrev pub policy_lines_of : {L : Type 0} → (ℕ → Option L) → List ℕ → List ℕ → Grammar L PolicyActions
policy_lines_of passed bs ns = do
  title ← the_words (title_words (codes "policy"))
  zs ← the_numbers horizon_form
  kept ← unless_passed (passed (first_plain zs))
  agents ← agent_rows (first_plain zs) 0 bs ns
  end ← the_words end_words
  ends (record { horizon = first_plain zs; agents = agents })

-- policy texts for a model
unfoldable pub policy_grammar : Model → Grammar TooLarge PolicyActions
policy_grammar m = policy_lines_of (λ h. first_passed (horizon_limits m h)) m.actions m.observations
