-- The rows of the joint policy that always does one joint action: one at each stage. (Own.)
use Rattle.std.specs.Prelude.{ℕ, List, [], ◌∷◌, map}
use Rattle.std.specs.List.{range_with_len}
use Rattle.dp_spec.specs.JointNumbers.{parts_of}
use Rattle.dp_spec.specs.Model.{Model}
use Rattle.dp_spec.specs.PlainForm.{observations_after}
use Rattle.dp_spec.specs.SharedPolicy.{AgentRows, PolicyRow, SharedPolicy}

-- the row of stage t of h: action a, and the one row of the next stage after each of n observations
abbrev pub constant_row : ℕ → ℕ → ℕ → ℕ → PolicyRow
constant_row n h a t = record { action = a; next = map (λ o. 0) (observations_after n h t) }

-- the rows over n observations and h stages that always do action a
abbrev pub constant_agent_rows : ℕ → ℕ → ℕ → AgentRows
constant_agent_rows n h a = map (λ t. constant_row n h a t ∷ []) (range_with_len 0 h)

-- such rows for each agent, for these numbers of observations and these actions
abbrev pub constant_rows_of : List ℕ → ℕ → List ℕ → SharedPolicy
constant_rows_of [] h as' = []
constant_rows_of (n ∷ ns) h [] = []
constant_rows_of (n ∷ ns) h (a ∷ as') = constant_agent_rows n h a ∷ constant_rows_of ns h as'

-- the rows over h stages in which every agent always does its part of joint action a
unfoldable pub constant_rows : Model → ℕ → ℕ → SharedPolicy
constant_rows m h a = constant_rows_of m.observations h (parts_of m.actions a)
