-- Plain forms: shared policies with one row for each own history. (Own.)
use Rattle.std.specs.Prelude.{ℕ, suc, ◌+◌, ◌*◌, ◌^◌, ◌<◌, ◌≡◌, cond, nat_lt, List, [], ◌∷◌, map, get_or}
use Rattle.std.specs.List.{range_with_len}
use Rattle.dp_spec.specs.Model.{Model}
use Rattle.dp_spec.specs.PolicyTree.{PolicyTree, root_action}
use Rattle.dp_spec.specs.Keeping.{tree_at}
use Rattle.dp_spec.specs.SharedPolicy.{PolicyRow, AgentRows, SharedPolicy, row_at, row_count}

-- the observations after which a row of stage t goes on, of h stages: all n before the last stage, and none at it
abbrev pub observations_after : ℕ → ℕ → ℕ → List ℕ
observations_after n h t = range_with_len 0 (cond (nat_lt (suc t) h) n 0)

-- row c of stage t of the tree q stands for the own history of number c, and goes on to row c * n + o
abbrev pub plain_row : ℕ → ℕ → PolicyTree → ℕ → ℕ → PolicyRow
plain_row n h q t c = record {
  action = root_action (tree_at n q t c);
  next = map (λ o. c * n + o) (observations_after n h t);
}

-- the rows of the tree q of h steps over n observations, one for each own history
abbrev pub plain_rows : ℕ → ℕ → PolicyTree → AgentRows
plain_rows n h q = map (λ t. map (plain_row n h q t) (range_with_len 0 (n ^ t))) (range_with_len 0 h)

-- such rows for each agent
abbrev pub plain_rows_of : List ℕ → ℕ → List PolicyTree → SharedPolicy
plain_rows_of (n ∷ ns) h (q ∷ qs) = plain_rows n h q ∷ plain_rows_of ns h qs
plain_rows_of ns h qs = []

-- the plain form of a joint policy of h steps
unfoldable pub plain_form : Model → ℕ → List PolicyTree → SharedPolicy
plain_form m h qs = plain_rows_of m.observations h qs

-- the rows of an agent with n observations are one for each own history, and go on as the own histories do
pub record ArePlainRows (n h : ℕ) (stages : AgentRows) : Type 0 where
  pub counts : (t : ℕ) → t < h → row_count stages t ≡ n ^ t
  pub nexts : (t c o : ℕ) → suc t < h → c < n ^ t → o < n → get_or (row_at stages t c).next o 0 ≡ c * n + o

-- such rows for each agent
pub data ArePlain (h : ℕ) : List ℕ → SharedPolicy → Type 0 where
  no_agents : ArePlain h [] []
  and_agent : {n : ℕ} {ns : List ℕ} {stages : AgentRows} {p : SharedPolicy} → ArePlainRows n h stages
      → ArePlain h ns p → ArePlain h (n ∷ ns) (stages ∷ p)

-- a shared policy of h steps is plain: it has a row for each own history
abbrev pub IsPlain : Model → ℕ → SharedPolicy → Type 0
IsPlain m h p = ArePlain h m.observations p
