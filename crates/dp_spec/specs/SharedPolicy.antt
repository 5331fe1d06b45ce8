-- Shared policies: joint policies in which histories after which an agent goes on alike may share one row. (Own.)
use Rattle.std.specs.Prelude.{ℕ, zero, suc, ◌*◌, ◌/◌, ◌%◌, ◌^◌, ◌<◌, ◌≤◌, ◌≡◌, List, [], ◌∷◌, map, length, get_or}
use Rattle.dp_spec.specs.JointNumbers.{product}
use Rattle.dp_spec.specs.Model.{Model}
use Rattle.dp_spec.specs.PolicyTree.{PolicyTree, PolicyTrees, node, no_trees, more_trees}

-- a row of a stage: its action, and for each own observation the number of the row that follows at the next stage
pub record PolicyRow : Type 0 where
  pub action : ℕ
  pub next : List ℕ

-- an agent's rows, stage by stage
abbrev pub AgentRows : Type 0
AgentRows = List (List PolicyRow)

-- the rows of each agent
abbrev pub SharedPolicy : Type 0
SharedPolicy = List AgentRows

-- the row that stands for one that is not there
abbrev pub no_row : PolicyRow
no_row = record { action = 0; next = [] }

-- row r of stage t
abbrev pub row_at : AgentRows → ℕ → ℕ → PolicyRow
row_at stages t r = get_or (get_or stages t []) r no_row

-- how many rows stage t has
abbrev pub row_count : AgentRows → ℕ → ℕ
row_count stages t = length (get_or stages t [])

-- for each agent how many rows it has at stage t
abbrev pub row_counts : SharedPolicy → ℕ → List ℕ
row_counts p t = map (λ (stages : AgentRows). row_count stages t) p

-- ---- the joint policy that the rows mean

-- the trees g x of the numbers of a list
abbrev pub trees_of : (ℕ → PolicyTree) → List ℕ → PolicyTrees
trees_of g [] = no_trees
trees_of g (x ∷ xs) = more_trees (g x) (trees_of g xs)

-- the tree of a row: its action, and the tree g x of each of its next rows x
abbrev pub tree_of_row : (ℕ → PolicyTree) → PolicyRow → PolicyTree
tree_of_row g row = node row.action (trees_of g row.next)

-- the tree of row r of the first of these stages
abbrev pub unfolded_tree : AgentRows → ℕ → PolicyTree
unfolded_tree [] r = node 0 no_trees
unfolded_tree (rows ∷ stages) r = tree_of_row (unfolded_tree stages) (get_or rows r no_row)

-- for each agent the tree of its first row
abbrev pub unfolded : SharedPolicy → List PolicyTree
unfolded p = map (λ (stages : AgentRows). unfolded_tree stages 0) p

-- the row of stage t that is reached by own history x of length t, which is a number in base n
abbrev pub row_of_history : ℕ → AgentRows → ℕ → ℕ → ℕ
row_of_history n stages zero x = 0
row_of_history n stages (suc t) x = get_or (row_at stages t (row_of_history n stages t (x / n))).next (x % n) 0

-- ---- the shared policies of a model

-- how many next rows a row has where these stages follow its own: one for each of n observations, none at the end
abbrev pub next_count : ℕ → AgentRows → ℕ
next_count n [] = 0
next_count n (rows ∷ stages) = n

-- how many rows the first of these stages has
abbrev pub first_count : AgentRows → ℕ
first_count [] = 0
first_count (rows ∷ stages) = length rows

-- a row of an agent with b actions that has so many next rows, each below a count
pub record IsRow (b nexts count : ℕ) (row : PolicyRow) : Type 0 where
  pub action : row.action < b
  pub one_each : length row.next ≡ nexts
  pub below : (o : ℕ) → o < nexts → get_or row.next o 0 < count

-- stages of an agent with b actions and n observations: none is empty, and the next rows are rows of the next stage
abbrev pub AreStages : ℕ → ℕ → AgentRows → Type 0
AreStages b n [] = Unit {0}
AreStages b n (rows ∷ stages) =
    (0 < length rows)
    × ((r : ℕ) → r < length rows → IsRow b (next_count n stages) (first_count stages) (get_or rows r no_row))
    × AreStages b n stages

-- an agent's rows over h stages, of which the first has one row
pub record AreAgentRows (b n h : ℕ) (stages : AgentRows) : Type 0 where
  pub of_horizon : length stages ≡ h
  pub one_first : first_count stages ≡ 1
  pub rows : AreStages b n stages

-- such rows for each agent, by how many actions and how many observations each agent has
pub data AreRowsOfAgents (h : ℕ) : List ℕ → List ℕ → SharedPolicy → Type 0 where
  no_agents : AreRowsOfAgents h [] [] []
  and_agent : {b n : ℕ} {bs ns : List ℕ} {stages : AgentRows} {p : SharedPolicy} → AreAgentRows b n h stages
      → AreRowsOfAgents h bs ns p → AreRowsOfAgents h (b ∷ bs) (n ∷ ns) (stages ∷ p)

-- a shared policy of h steps for a model, within the limit on the joint rows of a stage
pub record IsSharedOf (m : Model) (h : ℕ) (p : SharedPolicy) : Type 0 where
  pub agents : AreRowsOfAgents h m.actions m.observations p
  pub cells : (t : ℕ) → t < h → m.states * product (row_counts p t) ≤ 2 ^ 22
