-- The bytes of a certificate text, as they are written.
use Rattle.std.specs.Prelude.{ℕ, ◌+◌, ℤ, true, false, cond, ◌==◌, List, [], ◌∷◌, ◌++◌, map, length, codes}
use Rattle.std.specs.Fmt.{decimal, signed_decimal}
use Rattle.dp_spec.specs.BoundTree.{BoundTree, BoundTrees, child_count, leaf, branch, merge, no_bound_trees}
use Rattle.dp_spec.specs.BoundTree.{more_bound_trees}
use Rattle.dp_spec.specs.Certificate.{Certificate}
use Rattle.dp_lines.specs.Lines.{row_tail}
use Rattle.dp_spec.specs.SharedPolicy.{AgentRows, PolicyRow, SharedPolicy}

-- a word with its space, a number, and a line feed
abbrev pub plain_bytes : List ℕ → ℕ → List ℕ
plain_bytes word n = word ++ (decimal n ++ 10 ∷ [])

abbrev pub signed_bytes : List ℕ → ℤ → List ℕ
signed_bytes word z = word ++ (signed_decimal z ++ 10 ∷ [])

-- the lines before the interval
abbrev pub manner_bytes : Certificate → List ℕ
manner_bytes c =
    plain_bytes (codes "decplan certificate ") c.version
    ++ (plain_bytes (codes "horizon ") c.horizon
    ++ (plain_bytes (codes "look ") c.look ++ cond c.is_exact (codes "mode exact\n") (codes "mode outward\n")))

-- the lines of the interval
abbrev pub interval_bytes : Certificate → List ℕ
interval_bytes c =
    signed_bytes (codes "unit ") c.unit ++ (signed_bytes (codes "lower ") c.lower
    ++ signed_bytes (codes "upper ") c.upper)

-- the lines before the policy
abbrev pub head_bytes : Certificate → List ℕ
head_bytes c = manner_bytes c ++ (interval_bytes c ++ (plain_bytes (codes "inner ") c.inner
    ++ codes "policy\n"))

-- the agents from this one on, each with the lines of its rows
abbrev pub agents_bytes : (AgentRows → List ℕ) → ℕ → SharedPolicy → List ℕ
agents_bytes rows agent [] = []
agents_bytes rows agent (stages ∷ others) =
    plain_bytes (codes "agent ") agent ++ (rows stages ++ agents_bytes rows (agent + 1) others)

-- in version 1 the actions of each stage
abbrev pub actions_bytes : AgentRows → List ℕ
actions_bytes [] = []
actions_bytes (rows ∷ stages) = (row_tail true (map (λ (row : PolicyRow). row.action) rows) ++ 10 ∷ [])
    ++ actions_bytes stages

-- in version 2 the rows of each stage
abbrev pub row_bytes : PolicyRow → List ℕ
row_bytes row = decimal row.action ++ (row_tail false row.next ++ 10 ∷ [])

abbrev pub rows_bytes : List PolicyRow → List ℕ
rows_bytes [] = []
rows_bytes (row ∷ rows) = row_bytes row ++ rows_bytes rows

abbrev pub stages_bytes : AgentRows → List ℕ
stages_bytes [] = []
stages_bytes (rows ∷ stages) = rows_bytes rows ++ stages_bytes stages

-- how many there are
abbrev pub counts_bytes : AgentRows → List ℕ
counts_bytes stages = codes "rows" ++ (row_tail false (map (λ (rows : List PolicyRow). length rows) stages)
    ++ 10 ∷ [])

abbrev pub counted_bytes : AgentRows → List ℕ
counted_bytes stages = counts_bytes stages ++ stages_bytes stages

-- the line of a branch or a merge
abbrev pub three_bytes : List ℕ → ℕ → ℕ → ℕ → List ℕ
three_bytes word a b c = word ++ (decimal a ++ 32 ∷ (decimal b ++ 32 ∷ (decimal c ++ 10 ∷ [])))

-- each node before its children
abbrev mutual
  pub node_bytes : BoundTree → List ℕ
  node_bytes (leaf x) = signed_bytes (codes "L ") x
  node_bytes (branch i c ks) = three_bytes (codes "B ") i c (child_count ks) ++ children_bytes ks
  node_bytes (merge i a b k) = three_bytes (codes "M ") i a b ++ node_bytes k

  pub children_bytes : BoundTrees → List ℕ
  children_bytes no_bound_trees = []
  children_bytes (more_bound_trees k ks) = node_bytes k ++ children_bytes ks

-- the whole text
abbrev pub certificate_bytes : Certificate → List ℕ
certificate_bytes c =
    head_bytes c
    ++ (agents_bytes (cond (c.version == 1) actions_bytes counted_bytes) 0 c.policy
    ++ (codes "tree\n" ++ (node_bytes c.tree ++ codes "end\n")))
