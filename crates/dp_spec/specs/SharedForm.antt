-- Shared forms: shared policies with one row for each different tree that remains after own histories. (Own.)
use Rattle.std.specs.Prelude.{ℕ, suc, ◌<◌, ◌≤◌, ◌^◌, ◌≡◌, max, ◌++◌, get_or, Bool, true, false, ◌&&◌, not, cond, ◌==◌}
use Rattle.std.specs.Prelude.{List, [], ◌∷◌, map, filter}
use Rattle.std.specs.List.{AllByRecursion, range_with_len}
use Rattle.dp_spec.specs.Model.{Model}
use Rattle.dp_spec.specs.PolicyTree.{PolicyTree, PolicyTrees, node, no_trees, more_trees, root_action, subtree}
use Rattle.dp_spec.specs.Keeping.{tree_at}
use Rattle.dp_spec.specs.SharedPolicy.{PolicyRow, AgentRows, SharedPolicy, row_at, row_count, unfolded}
use Rattle.dp_spec.specs.PlainForm.{observations_after}

abbrev mutual
  -- whether two trees are equal
  pub same_tree : PolicyTree → PolicyTree → Bool
  same_tree (node a ks) (node b ls) = a == b && same_trees ks ls

  -- whether two lists of trees are
  pub same_trees : PolicyTrees → PolicyTrees → Bool
  same_trees no_trees no_trees = true
  same_trees no_trees (more_trees l ls) = false
  same_trees (more_trees k ks) no_trees = false
  same_trees (more_trees k ks) (more_trees l ls) = same_tree k l && same_trees ks ls

-- the different trees of a list, in order of their first places
abbrev pub different_trees : List PolicyTree → List PolicyTree
different_trees [] = []
different_trees (q ∷ qs) = q ∷ filter (λ (other : PolicyTree). not (same_tree q other)) (different_trees qs)

-- the first place of a tree in a list
abbrev pub place_of_tree : PolicyTree → List PolicyTree → ℕ
place_of_tree q [] = 0
place_of_tree q (other ∷ qs) = cond (same_tree q other) 0 (suc (place_of_tree q qs))

-- the different trees that remain of the tree q after own histories of length t, in order of the first history
abbrev pub remaining_trees : ℕ → PolicyTree → ℕ → List PolicyTree
remaining_trees n q t = different_trees (map (tree_at n q t) (range_with_len 0 (n ^ t)))

-- the row of stage t of a remaining tree k of the tree q
abbrev pub shared_row : ℕ → ℕ → PolicyTree → ℕ → PolicyTree → PolicyRow
shared_row n h q t k = record {
  action = root_action k;
  next = map (λ o. place_of_tree (subtree k o) (remaining_trees n q (suc t))) (observations_after n h t);
}

-- the rows of the tree q of h steps over n observations, one for each different remaining tree
abbrev pub shared_rows : ℕ → ℕ → PolicyTree → AgentRows
shared_rows n h q = map (λ t. map (shared_row n h q t) (remaining_trees n q t)) (range_with_len 0 h)

-- such rows for each agent
abbrev pub shared_rows_of : List ℕ → ℕ → List PolicyTree → SharedPolicy
shared_rows_of (n ∷ ns) h (q ∷ qs) = shared_rows n h q ∷ shared_rows_of ns h qs
shared_rows_of ns h qs = []

-- the shared form of a joint policy of h steps
unfoldable pub shared_form : Model → ℕ → List PolicyTree → SharedPolicy
shared_form m h qs = shared_rows_of m.observations h qs

-- a shared policy of h steps is a shared form: that of the joint policy that its rows mean
abbrev pub IsSharedForm : Model → ℕ → SharedPolicy → Type 0
IsSharedForm m h p = p ≡ shared_form m h (unfolded p)

-- ---- shared forms by their rows

-- Numbers are read in order, where those below c were read before: each is below c, or the next new one.
abbrev pub AreInOrder : ℕ → List ℕ → Type 0
AreInOrder c [] = Unit {0}
AreInOrder c (x ∷ xs) = (x ≤ c) × AreInOrder (max c (suc x)) xs

-- so many were read then
abbrev pub read_after : ℕ → List ℕ → ℕ
read_after c [] = c
read_after c (x ∷ xs) = read_after (max c (suc x)) xs

-- the next rows of all rows of a stage, row after row
abbrev pub all_nexts : List PolicyRow → List ℕ
all_nexts [] = []
all_nexts (row ∷ rows) = row.next ++ all_nexts rows

-- the rows of each stage of h differ, and all rows of the next stage are reached, in order
pub record AreReducedRows (h : ℕ) (stages : AgentRows) : Type 0 where
  pub different : (t r s : ℕ) → t < h → r < row_count stages t → s < row_count stages t
      → row_at stages t r ≡ row_at stages t s → r ≡ s
  pub in_order : (t : ℕ) → suc t < h → AreInOrder 0 (all_nexts (get_or stages t []))
  pub reached : (t : ℕ) → suc t < h → read_after 0 (all_nexts (get_or stages t [])) ≡ row_count stages (suc t)

-- such rows for each agent
abbrev pub AreReduced : ℕ → SharedPolicy → Type 0
AreReduced h p = AllByRecursion (λ stages. AreReducedRows h stages) p
