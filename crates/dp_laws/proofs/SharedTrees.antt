-- The trees that the rows of a shared policy mean.
use Rattle.std.proofs.Common.{◌≡◌, ℕ, zero, suc, ◌+◌, ◌*◌, ◌/◌, ◌%◌, ◌^◌, ◌<◌, List, [], ◌∷◌, length, get_or, map}
use Rattle.std.proofs.Common.{refl, sym, ap, ◌∙◌, subst, arith}
use Rattle.std.proofs.Math.Nat.{pow-suc}
use Rattle.std.proofs.lemmas.Nat.{mod_below}
use Rattle.dp_spec.specs.Keeping.{tree_at}
use Rattle.dp_spec.specs.JointNumbers.{parts_of, product}
use Rattle.dp_spec.specs.Model.{Model}
use Rattle.dp_spec.specs.PolicyTree.{ArePolicyTrees, IsJointPolicy, IsPolicyOf, IsPolicyTree, PolicyTree, no_trees}
use Rattle.dp_spec.specs.PolicyTree.{node, nth_tree, root_action, subtree}
use Rattle.dp_spec.specs.PolicyTree.IsJointPolicy.{and_agent as and_policy, no_agents as no_policies}
use Rattle.dp_spec.specs.SharedPolicy.{AgentRows, AreAgentRows, AreRowsOfAgents, AreStages, IsSharedOf, SharedPolicy}
use Rattle.dp_spec.specs.SharedPolicy.{first_count, row_at, row_count, row_counts, row_of_history, tree_of_row}
use Rattle.dp_spec.specs.SharedPolicy.{trees_of, unfolded, unfolded_tree}
use Rattle.dp_spec.specs.SharedPolicy.AreRowsOfAgents.{and_agent, no_agents}
use Rattle.dp_spec.specs.SharedWorth.{actions_of_rows, rows_after}
use Rattle.dp_spec.specs.Value.{subtrees_at}
use Rattle.dp_spec.proofs.JointNumberLaws.{AreBelow, part_below, positive_right}

-- ---- one agent

-- the tree of row r of stage t
abbrev pub rows_tree : AgentRows → ℕ → ℕ → PolicyTree
rows_tree stages zero r = unfolded_tree stages r
rows_tree [] (suc t) r = node 0 no_trees
rows_tree (rows ∷ stages) (suc t) r = rows_tree stages t r

-- it is the row's action, and the trees of its next rows
pub rows_tree_is : (stages : AgentRows) (t r : ℕ)
    → rows_tree stages t r ≡ tree_of_row (rows_tree stages (suc t)) (row_at stages t r)
rows_tree_is [] zero r = refl
rows_tree_is [] (suc t) r = refl
rows_tree_is (rows ∷ stages) zero r = refl
rows_tree_is (rows ∷ stages) (suc t) r = rows_tree_is stages t r

-- a tree of a list of trees
nth_tree-trees_of : (g : ℕ → PolicyTree) (xs : List ℕ) (o : ℕ) → o < length xs
    → nth_tree (trees_of g xs) o ≡ g (get_or xs o 0)
nth_tree-trees_of g [] o lt = absurd (omega arith)
nth_tree-trees_of g (x ∷ xs) zero lt = refl
nth_tree-trees_of g (x ∷ xs) (suc o) lt = nth_tree-trees_of g xs o (omega arith)

-- what remains of the tree of a row after an observation is the tree of the next row
pub subtree_of_row : (stages : AgentRows) (t r o : ℕ) → o < length (row_at stages t r).next
    → subtree (rows_tree stages t r) o ≡ rows_tree stages (suc t) (get_or (row_at stages t r).next o 0)
subtree_of_row stages t r o lt =
    ap (λ (q : PolicyTree). subtree q o) (rows_tree_is stages t r)
    ∙ nth_tree-trees_of (rows_tree stages (suc t)) (row_at stages t r).next o lt

-- rows do actions of their agent
pub row_action_below : (b n : ℕ) (stages : AgentRows) → AreStages b n stages → (t r : ℕ)
    → r < row_count stages t
    → (row_at stages t r).action < b
row_action_below b n [] are t r lt = absurd (omega arith)
row_action_below b n (rows ∷ stages) are zero r lt = (are.1 r lt).action
row_action_below b n (rows ∷ stages) are (suc t) r lt = row_action_below b n stages are.2 t r lt

-- before the last stage a row has a next row for each observation ..
pub row_nexts : (b n : ℕ) (stages : AgentRows) → AreStages b n stages → (t r : ℕ) → suc t < length stages
    → r < row_count stages t → length (row_at stages t r).next ≡ n
row_nexts b n [] are t r step lt = absurd (omega arith)
row_nexts b n (rows ∷ []) are t r step lt = absurd (omega arith)
row_nexts b n (rows ∷ (later ∷ stages)) are zero r step lt = (are.1 r lt).one_each
row_nexts b n (rows ∷ (later ∷ stages)) are (suc t) r step lt = row_nexts b n (later ∷ stages) are.2 t r
    (omega arith) lt

-- .. which is a row of the next stage ..
pub next_row_below : (b n : ℕ) (stages : AgentRows) → AreStages b n stages → (t r o : ℕ) → suc t < length stages
    → r < row_count stages t → o < n → get_or (row_at stages t r).next o 0 < row_count stages (suc t)
next_row_below b n [] are t r o step lt seen = absurd (omega arith)
next_row_below b n (rows ∷ []) are t r o step lt seen = absurd (omega arith)
next_row_below b n (rows ∷ (later ∷ stages)) are zero r o step lt seen = (are.1 r lt).below o seen
next_row_below b n (rows ∷ (later ∷ stages)) are (suc t) r o step lt seen = next_row_below b n (later ∷ stages)
    are.2 t r o (omega arith) lt seen

-- .. and none at the last one
pub last_row_nexts : (b n : ℕ) (stages : AgentRows) → AreStages b n stages → (t r : ℕ) → suc t ≡ length stages
    → r < row_count stages t → (row_at stages t r).next ≡ []
last_row_nexts b n [] are t r last lt = absurd (omega arith)
last_row_nexts b n (rows ∷ []) are zero r last lt = empty _ (are.1 r lt).one_each
  where
    empty : (xs : List ℕ) → length xs ≡ 0 → xs ≡ []
    empty [] e = refl
    empty (x ∷ xs) e = absurd (omega arith)
last_row_nexts b n (rows ∷ []) are (suc t) r last lt = absurd (omega arith)
last_row_nexts b n (rows ∷ (later ∷ stages)) are zero r last lt = absurd (omega arith)
last_row_nexts b n (rows ∷ (later ∷ stages)) are (suc t) r last lt = last_row_nexts b n (later ∷ stages)
    are.2 t r
    (omega arith) lt

-- so many trees of a list of trees
are_trees_of : (b n r c : ℕ) (g : ℕ → PolicyTree) (xs : List ℕ) → length xs ≡ c
    → ((o : ℕ) → o < c → IsPolicyTree b n r (g (get_or xs o 0))) → ArePolicyTrees b n r c (trees_of g xs)
are_trees_of b n r zero g [] e each = tt
are_trees_of b n r zero g (x ∷ xs) e each = absurd (omega arith)
are_trees_of b n r (suc c) g [] e each = absurd (omega arith)
are_trees_of b n r (suc c) g (x ∷ xs) e each = (
  each 0 (omega arith),
  are_trees_of b n r c g xs (omega arith) (λ o lt. each (suc o) (omega arith)),
)

-- the tree of a row has the steps that are left
pub row_tree_fits : (b n : ℕ) (stages : AgentRows) → AreStages b n stages → (r t x : ℕ) → t + r ≡ length stages
    → x < row_count stages t → IsPolicyTree b n r (rows_tree stages t x)
row_tree_fits b n stages are zero t x e lt = tt
row_tree_fits b n stages are (suc zero) t x e lt =
    subst (IsPolicyTree b n 1) (sym (rows_tree_is stages t x)) (
      row_action_below b n stages are t x lt,
      ap (trees_of (rows_tree stages (suc t)))
          (last_row_nexts b n stages are t x (omega arith) lt),
    )
row_tree_fits b n stages are (suc (suc r)) t x e lt =
    subst (IsPolicyTree b n (suc (suc r))) (sym (rows_tree_is stages t x)) (
      row_action_below b n stages are t x lt,
      are_trees_of b n (suc r) n (rows_tree stages (suc t)) (row_at stages t x).next
          (row_nexts b n stages are t x (omega arith) lt)
          (λ o seen. row_tree_fits b n stages are (suc r) (suc t) (get_or (row_at stages t x).next o 0)
          (omega arith) (next_row_below b n stages are t x o (omega arith) lt seen)),
    )

-- ---- all agents

-- the trees of rows of stage t
abbrev pub row_trees : SharedPolicy → ℕ → List ℕ → List PolicyTree
row_trees [] t rs = []
row_trees (stages ∷ p) t [] = []
row_trees (stages ∷ p) t (r ∷ rs) = rows_tree stages t r ∷ row_trees p t rs

-- their roots do the actions of the rows
pub row_trees_act : (p : SharedPolicy) (t : ℕ) (rs : List ℕ)
    → map root_action (row_trees p t rs) ≡ actions_of_rows p t rs
row_trees_act [] t rs = refl
row_trees_act (stages ∷ p) t [] = refl
row_trees_act (stages ∷ p) t (r ∷ rs) = rw (ap root_action (rows_tree_is stages t r), row_trees_act p t rs)

-- what remains of them after observations are the trees of the rows after these
pub row_trees_go_on : {h : ℕ} {bs ns : List ℕ} {p : SharedPolicy} → AreRowsOfAgents h bs ns p → (t : ℕ)
    (rs os : List ℕ) → suc t < h → AreBelow (row_counts p t) rs → AreBelow ns os
    → subtrees_at (row_trees p t rs) os ≡ row_trees p (suc t) (rows_after p t rs os)
row_trees_go_on no_agents t rs os step hr ho = refl
row_trees_go_on (and_agent are ares) t [] os step hr ho = absurd hr
row_trees_go_on (and_agent are ares) t (r ∷ rs) [] step hr ho = absurd ho
row_trees_go_on (and_agent {b = b} {n = n} {stages = stages} are ares) t (r ∷ rs) (o ∷ os) step hr ho =
    let inside = are.of_horizon in
    let nexts = row_nexts b n stages are.rows t r (omega arith) hr.0 in
    rw (subtree_of_row stages t r o (omega (arith, nexts, ho.0)), row_trees_go_on ares t rs os step hr.1 ho.1)

-- the rows after rows are rows of the next stage
pub rows_after_below : {h : ℕ} {bs ns : List ℕ} {p : SharedPolicy} → AreRowsOfAgents h bs ns p → (t : ℕ)
    (rs os : List ℕ) → suc t < h → AreBelow (row_counts p t) rs → AreBelow ns os
    → AreBelow (row_counts p (suc t)) (rows_after p t rs os)
rows_after_below no_agents t rs os step hr ho = tt
rows_after_below (and_agent are ares) t [] os step hr ho = absurd hr
rows_after_below (and_agent are ares) t (r ∷ rs) [] step hr ho = absurd ho
rows_after_below (and_agent {b = b} {n = n} {stages = stages} are ares) t (r ∷ rs) (o ∷ os) step hr ho =
    let inside = are.of_horizon in (
      next_row_below b n stages are.rows t r o (omega arith) hr.0 ho.0,
      rows_after_below ares t rs os step hr.1 ho.1,
    )

-- the trees of rows of stage t are a joint policy of the steps that are left
pub row_trees_fit : {h : ℕ} {bs ns : List ℕ} {p : SharedPolicy} → AreRowsOfAgents h bs ns p
    → (r t : ℕ) (rs : List ℕ)
    → t + r ≡ h → AreBelow (row_counts p t) rs → IsJointPolicy r bs ns (row_trees p t rs)
row_trees_fit no_agents r t rs e below = no_policies
row_trees_fit (and_agent are ares) r t [] e below = absurd below
row_trees_fit (and_agent {b = b} {n = n} {stages = stages} are ares) r t (x ∷ rs) e below =
    let inside = are.of_horizon in
    and_policy (row_tree_fits b n stages are.rows r t x (omega arith) below.0)
    (row_trees_fit ares r t rs e below.1)

-- ---- the first stage

-- its rows, by the list and by its first place
pub first_count_is : (stages : AgentRows) → first_count stages ≡ row_count stages 0
first_count_is [] = refl
first_count_is (rows ∷ stages) = refl

-- it has one joint row ..
pub one_joint_row : {h : ℕ} {bs ns : List ℕ} {p : SharedPolicy} → AreRowsOfAgents h bs ns p
    → product (row_counts p 0) ≡ 1
one_joint_row no_agents = refl
one_joint_row (and_agent {stages = stages} are ares) =
    let one : row_count stages 0 ≡ 1 = sym (first_count_is stages) ∙ are.one_first in
    rw (one, one_joint_row ares) refl

-- .. of which the trees are those of the policy
pub row_trees-start : {h : ℕ} {bs ns : List ℕ} {p : SharedPolicy} → AreRowsOfAgents h bs ns p
    → row_trees p 0 (parts_of (row_counts p 0) 0) ≡ unfolded p
row_trees-start no_agents = refl
row_trees-start (and_agent {stages = stages} {p = p} are ares) =
    let place : 0 / product (row_counts p 0) ≡ 0 = rw (one_joint_row ares) (omega arith) in
    let rest : 0 % product (row_counts p 0) ≡ 0 = rw (one_joint_row ares) (omega arith) in
    rw (place, rest, row_trees-start ares)

-- .. and of which the rows are there
pub start_below : {h : ℕ} {bs ns : List ℕ} {p : SharedPolicy} → AreRowsOfAgents h bs ns p
    → AreBelow (row_counts p 0) (parts_of (row_counts p 0) 0)
start_below no_agents = tt
start_below (and_agent {stages = stages} {p = p} are ares) =
    let one : row_count stages 0 ≡ 1 = sym (first_count_is stages) ∙ are.one_first in
    let place : 0 / product (row_counts p 0) ≡ 0 = rw (one_joint_row ares) (omega arith) in
    let rest : 0 % product (row_counts p 0) ≡ 0 = rw (one_joint_row ares) (omega arith) in (
      omega (arith, one, place),
      subst (λ (x : ℕ). AreBelow (row_counts p 0) (parts_of (row_counts p 0) x))
          (sym rest) (start_below ares),
    )

-- the rows of a shared policy mean a joint policy
pub unfolded_is_policy : (m : Model) (h : ℕ) (p : SharedPolicy) → IsSharedOf m h p → IsPolicyOf m h (unfolded p)
unfolded_is_policy m h p shared =
    subst (IsPolicyOf m h) (row_trees-start shared.agents) (row_trees_fit shared.agents h 0 _ (omega arith)
    (start_below shared.agents))

-- ---- own histories

-- the row that an own history reaches is one of the stage, and its tree is what remains
pub row_of_history_is : (b n h : ℕ) (stages : AgentRows) → AreAgentRows b n h stages → (t x : ℕ) → t < h
    → x < n ^ t →
    (row_of_history n stages t x < row_count stages t) × (tree_at n (unfolded_tree stages 0) t x
    ≡ rows_tree stages t (row_of_history n stages t x))
row_of_history_is b n h stages are zero x lt below = let one = are.one_first in
    let same = first_count_is stages in
    (omega arith, refl)
row_of_history_is b n h stages are (suc t) x lt below =
    let inside = are.of_horizon in
    let below' : x < n ^ t * n = rw pow-suc at below in
    let seen : x % n < n = mod_below x n (positive_right (n ^ t) n x below') in
    let before = row_of_history_is b n h stages are t (x / n) (omega arith) (part_below (n ^ t) n x below') in
    let r = row_of_history n stages t (x / n) in
    let nexts = row_nexts b n stages are.rows t r (omega arith) before.0 in (
      next_row_below b n stages are.rows t r (x % n) (omega arith) before.0 seen,
      ap (λ (z : PolicyTree). subtree z (x % n)) before.1 ∙ subtree_of_row stages t r (x % n) (omega arith),
    )

-- so the action after an own history is that of the row
pub action_of_history : (b n h : ℕ) (stages : AgentRows) → AreAgentRows b n h stages → (t x : ℕ) → t < h
    → x < n ^ t
    → root_action (tree_at n (unfolded_tree stages 0) t x) ≡ (row_at stages t
    (row_of_history n stages t x)).action
action_of_history b n h stages are t x lt below =
    ap root_action (row_of_history_is b n h stages are t x lt below).1
    ∙ ap root_action (rows_tree_is stages t (row_of_history n stages t x))

-- both together
pub history_reaches : (b n h : ℕ) (stages : AgentRows) → AreAgentRows b n h stages → (t x : ℕ) → t < h
    → x < n ^ t →
    (row_of_history n stages t x < row_count stages t)
    × (root_action (tree_at n (unfolded_tree stages 0) t x) ≡ (row_at stages t
    (row_of_history n stages t x)).action)
history_reaches b n h stages are t x lt below = (
  (row_of_history_is b n h stages are t x lt below).0,
  action_of_history b n h stages are t x lt below,
)
