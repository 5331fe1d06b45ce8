-- Shared forms: that of what the rows of a shared policy mean has no more rows, and means the same.
use Rattle.std.proofs.Common.{◌≡◌, ◌⊎◌, inl, inr, ℕ, zero, suc, ◌+◌, ◌-◌, ◌*◌, ◌^◌, ◌<◌, ◌≤◌, List, [], length}
use Rattle.std.proofs.Common.{get_or, map, refl, sym, ap, ◌∙◌, subst, arith}
use Rattle.std.specs.List.{range_with_len}
use Rattle.std.proofs.lemmas.List.{length-map}
use Rattle.std.proofs.lemmas.List.FromFn.{get_or-map-range_with_len, length-map-range_with_len}
use Rattle.std.proofs.lemmas.List.{get_or-map}
use Rattle.std.proofs.lemmas.Bool.{cases_lt}
use Rattle.std.proofs.Math.Nat.{mul-le-mul, mul-le-mul_left, one-le-pow, pow-zero}
use Rattle.dp_laws.proofs.ClassCounts.{classes-le-members}
use Rattle.dp_laws.proofs.DifferentTrees.{IsAmong, among_different, are_different, at_among, different_among}
use Rattle.dp_laws.proofs.DifferentTrees.{place_among, place_of_place, some_different}
use Rattle.dp_laws.proofs.Keeping.{tree_at_fits}
use Rattle.dp_laws.proofs.OwnHistories.{next_history_below}
use Rattle.dp_laws.proofs.PlainForms.{all_observations, first_by_place, no_observations, stages_from}
use Rattle.dp_laws.proofs.SharedTrees.{row_of_history_is, first_count_is, row_tree_fits, rows_tree, rows_tree_is}
use Rattle.dp_laws.proofs.SharedTrees.{subtree_of_row}
use Rattle.dp_laws.proofs.TreeActions.{action_below, equal_leaves, equal_nodes, tree_at-next}
use Rattle.dp_spec.specs.JointNumbers.{product}
use Rattle.dp_spec.specs.Keeping.{tree_at}
use Rattle.dp_spec.specs.Model.{IsModel, Model, joint_observations}
use Rattle.dp_spec.specs.PolicyTree.{IsPolicyTree, PolicyTree, no_trees, node, root_action, subtree}
use Rattle.dp_spec.specs.SharedForm.{IsSharedForm, different_trees, place_of_tree, remaining_trees, shared_form}
use Rattle.dp_spec.specs.SharedForm.{shared_row, shared_rows, shared_rows_of}
use Rattle.dp_spec.specs.SharedPolicy.{AgentRows, AreAgentRows, AreRowsOfAgents, IsSharedOf, PolicyRow, SharedPolicy}
use Rattle.dp_spec.specs.SharedPolicy.{no_row, row_at, row_count, row_counts, row_of_history, unfolded, unfolded_tree}
use Rattle.dp_spec.specs.SharedPolicy.AreRowsOfAgents.{and_agent, no_agents}
use Rattle.dp_spec.proofs.JointNumberLaws.{positive_left, positive_right}
use Rattle.dp_spec.proofs.ModelLaws.{some_joint_observation}

-- ---- the trees that remain of a tree

-- one of a list that is made from numbers
among_map : (g : ℕ → PolicyTree) (a k x : ℕ) → a ≤ x → x < a + k → IsAmong (g x) (map g (range_with_len a k))
among_map g a zero x from to = absurd (omega arith)
among_map g a (suc k) x from to =
    elim (equal_or_more a x from) [
      | inl e ↦ inl (ap g (sym e))
      | inr lt ↦ inr (among_map g (a + 1) k x (omega arith) (omega arith))
    ]
  where
    equal_or_more : (a x : ℕ) → a ≤ x → (a ≡ x) ⊎ (a < x)
    equal_or_more a x le = elim (cases_lt a x) [ inl lt ↦ inr lt | inr ge ↦ inl (omega arith) ]

-- and what is among it
map_among : (g : ℕ → PolicyTree) (a k : ℕ) (q : PolicyTree) → IsAmong q (map g (range_with_len a k))
    → (x : ℕ) × (x < a + k) × (q ≡ g x)
map_among g a zero q among = absurd among
map_among g a (suc k) q (inl same) = (a, omega arith, same)
map_among g a (suc k) q (inr among) = let rest = map_among g (a + 1) k q among in
    (rest.0, omega (arith, rest.1), rest.2)

module _ (n : ℕ) (q : PolicyTree) where
  -- what remains after an own history is among them
  pub remains_among : (t x : ℕ) → x < n ^ t → IsAmong (tree_at n q t x) (remaining_trees n q t)
  remains_among t x below = among_different _ _ (among_map (tree_at n q t) 0 (n ^ t) x (omega arith)
      (omega arith))

  -- and each of them remains after one
  pub among_remains : (t : ℕ) (k : PolicyTree) → IsAmong k (remaining_trees n q t)
      → (x : ℕ) × (x < n ^ t) × (k ≡ tree_at n q t x)
  among_remains t k among =
      let some = map_among (tree_at n q t) 0 (n ^ t) k (different_among k _ among) in
      (some.0, omega (arith, some.1), some.2)

  -- what remains of one of them after an observation is one of the next
  pub subtree_among : (t : ℕ) (k : PolicyTree) (o : ℕ) → o < n → IsAmong k (remaining_trees n q t)
      → IsAmong (subtree k o) (remaining_trees n q (suc t))
  subtree_among t k o seen among =
      let some = among_remains t k among in
      subst (λ (z : PolicyTree). IsAmong z (remaining_trees n q (suc t)))
      (tree_at-next n q t some.0 o seen ∙ ap (λ (z : PolicyTree). subtree z o) (sym some.2))
      (remains_among (suc t) (some.0 * n + o) (next_history_below some.0 n t o some.1 seen))

-- ---- the shared form of a tree

abbrev pub no_tree : PolicyTree
no_tree = node 0 no_trees

module _ (b n h : ℕ) (q : PolicyTree) (some : 0 < h) (seen : 0 < n) (tree : IsPolicyTree b n h q) where
  -- tree number r that remains at stage t
  abbrev tree_of : ℕ → ℕ → PolicyTree
  tree_of t r = get_or (remaining_trees n q t) r no_tree

  tree_of_among : (t r : ℕ) → r < length (remaining_trees n q t) → IsAmong (tree_of t r) (remaining_trees n q t)
  tree_of_among t r lt = at_among no_tree (remaining_trees n q t) r lt

  -- it is a tree of the steps that are left
  tree_of_fits : (t r x : ℕ) → t + r ≡ h → x < length (remaining_trees n q t) → IsPolicyTree b n r (tree_of t x)
  tree_of_fits t r x e lt =
      let from = among_remains n q t (tree_of t x) (tree_of_among t x lt) in
      subst (IsPolicyTree b n r) (sym from.2) (tree_at_fits b n q t r h from.0 e from.1 tree)

  -- the rows by their places
  shared_stage : (t : ℕ) → t < h → get_or (shared_rows n h q) t []
      ≡ map (shared_row n h q t) (remaining_trees n q t)
  shared_stage t lt = get_or-map-range_with_len (λ t. map (shared_row n h q t) (remaining_trees n q t))
      0 h t t [] lt (omega arith)

  shared_counts : (t : ℕ) → t < h → row_count (shared_rows n h q) t ≡ length (remaining_trees n q t)
  shared_counts t lt = ap (λ (rows : List PolicyRow). length rows) (shared_stage t lt)
      ∙ length-map (remaining_trees n q t) (shared_row n h q t)

  shared_row_at : (t r : ℕ) → t < h → r < length (remaining_trees n q t)
      → row_at (shared_rows n h q) t r ≡ shared_row n h q t (tree_of t r)
  shared_row_at t r lt below =
      ap (λ (rows : List PolicyRow). get_or rows r no_row) (shared_stage t lt)
      ∙ get_or-map (shared_row n h q t) (remaining_trees n q t) r no_tree no_row below

  shared_length : length (shared_rows n h q) ≡ h
  shared_length = length-map-range_with_len (λ t. map (shared_row n h q t) (remaining_trees n q t)) 0 h

  -- the next rows
  shared_nexts : (t r : ℕ) → suc t < h → r < length (remaining_trees n q t)
      → (row_at (shared_rows n h q) t r).next ≡ map (λ o. place_of_tree (subtree (tree_of t r) o)
      (remaining_trees n q (suc t))) (range_with_len 0 n)
  shared_nexts t r step below =
      ap (λ (row : PolicyRow). row.next) (shared_row_at t r (omega arith) below)
      ∙ ap (map (λ o. place_of_tree (subtree (tree_of t r) o) (remaining_trees n q (suc t))))
      (all_observations n h t step)

  shared_next_at : (t r o : ℕ) → suc t < h → r < length (remaining_trees n q t) → o < n
      → get_or (row_at (shared_rows n h q) t r).next o 0 ≡ place_of_tree (subtree (tree_of t r) o)
      (remaining_trees n q (suc t))
  shared_next_at t r o step below inside =
      ap (λ (xs : List ℕ). get_or xs o 0) (shared_nexts t r step below)
      ∙ get_or-map-range_with_len (λ o. place_of_tree (subtree (tree_of t r) o) (remaining_trees n q (suc t)))
      0 n o o 0 inside (omega arith)

  shared_last : (t r : ℕ) → suc t ≡ h → r < length (remaining_trees n q t)
      → length (row_at (shared_rows n h q) t r).next ≡ 0
  shared_last t r e below =
      ap (λ (row : PolicyRow). length row.next) (shared_row_at t r (omega arith) below)
      ∙ ap (λ (os : List ℕ). length (map (λ o. place_of_tree (subtree (tree_of t r) o)
      (remaining_trees n q (suc t))) os)) (no_observations n h t e)

  -- where the tree after an observation stands
  place_after : (t r o : ℕ) → r < length (remaining_trees n q t) → o < n →
      (place_of_tree (subtree (tree_of t r) o) (remaining_trees n q (suc t))
      < length (remaining_trees n q (suc t)))
      × (tree_of (suc t) (place_of_tree (subtree (tree_of t r) o) (remaining_trees n q (suc t)))
      ≡ subtree (tree_of t r) o)
  place_after t r o below inside =
      place_among (subtree (tree_of t r) o) no_tree (remaining_trees n q (suc t))
      (subtree_among n q t (tree_of t r) o inside (tree_of_among t r below))

  -- one tree at the start
  one_at_start : length (remaining_trees n q 0) ≡ 1
  one_at_start = ap (λ (k : ℕ). length (different_trees (map (tree_at n q 0) (range_with_len 0 k))))
      (pow-zero n)

  -- they are rows of an agent
  pub shared_rows_are : AreAgentRows b n h (shared_rows n h q)
  shared_rows_are =
      let all = shared_length in
      record {
        of_horizon = all;
        one_first = first_by_place _ 1 (shared_counts 0 some ∙ one_at_start);
        rows = stages_from b n (shared_rows n h q)
            (λ t lt. let count = shared_counts t (omega arith) in
            let more = some_different (tree_at n q t 0) _ (among_map (tree_at n q t) 0 (n ^ t) 0 (omega arith)
            (omega (arith, one-le-pow t n seen))) in omega arith)
            (λ t r lt below. let count = shared_counts t (omega arith) in
            let from = among_remains n q t (tree_of t r) (tree_of_among t r (omega arith)) in
            let acts = action_below b n h q tree t from.0 (omega arith) from.1 in
            subst (λ (a : ℕ). a < b) (ap root_action (sym from.2)
            ∙ ap (λ (row : PolicyRow). row.action) (sym (shared_row_at t r (omega arith) (omega arith)))) acts)
            (λ t r lt below. let count = shared_counts t (omega arith) in
            ap (λ (xs : List ℕ). length xs) (shared_nexts t r (omega arith) (omega arith))
            ∙ length-map-range_with_len (λ o. place_of_tree (subtree (tree_of t r) o)
            (remaining_trees n q (suc t))) 0 n)
            (λ t r o lt below inside.
            let count = shared_counts t (omega arith) in
            let later = shared_counts (suc t) (omega arith) in
            let next = shared_next_at t r o (omega arith) (omega arith) inside in
            let place = place_after t r o (omega arith) inside in omega (arith, place.0, next, later))
            (λ t r e below. let count = shared_counts t (omega arith) in
            shared_last t r (omega arith) (omega arith));
      }

  -- and mean the remaining trees
  shared_rows_mean : (r t x : ℕ) → t + suc r ≡ h → x < length (remaining_trees n q t)
      → rows_tree (shared_rows n h q) t x ≡ tree_of t x
  shared_rows_mean zero t x e below =
      let are = shared_rows_are in
      let all = shared_length in
      let count = shared_counts t (omega arith) in
      equal_leaves b n _ _ (row_tree_fits b n (shared_rows n h q) are.rows 1 t x (omega arith) (omega arith))
      (tree_of_fits t 1 x e below)
      (ap root_action (rows_tree_is (shared_rows n h q) t x)
      ∙ ap (λ (row : PolicyRow). row.action) (shared_row_at t x (omega arith) below))
  shared_rows_mean (suc r) t x e below =
      let are = shared_rows_are in
      let all = shared_length in
      let count = shared_counts t (omega arith) in
      equal_nodes b n r _ _ (row_tree_fits b n (shared_rows n h q) are.rows (suc (suc r)) t x (omega arith)
      (omega arith)) (tree_of_fits t (suc (suc r)) x e below)
      (ap root_action (rows_tree_is (shared_rows n h q) t x)
      ∙ ap (λ (row : PolicyRow). row.action) (shared_row_at t x (omega arith) below))
      (λ o inside.
      let place = place_after t x o below inside in
      let nexts = ap (λ (xs : List ℕ). length xs) (shared_nexts t x (omega arith) below)
      ∙ length-map-range_with_len (λ o. place_of_tree (subtree (tree_of t x) o) (remaining_trees n q (suc t)))
      0 n in
      subtree_of_row (shared_rows n h q) t x o (omega arith)
      ∙ ap (rows_tree (shared_rows n h q) (suc t)) (shared_next_at t x o (omega arith) below inside)
      ∙ shared_rows_mean r (suc t) _ (omega arith) place.0
      ∙ place.1)

  -- so they mean the tree
  pub shared_rows_unfold : unfolded_tree (shared_rows n h q) 0 ≡ q
  shared_rows_unfold =
      let one = one_at_start in
      shared_rows_mean (h - 1) 0 0 (omega arith) (omega arith)
      ∙ ap (λ (k : ℕ). get_or (different_trees (map (tree_at n q 0) (range_with_len 0 k))) 0 no_tree)
      (pow-zero n)

-- ---- no more rows than any rows that mean the tree

module _ (b n h : ℕ) (stages : AgentRows) (are : AreAgentRows b n h stages) where
  -- so there are no more remaining trees than rows
  pub remaining_within_rows : (t : ℕ) → t < h → length (remaining_trees n (unfolded_tree stages 0) t)
      ≤ row_count stages t
  remaining_within_rows t lt =
      let q = unfolded_tree stages 0 in
      let ks = remaining_trees n q t in
      classes-le-members (row_count stages t) (length ks) (λ r. place_of_tree (rows_tree stages t r) ks)
      (λ c below.
      let from = among_remains n q t (get_or ks c no_tree) (at_among no_tree ks c below) in
      let row = row_of_history_is b n h stages are t from.0 lt from.1 in (
        row_of_history n stages t from.0,
        row.0,
        ap (λ (z : PolicyTree). place_of_tree z ks)
            (sym row.1 ∙ sym from.2) ∙ place_of_place no_tree ks
            (are_different (map (tree_at n q t) (range_with_len 0 (n ^ t)))) c below,
      ))

-- ---- all agents

-- the tree of the first row has all steps
unfolded_fits : (b n h : ℕ) (stages : AgentRows) → AreAgentRows b n h stages
    → IsPolicyTree b n h (unfolded_tree stages 0)
unfolded_fits b n h stages are =
    let all = are.of_horizon in
    let one = are.one_first in
    let same = first_count_is stages in row_tree_fits b n stages are.rows h 0 0 (omega arith) (omega arith)

-- the shared form is rows of the agents
shared_form_rows : {h : ℕ} {bs ns : List ℕ} {p : SharedPolicy} → 0 < h → 0 < product ns
    → AreRowsOfAgents h bs ns p
    → AreRowsOfAgents h bs ns (shared_rows_of ns h (unfolded p))
shared_form_rows some seen no_agents = no_agents
shared_form_rows {h} some seen (and_agent {b = b} {n = n} {ns = ns} {stages = stages} are ares) =
    let all = are.of_horizon in
    let one = are.one_first in
    and_agent (shared_rows_are b n h (unfolded_tree stages 0) some (positive_left n (product ns) 0 seen)
    (unfolded_fits b n h stages are)) (shared_form_rows some (positive_right n (product ns) 0 seen) ares)

-- means the same
shared_form_unfolds : {h : ℕ} {bs ns : List ℕ} {p : SharedPolicy} → 0 < h → 0 < product ns
    → AreRowsOfAgents h bs ns p
    → unfolded (shared_rows_of ns h (unfolded p)) ≡ unfolded p
shared_form_unfolds some seen no_agents = refl
shared_form_unfolds {h} some seen (and_agent {b = b} {n = n} {ns = ns} {stages = stages} are ares) =
    rw (
      shared_rows_unfold b n h (unfolded_tree stages 0) some (positive_left n (product ns) 0 seen)
          (unfolded_fits b n h stages are),
      shared_form_unfolds some (positive_right n (product ns) 0 seen) ares,
    )

-- and has no more joint rows
shared_form_counts : {h : ℕ} {bs ns : List ℕ} {p : SharedPolicy} → 0 < h → 0 < product ns
    → AreRowsOfAgents h bs ns p
    → (t : ℕ) → t < h → product (row_counts (shared_rows_of ns h (unfolded p)) t) ≤ product (row_counts p t)
shared_form_counts some seen no_agents t lt = omega arith
shared_form_counts {h} some seen (and_agent {b = b} {n = n} {ns = ns} {stages = stages} are ares) t lt =
    let count = shared_counts b n h (unfolded_tree stages 0) some (positive_left n (product ns) 0 seen)
    (unfolded_fits b n h stages are) t lt in
    let fewer = remaining_within_rows b n h stages are t lt in
    mul-le-mul (omega arith) (shared_form_counts some (positive_right n (product ns) 0 seen) ares t lt)

-- the shared form of what the rows of a shared policy mean is a shared policy that means the same
pub shared_form_is : (m : Model) (h : ℕ) (p : SharedPolicy) → IsModel m → 0 < h → IsSharedOf m h p →
    IsSharedOf m h (shared_form m h (unfolded p)) × (unfolded (shared_form m h (unfolded p)) ≡ unfolded p)
    × IsSharedForm m h (shared_form m h (unfolded p))
unfolding shared_form joint_observations
shared_form_is m h p model some shared =
    let seen : 0 < product m.observations = some_joint_observation m model in
    let same = shared_form_unfolds some seen shared.agents in (
      record {
        agents = shared_form_rows some seen shared.agents;
        cells = λ t lt. let limit = shared.cells t lt in let fewer = mul-le-mul_left m.states
            (shared_form_counts some seen shared.agents t lt) in omega arith;
      },
      same,
      ap (shared_form m h) (sym same),
    )
