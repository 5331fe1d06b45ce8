-- What a search over the fronts of a model promises, in the words of certificates: what holds of each node of the
-- arena holds of each node of the finished tree.
use Rattle.std.proofs.Common.{◌≡◌, ℕ, suc, ◌+◌, ◌<◌, ◌≤◌, Bool, true, false, not, ℤ, ◌≤ℤ◌, ◌<ℤ◌, List, [], length}
use Rattle.std.proofs.Common.{get_or, sym, ap, subst, ◌∙◌, arith, inl, inr, All}
use Rattle.std.specs.Prelude.{IsTrue, nat_lt}
use Rattle.std.specs.Int.{int_min}
use Rattle.std.proofs.lemmas.Bool.Decides.{nat_tests}
use Rattle.std.proofs.lemmas.List.FromFn.{length-map-range_with_len, get_or-map-range_with_len}
use Rattle.std.proofs.lemmas.List.Elements.{All-nil, All-cons, All-append}
use Rattle.dp_spec.specs.Model.{Model}
use Rattle.dp_spec.specs.Front.{Front}
use Rattle.dp_spec.specs.Steps.{front_after_choice, root_front}
use Rattle.dp_spec.specs.Merge.{merged_front}
use Rattle.dp_spec.specs.Arithmetic.{Arithmetic}
use Rattle.dp_spec.specs.BoundTree.{BoundTree, BoundTrees, leaf, branch, merge, no_bound_trees, more_bound_trees}
use Rattle.dp_spec.specs.Qualities.{HasNoEquivalent, IfBranch, IfInner, IfLeaf, IfNarrowLeaf, Node, Place, nodes_of}
use Rattle.dp_spec.specs.Qualities.{nodes_of_choices, places_of}
use Rattle.dp_spec.specs.declared.step.Step.{Step}
use Rattle.dp_spec.specs.declared.step.Step.TheVariants.{Branch, Merge}
use Rattle.dp_spec.specs.declared.node.NodeKind.TheVariants.{Inner}
use Rattle.dp_spec.specs.declared.node.ArenaNode.{ArenaNode}
use Rattle.dp_spec.specs.Arena.{IsTreeAt, AreTreesAt, kind_at, above_at}
use Rattle.dp_spec.specs.Space.{Space}
use Rattle.dp_spec.specs.Exploration.{Labels, IsInnerNode, IsExploration}
use Rattle.dp_spec.specs.SearchState.{IsOpenAt}
use Rattle.dp_spec.specs.Fitting.{FitEachAction, FitsFront, front_bound}
use Rattle.dp_spec.specs.Wide.{is_wide}
use Rattle.dp_spec.specs.Promises.{HasNoMerge, HaveNoMerge}
use Rattle.dp_spec.specs.FrontSpace.{front_space, IsPicked}
use Rattle.dp_spec.specs.Searched.{IsSearched}
use Rattle.dp_laws.specs.GrowthLaws.{IsPromised, root_nodes}

module _ (A : Arithmetic) (m : Model) (h look : ℕ) (merging : Bool) (May : List Place → ℕ → Type 0)
    (worth : Front → ℤ) (ns : List ArenaNode) (L : Labels) (explored : IsExploration
    (front_space A m h look merging May worth) ns L) where
  abbrev S : Space
  S = front_space A m h look merging May worth

  -- node k as a node of a tree that fits
  abbrev node : ℕ → BoundTree → Node
  node k T = record { tree = T; above = above_at ns k; front = L.front k; cap = L.cap k }

  -- the child of action a
  record IsChild (k i c j a : ℕ) : Type 0 where
    front : L.front j ≡ front_after_choice m (L.front k) i c a
    cap : L.cap j ≡ int_min (L.cap k) (front_bound A m h look (front_after_choice m (L.front k) i c a))
    above : above_at ns j ≡ suc (above_at ns k)

  actions_are : (k i c f n : ℕ) → IsInnerNode S ns L k (Branch i c) f n → n ≡ get_or m.actions i 0
  actions_are k i c f n is = is.each ∙ length-map-range_with_len (front_after_choice m (L.front k) i c) 0
      (get_or m.actions i 0)

  child_is : (k i c f n j a : ℕ) → IsInnerNode S ns L k (Branch i c) f n → j ≡ f + a → a < n → IsChild k i c j a
  child_is k i c f n j a is e lt =
      let few = actions_are k i c f n is in
      let G = front_after_choice m (L.front k) i c in
      let here : L.front (f + a) ≡ G a = is.fronts a lt ∙ get_or-map-range_with_len G 0 (get_or m.actions i 0)
      a a S.root (omega arith) (omega arith) in
      record {
        front = ap L.front e ∙ here;
        cap = ap L.cap e ∙ is.caps a lt ∙ ap (λ F. int_min (L.cap k) (front_bound A m h look F)) here;
        above = ap (above_at ns) e ∙ is.aboves a lt;
      }

  step_at : (k : ℕ) (s : Step) (f n : ℕ) → k < length ns → kind_at ns k ≡ Inner s f n
      → IsInnerNode S ns L k s f n
  step_at = explored.steps

  -- the child of a merge
  merged_child : (k i a b f : ℕ) → IsInnerNode S ns L k (Merge i a b) f 1 →
      (L.front f ≡ merged_front (L.front k) i a b) × (L.cap f
      ≡ int_min (L.cap k) (front_bound A m h look (merged_front (L.front k) i a b)))
      × (above_at ns f ≡ suc (above_at ns k))
  merged_child k i a b f is =
      let e : f ≡ f + 0 = omega arith in
      let here : L.front f ≡ merged_front (L.front k) i a b = ap L.front e ∙ is.fronts 0 (omega arith) in (
        here,
        ap L.cap e ∙ is.caps 0 (omega arith) ∙ ap (λ F. int_min (L.cap k) (front_bound A m h look F))
            (ap L.front (sym e) ∙ here),
        ap (above_at ns) e ∙ is.aboves 0 (omega arith),
      )

  mutual
    pub tree_fits : (k : ℕ) (T : BoundTree) → IsTreeAt ns k T
        → FitsFront A m h look (above_at ns k) T (L.front k) (L.cap k)
    tree_fits k (leaf x) at = explored.leaves k x at.0 at.1
    tree_fits k (branch i c Ts) at =
        let f = at.1.0 in
        let n = at.1.1.0 in
        let is = step_at k (Branch i c) f n at.0 at.1.1.1.0 in (
          is.allowed.0,
          is.allowed.1,
          trees_fit k i c f n is Ts f 0 n (omega arith) (omega arith) at.1.1.1.1,
          is.not_wide,
        )
    tree_fits k (merge i a b T) at =
        let f = at.1.0 in
        let is = step_at k (Merge i a b) f 1 at.0 at.1.1.0 in
        let child = merged_child k i a b f is in
        let below = tree_fits f T at.1.1.1 in
        let below = subst (λ (F : Front). FitsFront A m h look (above_at ns f) T F (L.cap f)) child.0 below in
        let below = subst (λ (z : ℤ). FitsFront A m h look (above_at ns f) T (merged_front (L.front k) i a b) z)
        child.1 below in
        let below = subst (λ (d : ℕ). FitsFront A m h look d T (merged_front (L.front k) i a b)
        (int_min (L.cap k) (front_bound A m h look (merged_front (L.front k) i a b)))) child.2 below in
        (is.allowed.0, is.allowed.1, is.allowed.2, is.allowed.3, is.allowed.4, below, is.allowed.5, is.not_wide)

    trees_fit : (k i c f n : ℕ) → IsInnerNode S ns L k (Branch i c) f n → (Ts : BoundTrees) (j a r : ℕ)
        → j ≡ f + a
        → a + r ≡ n → AreTreesAt ns j r Ts
        → FitEachAction A m h look (suc (above_at ns k)) Ts (L.front k) i c a (L.cap k)
    trees_fit k i c f n is no_bound_trees j a r e all at = let few = actions_are k i c f n is in omega arith
    trees_fit k i c f n is (more_bound_trees T Ts) j a r e all at =
        let r' = at.0 in
        let lt : r ≡ suc r' = at.1.0 in
        let child = child_is k i c f n j a is e (omega arith) in
        let G = front_after_choice m (L.front k) i c a in
        let below = tree_fits j T at.1.1.0 in
        let below = subst (λ (F : Front). FitsFront A m h look (above_at ns j) T F (L.cap j))
        child.front below in
        let below = subst (λ (z : ℤ). FitsFront A m h look (above_at ns j) T G z) child.cap below in
        let below = subst (λ (d : ℕ). FitsFront A m h look d T G (int_min (L.cap k) (front_bound A m h look G)))
        child.above below in
        (below, trees_fit k i c f n is Ts (suc j) (suc a) r' (omega arith) (omega arith) at.1.1.1)

  module _ (P : Node → Type 0) (each : (k : ℕ) (T : BoundTree) → IsTreeAt ns k T → P (node k T)) where
    mutual
      pub every_node : (k : ℕ) (T : BoundTree) → IsTreeAt ns k T
          → All P (nodes_of A m h look (above_at ns k) T (L.front k) (L.cap k))
      every_node k (leaf x) at = All-cons P (node k (leaf x)) [] (each k (leaf x) at) (All-nil P)
      every_node k (branch i c Ts) at =
          let f = at.1.0 in
          let n = at.1.1.0 in
          let is = step_at k (Branch i c) f n at.0 at.1.1.1.0 in
          All-cons P (node k (branch i c Ts)) _ (each k (branch i c Ts) at)
          (every_choice k i c f n is Ts f 0 n (omega arith) (omega arith) at.1.1.1.1)
      every_node k (merge i a b T) at =
          let f = at.1.0 in
          let is = step_at k (Merge i a b) f 1 at.0 at.1.1.0 in
          let child = merged_child k i a b f is in
          let below = every_node f T at.1.1.1 in
          let below = subst (λ (F : Front). All P (nodes_of A m h look (above_at ns f) T F (L.cap f)))
          child.0 below in
          let below = subst (λ (z : ℤ). All P (nodes_of A m h look (above_at ns f) T
          (merged_front (L.front k) i a b) z)) child.1 below in
          let below = subst (λ (d : ℕ). All P (nodes_of A m h look d T (merged_front (L.front k) i a b)
          (int_min (L.cap k) (front_bound A m h look (merged_front (L.front k) i a b))))) child.2 below in
          All-cons P (node k (merge i a b T)) _ (each k (merge i a b T) at) below

      every_choice : (k i c f n : ℕ) → IsInnerNode S ns L k (Branch i c) f n → (Ts : BoundTrees) (j a r : ℕ)
          → j ≡ f + a → a + r ≡ n → AreTreesAt ns j r Ts
          → All P (nodes_of_choices A m h look (suc (above_at ns k)) Ts (L.front k) i c a (L.cap k))
      every_choice k i c f n is no_bound_trees j a r e all at = All-nil P
      every_choice k i c f n is (more_bound_trees T Ts) j a r e all at =
          let r' = at.0 in
          let lt : r ≡ suc r' = at.1.0 in
          let child = child_is k i c f n j a is e (omega arith) in
          let G = front_after_choice m (L.front k) i c a in
          let below = every_node j T at.1.1.0 in
          let below = subst (λ (F : Front). All P (nodes_of A m h look (above_at ns j) T F (L.cap j)))
          child.front below in
          let below = subst (λ (z : ℤ). All P (nodes_of A m h look (above_at ns j) T G z)) child.cap below in
          let below = subst (λ (d : ℕ). All P (nodes_of A m h look d T G
          (int_min (L.cap k) (front_bound A m h look G)))) child.above below in
          All-append P _ _ below (every_choice k i c f n is Ts (suc j) (suc a) r' (omega arith) (omega arith)
          at.1.1.1)

module _ (A : Arithmetic) (m : Model) (h look budget : ℕ) (merging : Bool) (May : List Place → ℕ → Type 0)
    (worth : Front → ℤ) (constants lower : ℤ) (inner : ℕ) (T : BoundTree)
    (done : IsSearched (front_space A m h look merging May worth) budget constants lower inner T) where
  abbrev site : ℕ → BoundTree → Node
  site k U = record {
    tree = U;
    above = above_at done.nodes k;
    front = done.labels.front k;
    cap = done.labels.cap k;
  }

  -- what holds of each node of the arena holds of each node of the tree
  every : (P : Node → Type 0) → ((k : ℕ) (U : BoundTree) → IsTreeAt done.nodes k U → P (site k U))
      → All P (root_nodes A m h look T)
  every P each =
      let all = every_node A m h look merging May worth done.nodes done.labels done.explored P each 0 T
      done.tree in
      let all = subst (λ (F : Front). All P (nodes_of A m h look (above_at done.nodes 0) T F
      (done.labels.cap 0)))
      done.explored.front all in
      let all = subst (λ (z : ℤ). All P (nodes_of A m h look (above_at done.nodes 0) T (root_front m) z))
      done.explored.cap all in
      subst (λ (d : ℕ). All P (nodes_of A m h look d T (root_front m) (front_bound A m h look (root_front m))))
      done.explored.above all

  root_fits : FitsFront A m h look 0 T (root_front m) (front_bound A m h look (root_front m))
  root_fits =
      let fits = tree_fits A m h look merging May worth done.nodes done.labels done.explored 0 T done.tree in
      let fits = subst (λ (F : Front). FitsFront A m h look (above_at done.nodes 0) T F (done.labels.cap 0))
      done.explored.front fits in
      let fits = subst (λ (z : ℤ). FitsFront A m h look (above_at done.nodes 0) T (root_front m) z)
      done.explored.cap fits in
      subst (λ (d : ℕ). FitsFront A m h look d T (root_front m) (front_bound A m h look (root_front m)))
      done.explored.above fits

  -- a leaf that is neither full nor wide is an open leaf
  open_leaf : (k : ℕ) (x : ℤ) → IsTreeAt done.nodes k (leaf x) → (done.labels.front k).stage < h
      → is_wide m h (above_at done.nodes k) (done.labels.front k) ≡ false
      → IsOpenAt (front_space A m h look merging May worth) done.nodes done.labels k x
  open_leaf k x at early narrow = record {
    within = at.0;
    leaf = at.1;
    not_full = (let t : nat_lt (done.labels.front k).stage h ≡ true = grind (arith, nat_tests) in ap not t);
    not_wide = narrow;
  }

  stopped : ((k : ℕ) (x : ℤ) → IsOpenAt (front_space A m h look merging May worth) done.nodes done.labels k x
      → x ≤ℤ lower)
      → (k : ℕ) (U : BoundTree) → IsTreeAt done.nodes k U → IfNarrowLeaf m h (site k U) (λ x. x ≤ℤ lower)
  stopped none k (leaf x) at = λ early narrow. none k x (open_leaf k x at early narrow)
  stopped none k (branch i c Us) at = tt
  stopped none k (merge i a b U) at = tt

  -- the least bound of a step is at least that of a leaf that could be grown
  below_step : (j : ℕ) → ((k : ℕ) (x : ℤ) → IsOpenAt (front_space A m h look merging May worth)
      done.nodes done.labels k x → lower <ℤ x → x ≤ℤ done.labels.cap j)
      → (k : ℕ) (U : BoundTree) → IsTreeAt done.nodes k U → IfNarrowLeaf m h (site k U)
      (λ x. lower <ℤ x → x ≤ℤ done.labels.cap j)
  below_step j lean k (leaf x) at = λ early narrow over. lean k x (open_leaf k x at early narrow) over
  below_step j lean k (branch i c Us) at = tt
  below_step j lean k (merge i a b U) at = tt

  lean_at : (j : ℕ) (V : BoundTree) → IsTreeAt done.nodes j V → (k : ℕ) (U : BoundTree)
      → IsTreeAt done.nodes k U
      → IfInner V (IfNarrowLeaf m h (site k U) (λ x. lower <ℤ x → x ≤ℤ done.labels.cap j))
  lean_at j (leaf y) at k U at' = tt
  lean_at j (branch i c Vs) at k U at' = below_step j (done.lean j (Branch i c) at.1.0 at.1.1.0 at.0 at.1.1.1.0)
      k U at'
  lean_at j (merge i a b V) at k U at' = below_step j (done.lean j (Merge i a b) at.1.0 1 at.0 at.1.1.0) k U at'

  over_at : (j : ℕ) (V : BoundTree) → IsTreeAt done.nodes j V → IfInner V (constants <ℤ done.labels.cap j)
  over_at j (leaf y) at = tt
  over_at j (branch i c Vs) at = done.over_constants j (Branch i c) at.1.0 at.1.1.0 at.0 at.1.1.1.0
  over_at j (merge i a b V) at = done.over_constants j (Merge i a b) at.1.0 1 at.0 at.1.1.0

  branch_at : (P : ℕ → ℕ → ℕ → Type 0) → ((j i c f n : ℕ) → IsInnerNode
      (front_space A m h look merging May worth)
      done.nodes done.labels j (Branch i c) f n → P j i c)
      → (j : ℕ) (V : BoundTree) → IsTreeAt done.nodes j V → IfBranch V (P j)
  branch_at P each j (leaf y) at = tt
  branch_at P each j (branch i c Vs) at = each j i c at.1.0 at.1.1.0
      (done.explored.steps j (Branch i c) at.1.0 at.1.1.0 at.0 at.1.1.1.0)
  branch_at P each j (merge i a b V) at = tt

  mutual
    -- without merging no node of the arena is a merge
    no_merge_at : merging ≡ false → (j : ℕ) (V : BoundTree) → IsTreeAt done.nodes j V → HasNoMerge V
    no_merge_at off j (leaf y) at = tt
    no_merge_at off j (branch i c Vs) at = no_merges_at off at.1.0 at.1.1.0 Vs at.1.1.1.1
    no_merge_at off j (merge i a b V) at =
        let on = (done.explored.steps j (Merge i a b) at.1.0 1 at.0 at.1.1.0).allowed.6 in
        let both : true ≡ false = sym on ∙ off in
        cc both

    no_merges_at : merging ≡ false → (f n : ℕ) (Vs : BoundTrees) → AreTreesAt done.nodes f n Vs → HaveNoMerge Vs
    no_merges_at off f n no_bound_trees at = tt
    no_merges_at off f n (more_bound_trees V Vs) at = (
      no_merge_at off f V at.1.1.0,
      no_merges_at off (suc f) at.0 Vs at.1.1.1,
    )

  tried_at : (k : ℕ) (U : BoundTree) → IsTreeAt done.nodes k U
      → IfLeaf U (λ x. h ≤ (done.labels.front k).stage → worth (done.labels.front k) ≤ℤ lower)
  tried_at k (leaf x) at = λ late. done.tried k x at.0 at.1 (let t : nat_lt (done.labels.front k).stage h
      ≡ false = grind (arith, nat_tests) in ap not t)
  tried_at k (branch i c Us) at = tt
  tried_at k (merge i a b U) at = tt

  pub promises_hold : IsPromised A m h look budget merging May worth constants lower inner T
  promises_hold = record {
    fits = root_fits;
    counted = done.counted;
    within_budget = done.within_budget;
    stop = elim done.stop [
      | inl e ↦ inl e
      | inr none ↦ inr (every (λ n. IfNarrowLeaf m h n (λ x. x ≤ℤ lower))
          (stopped none))
    ];
    lean =
        every (λ n. All (λ k. IfInner n.tree (IfNarrowLeaf m h k (λ x. lower <ℤ x → x ≤ℤ n.cap)))
        (root_nodes A m h look T))
        (λ j V at. every (λ k. IfInner V (IfNarrowLeaf m h k (λ x. lower <ℤ x → x ≤ℤ done.labels.cap j)))
        (lean_at j V at));
    merged = λ on exact. every (λ n. IfBranch n.tree (λ i c. HasNoEquivalent m n.front))
        (branch_at (λ j i c. HasNoEquivalent m (done.labels.front j)) (λ j i c f n is. is.allowed.2 on exact));
    unmerged = λ off. no_merge_at off 0 T done.tree;
    inner_nodes = every (λ n. IfInner n.tree (constants <ℤ n.cap)) over_at;
    constants_below = done.constants_below;
    ruled = every (λ n. IfBranch n.tree (λ i c. IsPicked May (places_of A m h look n.front) i c))
        (branch_at (λ j i c. IsPicked May (places_of A m h look (done.labels.front j)) i c)
        (λ j i c f n is. is.allowed.3));
    full_leaves = every (λ n. IfLeaf n.tree (λ x. h ≤ n.front.stage → worth n.front ≤ℤ lower)) tried_at;
  }

-- for a rule that is a test
pub promises_of_test : (A : Arithmetic) (m : Model) (h look budget : ℕ) (merging : Bool) (constants lower : ℤ)
    (inner : ℕ) (T : BoundTree)
    → ((May : List Place → ℕ → Bool) (worth : Front → ℤ) →
    IsSearched (front_space A m h look merging (λ ps x. IsTrue (May ps x)) worth) budget constants lower inner T
    → IsPromised A m h look budget merging (λ ps x. IsTrue (May ps x)) worth constants lower inner T)
promises_of_test A m h look budget merging constants lower inner T May worth done =
    promises_hold A m h look budget merging (λ ps x. IsTrue (May ps x)) worth constants lower inner T done
