-- A search goes on: a leaf is looked at, the greatest leaf is grown, the search ends.
use Rattle.std.proofs.Common.{◌≡◌, ℕ, zero, suc, ◌+◌, ◌*◌, ◌<◌, ◌≤◌, true, false, ◌⊎◌, ℤ, pos, ◌≤ℤ◌, ◌<ℤ◌, List, []}
use Rattle.std.proofs.Common.{◌∷◌, length, get_or, map, refl, sym, ap, subst, ◌∙◌, arith, inl, inr, All}
use Rattle.std.specs.Int.{int_min}
use Rattle.std.specs.List.Sorted.{IsPermutation}
use Rattle.std.proofs.lemmas.Int.{ints}
use Rattle.std.proofs.lemmas.List.{length-map}
use Rattle.std.proofs.lemmas.List.Elements.{All-head, All-tail}
use Rattle.std.proofs.Math.Nat.{mul-le-mul_right}
use Rattle.dp_spec.specs.Front.{Front}
use Rattle.dp_spec.specs.BoundTree.{BoundTree, inner_count}
use Rattle.dp_spec.specs.declared.step.Step.{Step}
use Rattle.dp_spec.specs.declared.node.NodeKind.TheVariants.{Leaf}
use Rattle.dp_spec.specs.declared.node.ArenaNode.{ArenaNode}
use Rattle.dp_spec.specs.Arena.{kind_at, above_at, inner_nodes, IsTreeAt, grown}
use Rattle.dp_spec.specs.Space.{Space}
use Rattle.dp_spec.specs.Exploration.{Labels}
use Rattle.dp_spec.specs.SearchState.{OpenLeaf, IsOpenLeaf, IsOpenAt, IsSearch}
use Rattle.dp_spec.specs.Searched.{IsSearched}
use Rattle.dp_laws.proofs.ArenaNodes.{grown_is, grown_inner_nodes}
use Rattle.dp_laws.proofs.HeldLeaves.{held_some}
use Rattle.dp_laws.proofs.Growing.{AreCaps, more_labels, new_front}
use Rattle.dp_laws.proofs.Searching as searching
use Rattle.dp_tree.specs.Nodes.{Nodes}
use Rattle.dp_search.specs.Running.{IsPending, IsRunning, IsFinished, NextFront, opened}

module _ (S : Space) (constants : ℤ) (width budget : ℕ) (arena : Nodes) (inner : ℕ) where
  -- the next leaf is full, and its policy was tried
  pub full_passes : (lower more : ℤ) (es rest : List OpenLeaf) (p : OpenLeaf) → lower ≤ℤ more
      → S.is_full p.front ≡ true → S.worth p.front ≤ℤ more
      → IsRunning S constants width budget arena lower inner es (p ∷ rest)
      → IsRunning S constants width budget arena more inner es rest
  full_passes lower more es rest p le full worth running =
      let w = running.waiting in
      let k = running.settled in
      let L = running.labels in
      let raised = searching.search_raised S constants arena.nodes L k lower more es le running.search in
      let same : L.front k ≡ p.front = w.1.1.1.0 in
      let e : suc k ≡ k + 1 = omega arith in
      record {
        labels = L;
        settled = k + 1;
        search = searching.search_passes S constants more arena.nodes L k es raised w.0
            (λ x is over. let both : true ≡ false = sym (ap S.is_full same ∙ full) ∙ is.not_full in cc both)
            (λ f. subst (λ (F : Front). S.worth F ≤ℤ more) (sym same) worth);
        waiting = subst (λ (z : ℕ). IsPending arena.nodes L z rest) e w.1.1.1.1.1;
        counted = running.counted;
        within = running.within;
        room = running.room;
        most = running.most;
      }

  -- the next leaf is wide or not above the lower end
  pub leaf_passes : (lower : ℤ) (es rest : List OpenLeaf) (p : OpenLeaf) → S.is_full p.front ≡ false
      → (lower <ℤ p.bound → S.is_wide p.above p.front ≡ false → ⊥)
      → IsRunning S constants width budget arena lower inner es (p ∷ rest)
      → IsRunning S constants width budget arena lower inner es rest
  leaf_passes lower es rest p early closed running =
      let w = running.waiting in
      let k = running.settled in
      let L = running.labels in
      let same : L.front k ≡ p.front = w.1.1.1.0 in
      let e : suc k ≡ k + 1 = omega arith in
      record {
        labels = L;
        settled = k + 1;
        search = searching.search_passes S constants lower arena.nodes L k es running.search w.0
            (λ x is over.
            let eq : Leaf x ≡ Leaf p.bound = sym is.leaf ∙ w.1.1.0 in
            let x_is : x ≡ p.bound = cc eq in
            closed (subst (λ (z : ℤ). lower <ℤ z) x_is over)
            (ap (λ d. S.is_wide d p.front) (sym w.1.1.1.1.0)
            ∙ ap (S.is_wide (above_at arena.nodes k)) (sym same) ∙ is.not_wide))
            (λ f. let both : true ≡ false = sym f ∙ ap S.is_full same ∙ early in absurd (cc both));
        waiting = subst (λ (z : ℕ). IsPending arena.nodes L z rest) e w.1.1.1.1.1;
        counted = running.counted;
        within = running.within;
        room = running.room;
        most = running.most;
      }

  -- the next leaf is held
  pub leaf_held : (lower : ℤ) (es rest : List OpenLeaf) (p : OpenLeaf) → S.is_full p.front ≡ false
      → S.is_wide p.above p.front ≡ false
      → IsRunning S constants width budget arena lower inner es (p ∷ rest)
      → IsRunning S constants width budget arena lower inner (p ∷ es) rest
  leaf_held lower es rest p early narrow running =
      let w = running.waiting in
      let k = running.settled in
      let L = running.labels in
      let node : p.node ≡ k = w.1.0 in
      let e : suc k ≡ k + 1 = omega arith in
      record {
        labels = L;
        settled = k + 1;
        search = searching.search_holds S constants lower arena.nodes L k es running.search w.0 p node (record {
          within = omega arith;
          leaf = ap (kind_at arena.nodes) node ∙ w.1.1.0;
          front = ap L.front node ∙ w.1.1.1.0;
          above = ap (above_at arena.nodes) node ∙ w.1.1.1.1.0;
          not_full = early;
          not_wide = narrow;
        });
        waiting = subst (λ (z : ℕ). IsPending arena.nodes L z rest) e w.1.1.1.1.1;
        counted = running.counted;
        within = running.within;
        room = running.room;
        most = running.most;
      }

  -- the lower end rises
  pub running_raised : (lower more : ℤ) (es rest : List OpenLeaf) → lower ≤ℤ more
      → IsRunning S constants width budget arena lower inner es rest
      → IsRunning S constants width budget arena more inner es rest
  running_raised lower more es rest le running = record {
    labels = running.labels;
    settled = running.settled;
    search = searching.search_raised S constants arena.nodes running.labels running.settled lower more es le
        running.search;
    waiting = running.waiting;
    counted = running.counted;
    within = running.within;
    room = running.room;
    most = running.most;
  }

  -- the held leaves in another order
  pub running_moved : (lower : ℤ) (es fs rest : List OpenLeaf) → IsPermutation es fs
      → IsRunning S constants width budget arena lower inner es rest
      → IsRunning S constants width budget arena lower inner fs rest
  running_moved lower es fs rest moved running = record {
    labels = running.labels;
    settled = running.settled;
    search = searching.search_permuted S constants arena.nodes running.labels running.settled lower es fs moved
        running.search;
    waiting = running.waiting;
    counted = running.counted;
    within = running.within;
    room = running.room;
    most = running.most;
  }

  -- the budget is spent
  pub ends_at_budget : (lower : ℤ) (es : List OpenLeaf) → inner ≡ budget
      → IsRunning S constants width budget arena lower inner es []
      → IsFinished S constants budget arena lower inner
  ends_at_budget lower es spent running = finished (inl spent)
    where
      finished : (inner ≡ budget) ⊎ ((k : ℕ) (x : ℤ) → IsOpenAt S arena.nodes running.labels k x → x ≤ℤ lower)
          → IsFinished S constants budget arena lower inner
      finished stop =
          let all = running.waiting in
          record {
            labels = running.labels;
            explored = running.search.explored;
            counted = running.counted;
            within = running.within;
            stop = stop;
            tried = λ k x below. running.search.tried k x (omega arith);
            lean = running.search.lean;
            over_constants = running.search.over_constants;
            constants_below = running.search.constants_below;
          }

  -- no held leaf is above the lower end
  pub ends_closed : (lower : ℤ) (es : List OpenLeaf) → All (λ e. e.bound ≤ℤ lower) es
      → IsRunning S constants width budget arena lower inner es []
      → IsFinished S constants budget arena lower inner
  ends_closed lower es low running =
      let all = running.waiting in
      record {
        labels = running.labels;
        explored = running.search.explored;
        counted = running.counted;
        within = running.within;
        stop = inr (λ k x is. below k x is);
        tried = λ k x under. running.search.tried k x (omega arith);
        lean = running.search.lean;
        over_constants = running.search.over_constants;
        constants_below = running.search.constants_below;
      }
    where
      not_above : (x y : ℤ) → (y <ℤ x → x ≤ℤ y) → x ≤ℤ y
      not_above x y h = grind (arith, ints, h)

      below : (k : ℕ) (x : ℤ) → IsOpenAt S arena.nodes running.labels k x → x ≤ℤ lower
      below k x is =
          not_above x lower (λ over.
          let all = running.waiting in
          let held = running.search.covered k x (omega (arith, is.within)) is over in
          let pairs : All (λ e. IsOpenLeaf S arena.nodes running.labels running.settled e × (e.bound ≤ℤ lower))
          es = λ i d h. (running.search.held i d h, low i d h) in
          let one = held_some k (λ e. IsOpenLeaf S arena.nodes running.labels running.settled e
          × (e.bound ≤ℤ lower)) es held pairs in
          let same : Leaf x ≡ Leaf one.0.bound = sym is.leaf ∙ ap (kind_at arena.nodes) (sym one.1.0)
          ∙ one.1.1.0.leaf in
          let eq : x ≡ one.0.bound = cc same in
          subst (λ (z : ℤ). z ≤ℤ lower) (sym eq) one.1.1.1)

  -- the promises
  pub searched_of : (lower : ℤ) (T : BoundTree) → IsFinished S constants budget arena lower inner
      → IsTreeAt arena.nodes 0 T → inner_count T ≡ inner_nodes arena.nodes
      → IsSearched S budget constants lower inner T
  searched_of lower T finished at count = record {
    nodes = arena.nodes;
    labels = finished.labels;
    tree = at;
    explored = finished.explored;
    counted = finished.counted ∙ sym count;
    within_budget = finished.within;
    stop = finished.stop;
    tried = finished.tried;
    lean = finished.lean;
    over_constants = finished.over_constants;
    constants_below = finished.constants_below;
  }

-- ---- the greatest leaf is grown

-- the fronts and the bounds of the leaves, one by one
pub opened_length : (n d : ℕ) (cap : ℤ) (cs : List NextFront) → length (opened n d cap cs) ≡ length cs
opened_length n d cap [] = refl
opened_length n d cap (c ∷ cs) = ap suc (opened_length (suc n) d cap cs)

abbrev pub bounds_of : List OpenLeaf → List ℤ
bounds_of ps = map (λ (p : OpenLeaf). p.bound) ps

abbrev pub fronts_of : List NextFront → List Front
fronts_of cs = map (λ (c : NextFront). c.front) cs

bound_of_opened : (S : Space) (n d : ℕ) (cap : ℤ) (cs : List NextFront)
    → All (λ c. c.bound ≡ S.bound c.front) cs
    → (j : ℕ) → j < length cs
    → get_or (bounds_of (opened n d cap cs)) j (pos 0) ≡ int_min cap (S.bound (get_or (fronts_of cs) j S.root))
bound_of_opened S n d cap [] own j lt = absurd (omega arith)
bound_of_opened S n d cap (c ∷ cs) own zero lt = ap (int_min cap)
    (All-head (λ c. c.bound ≡ S.bound c.front) c cs own)
bound_of_opened S n d cap (c ∷ cs) own (suc j) lt = bound_of_opened S (suc n) d cap cs
    (All-tail (λ c. c.bound ≡ S.bound c.front) c cs own) j (omega arith)

bounds_length : (n d : ℕ) (cap : ℤ) (cs : List NextFront) → length (bounds_of (opened n d cap cs)) ≡ length cs
bounds_length n d cap cs = length-map (opened n d cap cs) (λ (p : OpenLeaf). p.bound) ∙ opened_length n d cap cs

pub caps_are : (S : Space) (n d : ℕ) (cap : ℤ) (cs : List NextFront) → All (λ c. c.bound ≡ S.bound c.front) cs
    → AreCaps S cap (fronts_of cs) (bounds_of (opened n d cap cs))
caps_are S n d cap cs own = (
  bounds_length n d cap cs ∙ sym (length-map cs (λ (c : NextFront). c.front)),
  λ j lt. bound_of_opened S n d cap cs own j (let e = bounds_length n d cap cs in omega arith),
)

-- children with these labels are leaves still to be looked at
pending_children : (ns : List ArenaNode) (L : Labels) (F : Front) (n d : ℕ) (cap : ℤ) (cs : List NextFront)
    → n + length cs ≡ length ns
    → ((j : ℕ) → j < length cs → (kind_at ns (n + j) ≡ Leaf (get_or (bounds_of (opened n d cap cs)) j (pos 0)))
    × (L.front (n + j) ≡ get_or (fronts_of cs) j F) × (above_at ns (n + j) ≡ d))
    → IsPending ns L n (opened n d cap cs)
pending_children ns L F n d cap [] all each = omega arith
pending_children ns L F n d cap (c ∷ cs) all each =
    let e : n + 0 ≡ n = omega arith in
    let here = each 0 (omega arith) in (
      omega arith,
      (
        refl,
        (
          ap (kind_at ns) (sym e) ∙ here.0,
          (
            ap L.front (sym e) ∙ here.1,
            (
              ap (above_at ns) (sym e) ∙ here.2,
              pending_children ns L F (suc n) d cap cs (omega arith) (λ j lt.
                  let more = each (suc j) (omega arith) in
                  let e' : suc n + j ≡ n + suc j = omega arith in
                  (ap (kind_at ns) e' ∙ more.0, ap L.front e' ∙ more.1, ap (above_at ns) e' ∙ more.2)),
            ),
          ),
        ),
      ),
    )

module _ (S : Space) (constants : ℤ) (width budget : ℕ) (arena : Nodes) (lower : ℤ) (inner : ℕ)
    (es : List OpenLeaf) (top : OpenLeaf) where
  -- what a step asks of the leaf that is grown
  pub top_is_leaf : IsRunning S constants width budget arena lower inner (top ∷ es) []
      → (top.node < length arena.nodes) × (kind_at arena.nodes top.node ≡ Leaf top.bound)
      × (above_at arena.nodes top.node ≡ top.above) × (S.is_full top.front ≡ false)
      × (S.is_wide top.above top.front ≡ false)
  top_is_leaf running =
      let all = running.waiting in
      let is = All-head (IsOpenLeaf S arena.nodes running.labels running.settled) top es running.search.held in
      (omega (arith, is.within), is.leaf, is.above, is.not_full, is.not_wide)

  -- there is room for its children
  pub room_left : IsRunning S constants width budget arena lower inner (top ∷ es) [] → (n : ℕ) → n ≤ width
      → inner < budget → length arena.nodes + n ≤ arena.most
  room_left running n few lt =
      let a : inner * width + width ≤ budget * width = grown_room in
      let r = running.room in
      let m = running.most in
      omega arith
    where
      grown_room : inner * width + width ≤ budget * width
      grown_room = let h : suc inner ≤ budget = omega arith in omega (arith, mul-le-mul_right width h)

  pub grown_runs : IsRunning S constants width budget arena lower inner (top ∷ es) [] → lower <ℤ top.bound
      → All (λ e. e.bound ≤ℤ top.bound) es → inner < budget → (s : Step) (cs : List NextFront)
      → S.May top.front s
      → fronts_of cs ≡ S.next top.front s → All (λ c. c.bound ≡ S.bound c.front) cs → length cs ≤ width
      → IsRunning S constants width budget (record {
        nodes = grown arena.nodes top.node s
            (bounds_of (opened (length arena.nodes) (suc top.above) top.bound cs));
        most = arena.most;
      }) lower
      (suc inner) es (opened (length arena.nodes) (suc top.above) top.bound cs)
  grown_runs running over greatest lt s cs may next own few =
      let ns = arena.nodes in
      let n = length ns in
      let d = suc top.above in
      let xs = bounds_of (opened n d top.bound cs) in
      let all : running.settled ≡ n = running.waiting in
      let state = subst (λ (z : ℕ). IsSearch S constants lower ns running.labels z (top ∷ es))
      all running.search in
      let is = All-head (IsOpenLeaf S ns running.labels n) top es state.held in
      let caps = subst (λ (Fs : List Front). AreCaps S top.bound Fs xs) next
      (caps_are S n d top.bound cs own) in
      let read = grown_is ns top.node s xs is.within in
      let many = bounds_length n d top.bound cs in
      let longer = read.longer in
      let L' = more_labels running.labels n (S.next (running.labels.front top.node) s) S.root xs in
      record {
        labels = L';
        settled = n;
        search = searching.search_grows S constants lower ns running.labels top es state over greatest s xs may
            caps;
        waiting = pending_children (grown ns top.node s xs) L' S.root n d top.bound cs (omega arith)
            (λ j less. (
              ap (λ (z : ArenaNode). z.kind) (read.children j (omega arith)),
              new_front running.labels n (S.next (running.labels.front top.node) s) S.root xs j
                  ∙ ap (λ F. get_or (S.next F s) j S.root) is.front ∙ ap (λ Fs. get_or Fs j S.root) (sym next),
              ap (λ (z : ArenaNode). z.above) (read.children j (omega arith)) ∙ ap suc is.above,
            ));
        counted = ap suc running.counted ∙ sym (grown_inner_nodes ns top.node s xs top.bound is.within is.leaf);
        within = lt;
        room = (let r = running.room in let e : suc inner * width ≡ inner * width + width = omega arith in
            omega arith);
        most = running.most;
      }
