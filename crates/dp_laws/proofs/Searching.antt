-- What a best-first search keeps true: at the start, over a step, as children are looked at, and in any order.
use Rattle.std.proofs.Common.{◌≡◌, ◌≢◌, ℕ, zero, suc, ◌+◌, ◌<◌, true, false, ◌⊎◌, ℤ, pos, ◌≤ℤ◌, ◌<ℤ◌, List, [], ◌∷◌}
use Rattle.std.proofs.Common.{length, get_or, refl, sym, ap, subst, ◌∙◌, arith, inl, inr, All}
use Rattle.std.specs.Int.{int_min}
use Rattle.std.specs.List.Sorted.{IsPermutation}
use Rattle.std.proofs.lemmas.Int.{ints, clamps}
use Rattle.std.proofs.lemmas.Bool.{cases_eq}
use Rattle.std.proofs.lemmas.List.Sorted.{All-permutation, sum_by-IsPermutation}
use Rattle.std.proofs.lemmas.List.Elements.{All-nil, All-cons, All-head, All-tail}
use Rattle.dp_spec.specs.Front.{Front}
use Rattle.dp_spec.specs.declared.step.Step.{Step}
use Rattle.dp_spec.specs.declared.node.NodeKind.TheVariants.{Leaf, Inner}
use Rattle.dp_spec.specs.declared.node.ArenaNode.{ArenaNode}
use Rattle.dp_spec.specs.Arena.{kind_at, above_at, grown}
use Rattle.dp_spec.specs.Space.{Space}
use Rattle.dp_spec.specs.Exploration.{Labels, IsExploration}
use Rattle.dp_spec.specs.SearchState.{OpenLeaf, held_at, IsOpenLeaf, IsOpenAt, IsSearch}
use Rattle.dp_laws.proofs.HeldLeaves.{held_cons, is_at_same, is_at_other, held_none, held_some, none_held}
use Rattle.dp_laws.proofs.Growing as grow
use Rattle.dp_laws.proofs.Growing.{AreCaps, more_labels}
use Rattle.dp_base.proofs.Order.{last_or_before}

-- ---- one step

module _ (S : Space) (constants lower : ℤ) (ns : List ArenaNode) (L : Labels) (e : OpenLeaf)
    (es : List OpenLeaf)
    (state : IsSearch S constants lower ns L (length ns) (e ∷ es))
    (over : lower <ℤ e.bound) (greatest : All (λ o. o.bound ≤ℤ e.bound) es) (s : Step) (xs : List ℤ)
    (may : S.May e.front s) (caps : AreCaps S e.bound (S.next e.front s) xs) where
  k : ℕ
  k = e.node

  top : IsOpenLeaf S ns L (length ns) e
  top = All-head (IsOpenLeaf S ns L (length ns)) e es state.held

  rest : All (IsOpenLeaf S ns L (length ns)) es
  rest = All-tail (IsOpenLeaf S ns L (length ns)) e es state.held

  open_full : S.is_full (L.front e.node) ≡ false
  open_full = ap S.is_full top.front ∙ top.not_full

  open_wide : S.is_wide (above_at ns e.node) (L.front e.node) ≡ false
  open_wide = ap (λ d. S.is_wide d (L.front e.node)) top.above ∙ ap (S.is_wide e.above) top.front ∙ top.not_wide

  may' : S.May (L.front e.node) s
  may' = subst (λ (F : Front). S.May F s) (sym top.front) may

  caps' : AreCaps S e.bound (S.next (L.front e.node) s) xs
  caps' = subst (λ (F : Front). AreCaps S e.bound (S.next F s) xs) (sym top.front) caps

  -- the labels after the step
  abbrev pub labels_after : Labels
  labels_after = more_labels L (length ns) (S.next (L.front e.node) s) S.root xs

  abbrev after : List ArenaNode
  after = grown ns e.node s xs

  is_after : IsExploration S after labels_after
  is_after = grow.exploration_grows S ns L e.node e.bound s xs state.explored top.within top.leaf open_full
      open_wide may' caps'

  open_here : IsOpenAt S ns L e.node e.bound
  open_here = record { within = top.within; leaf = top.leaf; not_full = open_full; not_wide = open_wide }

  -- an old leaf that is open after the step was open before it
  was_open : (j : ℕ) (y : ℤ) → j < length ns → j ≢ e.node → kind_at ns j ≡ Leaf y
      → IsOpenAt S after labels_after j y → IsOpenAt S ns L j y
  was_open j y below ne leaf is = record {
    within = below;
    leaf = leaf;
    not_full = ap S.is_full (sym (grow.front_before S ns L e.node e.bound s xs state.explored top.within
        top.leaf
        open_full open_wide may' caps' j below)) ∙ is.not_full;
    not_wide =
        ap (λ d. S.is_wide d (L.front j)) (sym (grow.above_before S ns L e.node e.bound s xs state.explored
        top.within top.leaf open_full open_wide may' caps' j below))
        ∙ ap (S.is_wide (above_at after j)) (sym (grow.front_before S ns L e.node e.bound s xs state.explored
        top.within top.leaf open_full open_wide may' caps' j below))
        ∙ is.not_wide;
  }

  leaf_cases : (j : ℕ) (y : ℤ) → j < length after → kind_at after j ≡ Leaf y
      → ((j < length ns) × ((j ≢ e.node) × (kind_at ns j ≡ Leaf y))) ⊎
      ((i : ℕ) × ((i < length xs) × ((j ≡ length ns + i) × (y ≡ get_or xs i (pos 0)))))
  leaf_cases = grow.leaf_cases S ns L e.node e.bound s xs state.explored top.within top.leaf open_full open_wide
      may' caps'

  step_cases : (j : ℕ) (t : Step) (f n : ℕ) → j < length after → kind_at after j ≡ Inner t f n
      → ((j ≡ e.node) × ((t ≡ s) × ((f ≡ length ns) × (n ≡ length xs)))) ⊎
      ((j < length ns) × (kind_at ns j ≡ Inner t f n))
  step_cases = grow.step_cases S ns L e.node e.bound s xs state.explored top.within top.leaf open_full open_wide
      may' caps'

  cap_before : (j : ℕ) → j < length ns → labels_after.cap j ≡ L.cap j
  cap_before = grow.cap_before S ns L e.node e.bound s xs state.explored top.within top.leaf open_full open_wide
      may' caps'

  cap_here : labels_after.cap e.node ≡ e.bound
  cap_here = grow.cap_here S ns L e.node e.bound s xs state.explored top.within top.leaf open_full open_wide
      may'
      caps'

  -- the others are held as before
  others : All (λ o. o.node ≢ e.node) es
  others =
      let sum = held_cons e.node e es in
      let one = is_at_same e.node e refl in
      held_none e.node es (omega (arith, state.once e.node))

  still_held : (j : ℕ) → j ≢ e.node → 0 < held_at j (e ∷ es) → 0 < held_at j es
  still_held j ne h =
      let sum = held_cons j e es in
      let none = is_at_other j e (λ same. ne (sym same)) in
      omega arith

  keeps_open : (o : OpenLeaf) → o.node ≢ e.node → IsOpenLeaf S ns L (length ns) o
      → IsOpenLeaf S after labels_after (length ns) o
  keeps_open o ne is = record {
    within = is.within;
    leaf = grow.kind_before S ns L e.node e.bound s xs state.explored top.within top.leaf open_full open_wide
        may'
        caps' o.node is.within ne ∙ is.leaf;
    front = grow.front_before S ns L e.node e.bound s xs state.explored top.within top.leaf open_full open_wide
        may' caps' o.node is.within ∙ is.front;
    above = grow.above_before S ns L e.node e.bound s xs state.explored top.within top.leaf open_full open_wide
        may' caps' o.node is.within ∙ is.above;
    not_full = is.not_full;
    not_wide = is.not_wide;
  }

  -- no open leaf is above the leaf that was grown
  none_above : (j : ℕ) (y : ℤ) → IsOpenAt S after labels_after j y → lower <ℤ y → y ≤ℤ e.bound
  none_above j y is more =
      elim (leaf_cases j y is.within is.leaf) [
        | inl old ↦
            let before = was_open j y old.0 old.1.0 old.1.1 is in
            let held = still_held j old.1.0 (state.covered j y old.0 before more) in
            let pairs : All (λ o. IsOpenLeaf S ns L (length ns) o × (o.bound ≤ℤ e.bound)) es = λ i d h.
            (rest i d h, greatest i d h) in
            let one = held_some j (λ o. IsOpenLeaf S ns L (length ns) o × (o.bound ≤ℤ e.bound)) es held pairs in
            let same : Leaf y ≡ Leaf one.0.bound = sym old.1.1 ∙ ap (kind_at ns) (sym one.1.0)
            ∙ one.1.1.0.leaf in
            let eq : y ≡ one.0.bound = cc same in
            subst (λ (z : ℤ). z ≤ℤ e.bound) (sym eq) one.1.1.1
        | inr new ↦
            let eq : y ≡ int_min e.bound (S.bound (get_or (S.next e.front s) new.0 S.root)) = new.1.1.1
            ∙ caps.1 new.0 new.1.0 in
            subst (λ (z : ℤ). z ≤ℤ e.bound) (sym eq) (omega (arith, ints, clamps))
      ]

  pub search_grows : IsSearch S constants lower after labels_after (length ns) es
  search_grows = record {
    explored = is_after;
    settled_within = (let n = grow.longer S ns L e.node e.bound s xs state.explored top.within top.leaf
        open_full
        open_wide may' caps' in omega arith);
    held = λ i d h. keeps_open (get_or es i d) (others i d h) (rest i d h);
    once = λ j. let sum = held_cons j e es in omega (arith, state.once j);
    covered = λ j y below is more.
        elim (leaf_cases j y is.within is.leaf) [
          | inl old ↦ still_held j old.1.0 (state.covered j y below (was_open j y old.0 old.1.0 old.1.1 is)
              more)
          | inr new ↦ absurd (omega (arith, new.1.1.0))
        ];
    tried = λ j y below leaf full.
        elim (leaf_cases j y (let n = grow.longer S ns L e.node e.bound s xs state.explored top.within top.leaf
        open_full open_wide may' caps' in omega arith) leaf) [
          | inl old ↦
              let same = grow.front_before S ns L e.node e.bound s xs state.explored top.within top.leaf
              open_full
              open_wide may' caps' j below in
              subst (λ (F : Front). S.worth F ≤ℤ lower) (sym same)
              (state.tried j y below old.1.1 (ap S.is_full (sym same) ∙ full))
          | inr new ↦ absurd (omega (arith, new.1.1.0))
        ];
    lean = λ j t f n below kind i y is more.
        let le = none_above i y is more in
        elim (step_cases j t f n below kind) [
          | inl new ↦ subst (λ (z : ℤ). y ≤ℤ z) (sym (ap labels_after.cap new.0 ∙ cap_here)) le
          | inr old ↦
              let up = state.lean j t f n old.0 old.1 e.node e.bound open_here over in
              subst (λ (z : ℤ). y ≤ℤ z) (sym (cap_before j old.0)) (omega (arith, ints, le, up))
        ];
    over_constants = λ j t f n below kind.
        elim (step_cases j t f n below kind) [
          | inl new ↦ subst (λ (z : ℤ). constants <ℤ z) (sym (ap labels_after.cap new.0 ∙ cap_here))
              (let c = state.constants_below in omega (arith, ints))
          | inr old ↦ subst (λ (z : ℤ). constants <ℤ z) (sym (cap_before j old.0))
              (state.over_constants j t f n old.0 old.1)
        ];
    constants_below = state.constants_below;
  }

-- ---- the order of the held leaves, and a greater lower end

module _ (S : Space) (constants : ℤ) (ns : List ArenaNode) (L : Labels) (settled : ℕ) where
  pub search_permuted : (lower : ℤ) (es fs : List OpenLeaf) → IsPermutation es fs
      → IsSearch S constants lower ns L settled es → IsSearch S constants lower ns L settled fs
  search_permuted lower es fs moved state =
      let same : (k : ℕ) → held_at k fs ≡ held_at k es = λ k. sum_by-IsPermutation _ es fs moved in
      record {
        explored = state.explored;
        settled_within = state.settled_within;
        held = All-permutation (IsOpenLeaf S ns L settled) es fs moved state.held;
        once = λ k. omega (arith, same k, state.once k);
        covered = λ k x below is more. omega (arith, same k, state.covered k x below is more);
        tried = state.tried;
        lean = state.lean;
        over_constants = state.over_constants;
        constants_below = state.constants_below;
      }

  pub search_raised : (lower more : ℤ) (es : List OpenLeaf) → lower ≤ℤ more
      → IsSearch S constants lower ns L settled es → IsSearch S constants more ns L settled es
  search_raised lower more es le state =
      let up : (x : ℤ) → more <ℤ x → lower <ℤ x = λ x h. omega (arith, ints) in
      record {
        explored = state.explored;
        settled_within = state.settled_within;
        held = state.held;
        once = state.once;
        covered = λ k x below is over. state.covered k x below is (up x over);
        tried = λ k x below leaf full. let t = state.tried k x below leaf full in omega (arith, ints);
        lean = λ j s f n below kind k x is over. state.lean j s f n below kind k x is (up x over);
        over_constants = state.over_constants;
        constants_below = (let c = state.constants_below in omega (arith, ints));
      }

-- ---- a node is looked at

module _ (S : Space) (constants lower : ℤ) (ns : List ArenaNode) (L : Labels) (k : ℕ) (es : List OpenLeaf)
    (state : IsSearch S constants lower ns L k es) (lt : k < length ns) where
  still_open : (o : OpenLeaf) → IsOpenLeaf S ns L k o → IsOpenLeaf S ns L (k + 1) o
  still_open o is = record {
    within = (let w = is.within in omega arith);
    leaf = is.leaf;
    front = is.front;
    above = is.above;
    not_full = is.not_full;
    not_wide = is.not_wide;
  }

  -- a node that is not to be grown: it is no open leaf above the lower end, and if it is full, its policy was tried
  pub search_passes : ((x : ℤ) → IsOpenAt S ns L k x → lower <ℤ x → ⊥)
      → (S.is_full (L.front k) ≡ true → S.worth (L.front k) ≤ℤ lower)
      → IsSearch S constants lower ns L (k + 1) es
  search_passes closed tried = record {
    explored = state.explored;
    settled_within = omega arith;
    held = λ i d h. still_open (get_or es i d) (state.held i d h);
    once = state.once;
    covered = λ j x below is over.
        elim (last_or_before j k (omega arith)) [
          | inl e ↦ absurd (closed x (subst (λ (z : ℕ). IsOpenAt S ns L z x) e is) over)
          | inr b ↦ state.covered j x b is over
        ];
    tried = λ j x below leaf full.
        elim (last_or_before j k (omega arith)) [
          | inl e ↦ subst (λ (z : ℕ). S.worth (L.front z) ≤ℤ lower) (sym e)
              (tried (ap (λ z. S.is_full (L.front z)) (sym e) ∙ full))
          | inr b ↦ state.tried j x b leaf full
        ];
    lean = state.lean;
    over_constants = state.over_constants;
    constants_below = state.constants_below;
  }

  -- an open leaf that is held from now on
  pub search_holds : (o : OpenLeaf) → o.node ≡ k → IsOpenLeaf S ns L (k + 1) o
      → IsSearch S constants lower ns L (k + 1) (o ∷ es)
  search_holds o same is =
      let others : All (λ p. p.node ≢ k) es = λ i d h. (λ e. let w = (state.held i d h).within in
      absurd (omega arith)) in
      let none = none_held k es others in
      let one = is_at_same k o same in
      let here : IsOpenLeaf S ns L (k + 1) o = is in
      record {
        explored = state.explored;
        settled_within = omega arith;
        held = All-cons (IsOpenLeaf S ns L (k + 1)) o es is (λ i d h. still_open (get_or es i d)
            (state.held i d h));
        once = λ j.
            let sum = held_cons j o es in
            elim (cases_eq j k) [
              | inl e ↦
                  let none' : held_at j es ≡ 0 = ap (λ z. held_at z es) e ∙ none in
                  let one' = is_at_same j o (same ∙ sym e) in
                  omega arith
              | inr ne ↦ let zero' = is_at_other j o (λ e. ne (sym e ∙ same)) in omega (arith, state.once j)
            ];
        covered = λ j x below open_there over.
            let sum = held_cons j o es in
            elim (last_or_before j k (omega arith)) [
              | inl e ↦ let one' = is_at_same j o (same ∙ sym e) in omega arith
              | inr b ↦ let h = state.covered j x b open_there over in omega arith
            ];
        tried = λ j x below leaf full.
            elim (last_or_before j k (omega arith)) [
              | inl e ↦
                  let open_front : S.is_full (L.front k) ≡ false = ap (λ z. S.is_full (L.front z)) (sym same)
                  ∙ ap S.is_full is.front ∙ is.not_full in
                  let full' : S.is_full (L.front k) ≡ true = ap (λ z. S.is_full (L.front z)) (sym e) ∙ full in
                  let no : true ≡ false = sym full' ∙ open_front in
                  absurd (cc no)
              | inr b ↦ state.tried j x b leaf full
            ];
        lean = state.lean;
        over_constants = state.over_constants;
        constants_below = state.constants_below;
      }

-- ---- the start

-- one node, of the root's front and bound
pub search_starts : (S : Space) (constants lower : ℤ) → constants ≤ℤ lower
    → IsSearch S constants lower (record { above = 0; kind = Leaf (S.bound S.root) } ∷ [])
    (record { front = λ j. S.root; cap = λ j. S.bound S.root }) 0 []
search_starts S constants lower le = record {
  explored = record {
    some = omega arith;
    front = refl;
    cap = refl;
    above = refl;
    leaves = λ k x below kind. first_leaf k x below kind;
    steps = λ k s f n below kind. absurd (first_step k s f n below kind);
  };
  settled_within = omega arith;
  held = All-nil (IsOpenLeaf S _ _ 0);
  once = λ k. omega arith;
  covered = λ k x below is over. absurd (omega arith);
  tried = λ k x below leaf full. absurd (omega arith);
  lean = λ j s f n below kind k x is over. absurd (first_step j s f n below kind);
  over_constants = λ j s f n below kind. absurd (first_step j s f n below kind);
  constants_below = le;
}
  where
    root_node : ArenaNode
    root_node = record { above = 0; kind = Leaf (S.bound S.root) }

    first_leaf : (k : ℕ) (x : ℤ) → k < 1 → kind_at (record { above = 0; kind = Leaf (S.bound S.root) } ∷ []) k
        ≡ Leaf x → x ≡ S.bound S.root
    first_leaf zero x below kind = sym (cc kind)
    first_leaf (suc k) x below kind = absurd (omega arith)

    first_step : (k : ℕ) (s : Step) (f n : ℕ) → k < 1 → kind_at
        (record { above = 0; kind = Leaf (S.bound S.root) } ∷ []) k ≡ Inner s f n → ⊥
    first_step zero s f n below kind = cc kind
    first_step (suc k) s f n below kind = absurd (omega arith)
