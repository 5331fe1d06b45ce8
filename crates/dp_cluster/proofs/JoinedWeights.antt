-- The weights of the joint classes after a join, place by place.
use Rattle.std.proofs.Common.{◌≡◌, ◌≢◌, inl, inr, ℕ, zero, suc, ◌+◌, ◌-◌, ◌*◌, ◌/◌, ◌%◌, ◌^◌, ◌<◌, ◌≤◌, true, false}
use Rattle.std.proofs.Common.{Bool, List, [], ◌∷◌, Some, None, length, get_or, drop, take, refl, sym, ap, ◌∙◌}
use Rattle.std.proofs.Common.{subst, arith, ◌++◌, map, append_assoc}
use Rattle.std.specs.Prelude.{if◌then◌else◌, ◌==◌}
use Rattle.std.proofs.lemmas.Bool.{cases_eq}
use Rattle.std.proofs.lemmas.Bool.Decides.{nat_tests}
use Rattle.std.proofs.lemmas.Nat.{div-mul-add, mod-mul-add, mod_below}
use Rattle.std.specs.List.{range_with_len}
use Rattle.dp_spec.specs.declared.span.Span.{Span}
use Rattle.dp_spec.specs.Arithmetic.{arithmetic, exact, span_add}
use Rattle.dp_spec.specs.Calls.{size}
use Rattle.dp_spec.specs.Front.{AgentFront, Front, class_counts}
use Rattle.dp_spec.specs.JointNumbers.{product}
use Rattle.dp_spec.specs.Merge.{merged_agents, merged_front, without, placed_number, kept_class}
use Rattle.dp_spec.specs.Model.{Model}
use Rattle.dp_spec.specs.Quantities.{class_weight_in}
use Rattle.dp_spec.specs.Steps.{IsUnassigned}
use Rattle.dp_spec.specs.WellFormed.{IsFront}
use Rattle.dp_spec.proofs.JointNumberLaws.{part_below, positive_right, row_below}
use Rattle.dp_laws.proofs.MergedFronts.{as_many_merged, kept_below, kept_low, one_class_less, unassigned_agent}
use Rattle.dp_laws.proofs.SizeLaws.{mode_can_refine}
use Rattle.dp_laws.proofs.PlaceWeights.{class_fits}
use Rattle.dp_laws.proofs.WellFormedSteps.{merged_is_front}
use Rattle.dp_cluster.specs.Advances.{weight_rows}
use Rattle.dp_cluster.specs.OwnPlaces.{ArePlacesOf}
use Rattle.dp_cluster.specs.declared.runs.Places.{Places}
use Rattle.dp_value.specs.WeightUpdates.{weights_of}
use Rattle.dp_cluster.proofs.RunsOfWeights.{map_alike, map_plus}
use Rattle.dp_cluster.proofs.WeightRows.{as_map, rows_flat}
use Rattle.dp_cluster.specs.Joins.{merged_at, behind, class_in, joined_weight, merged_weight, old_class}
use Rattle.dp_cluster.specs.Joins.{own_count, row_in}
use Rattle.dp_cluster.specs.KeptFronts.{IsFrontOf, KeptFront, kept_weight}
use Rattle.dp_laws.proofs.MergedSpans.{joined_span, kept_span, placed_at, product_split, product_without}

-- the other agents' counts stay
others_before : (i a b : ℕ) (ds : List AgentFront) → take i (class_counts (merged_agents i a b ds))
    ≡ take i (class_counts ds)
others_before i a b [] = refl
others_before zero a b (d ∷ ds) = refl
others_before (suc i) a b (d ∷ ds) = ap (λ l. length d.chosen ∷ l) (others_before i a b ds)

others_behind : (i a b : ℕ) (ds : List AgentFront) → drop (suc i) (class_counts (merged_agents i a b ds))
    ≡ drop (suc i) (class_counts ds)
others_behind i a b [] = refl
others_behind zero a b (d ∷ ds) = refl
others_behind (suc i) a b (d ∷ ds) = others_behind i a b ds

-- a number by its row, class and place
by_place : (D L n : ℕ) → (D / L / n * n + D / L % n) * L + D % L ≡ D
by_place D L n = let inner : D / L / n * n + D / L % n ≡ D / L = omega arith in rw inner (omega arith)

-- ---- where joint class D stands after the join
record Stands (H n L D : ℕ) : Type 0 where
  class_below : D / L % (n - 1) < n - 1
  row_below : D / L / (n - 1) < H
  place_below : D % L < L

stands : (H n L D : ℕ) → D < H * (n - 1) * L → Stands H n L D
stands H n L D lt =
    let some : 0 < L = positive_right (H * (n - 1)) L D lt in
    let upper : D / L < H * (n - 1) = part_below (H * (n - 1)) L D lt in
    let some_class : 0 < n - 1 = positive_right H (n - 1) (D / L) upper in
    record {
      class_below = mod_below (D / L) (n - 1) some_class;
      row_below = part_below H (n - 1) (D / L) upper;
      place_below = mod_below D L some;
    }

-- a class in its place is a joint class
pub old_below : (H n L D e : ℕ) → D < H * (n - 1) * L → e < n
    → (D / L / (n - 1) * n + e) * L + D % L < H * n * L
old_below H n L D e lt he =
    let s = stands H n L D lt in row_below _ (H * n) L (D % L)
    (row_below (D / L / (n - 1)) H n e s.row_below he)
    s.place_below

-- ---- sizes

-- a weight of a joint class fits
pub weight_fits : (m : Model) (k : KeptFront) → IsFrontOf m k → k.is_exact ≡ true → (E : Front)
    → IsFront m k.horizon E → E.stage < k.horizon → (C s : ℕ) → s < m.states
    → size (class_weight_in (exact m.scales) m E C s) < 2 ^ 127
weight_fits m k is e E front lt C s p =
    class_fits (exact m.scales) m k.horizon E
    (mode_can_refine m is.model k.horizon is.some_step is.horizon true (sym e ∙ is.mode) E front lt
    (λ no. cc no))
    C s p

-- ---- the weights after the join are those of the merged front

module _ (m : Model) (k : KeptFront) (is : IsFrontOf m k) (e : k.is_exact ≡ true)
    (lt : k.front.stage < k.horizon)
    (i a b : ℕ) (ab : a < b) (free_a : IsUnassigned i a k.front.agents)
    (free_b : IsUnassigned i b k.front.agents)
  where
    abbrev pub counts : List ℕ
    counts = class_counts k.front.agents

    abbrev pub merged : List ℕ
    merged = class_counts (merged_agents i a b k.front.agents)

    abbrev pub rows : ℕ
    rows = product (take i counts)

    i_in : i < length counts
    i_in = (unassigned_agent i a k.front.agents free_a).0

    pub b_in : b < own_count k i
    b_in = (unassigned_agent i b k.front.agents free_b).1

    one_less : get_or merged i 0 ≡ own_count k i - 1
    one_less = let less = one_class_less i a b k.front.agents free_b in omega arith

    -- how many joint classes there are, before and after
    pub all_before : product counts ≡ rows * own_count k i * behind k i
    all_before = product_split i counts i_in

    pub all_after : product merged ≡ rows * (own_count k i - 1) * behind k i
    all_after =
        product_split i merged (let n = as_many_merged i a b k.front.agents in let l = i_in in omega arith)
        ∙ (λ j. product (others_before i a b k.front.agents j) * one_less j * product
        (others_behind i a b k.front.agents j))

    module _ (D : ℕ) (below : D < rows * (own_count k i - 1) * behind k i) where
      there : Stands rows (own_count k i) (behind k i) D
      there = stands rows (own_count k i) (behind k i) D below

      -- the joint class of the others is in range

      x_in : row_in k i D * behind k i + D % behind k i < product (without i counts)
      x_in = rw (product_without i counts i_in) (row_below (row_in k i D) rows (behind k i) (D % behind k i)
          there.row_below there.place_below)

      old_is : (c : ℕ) → old_class k i D c ≡ placed_number i counts c
          (row_in k i D * behind k i + D % behind k i)
      old_is c = sym (placed_at i counts c (row_in k i D) (D % behind k i)
          i_in there.row_below there.place_below)

      new_is : placed_number i merged (class_in k i D) (row_in k i D * behind k i + D % behind k i) ≡ D
      new_is =
          let L_same : product (drop (suc i) merged) ≡ behind k i = ap product
          (others_behind i a b k.front.agents) in
          let H_same : product (take i merged) ≡ rows = ap product (others_before i a b k.front.agents) in
          let i_merged : i < length merged = let n = as_many_merged i a b k.front.agents in let l = i_in in
          omega arith in
          ap (λ (L : ℕ). placed_number i merged (class_in k i D) (row_in k i D * L + D % behind k i))
          (sym L_same)
          ∙ placed_at i merged (class_in k i D) (row_in k i D) (D % behind k i) i_merged
          (rw H_same there.row_below)
          (rw L_same there.place_below)
          ∙ (λ j. (row_in k i D * one_less j + class_in k i D) * L_same j + D % behind k i)
          ∙ by_place D (behind k i) (own_count k i - 1)

      class_merged : class_in k i D < get_or merged i 0
      class_merged = rw one_less there.class_below

      kept_old : (c s : ℕ) → c < own_count k i → s < m.states → kept_weight k (old_class k i D c) s
          ≡ class_weight_in (exact m.scales) m k.front (placed_number i counts c
          (row_in k i D * behind k i + D % behind k i)) s
      kept_old c s hc hs =
          is.weights lt (old_class k i D c) s (rw all_before (old_below rows (own_count k i) (behind k i)
          D c below hc)) hs
          ∙ ap (λ (y : Bool). class_weight_in (arithmetic y m.scales) m k.front (old_class k i D c) s) e
          ∙ ap (λ (C : ℕ). class_weight_in (exact m.scales) m k.front C s) (old_is c)

      kept_here : kept_class b (class_in k i D) < own_count k i
      kept_here = kept_below b (class_in k i D) _ _ class_merged (one_class_less i a b k.front.agents free_b)

      pub merged_is : (s : ℕ) → s < m.states
          → merged_weight k i a b D s ≡ class_weight_in (exact m.scales) m (merged_front k.front i a b) D s
      merged_is s hs =
          elim (cases_eq (class_in k i D) a) [
            | inl same ↦
                let yes : (class_in k i D == a) ≡ true = grind (arith, nat_tests) in
                let kept : kept_class b (class_in k i D) ≡ a = ap (kept_class b) same ∙ sym (kept_low b a ab) in
                (λ j. joined_weight k (old_class k i D (kept j))
                (if yes j then Some (old_class k i D b) else None) s)
                ∙ (λ j. span_add (kept_old a s (omega (arith, b_in)) hs j) (kept_old b s b_in hs j))
                ∙ sym (joined_span m is.model k.horizon k.front is.front lt i a b ab free_a free_b
                (row_in k i D * behind k i + D % behind k i) s x_in)
                ∙ ap (λ (c : ℕ). class_weight_in (exact m.scales) m (merged_front k.front i a b)
                (placed_number i merged c (row_in k i D * behind k i + D % behind k i)) s) (sym same)
                ∙ ap (λ (C : ℕ). class_weight_in (exact m.scales) m (merged_front k.front i a b) C s) new_is
            | inr ne ↦
                let no : (class_in k i D == a) ≡ false = grind (arith, nat_tests) in
                let apart : a ≢ class_in k i D = λ z. ne (sym z) in
                (λ j. joined_weight k (old_class k i D (kept_class b (class_in k i D)))
                (if no j then Some (old_class k i D b) else None) s)
                ∙ kept_old (kept_class b (class_in k i D)) s kept_here hs
                ∙ sym (kept_span m is.model k.horizon k.front is.front lt i a b ab free_a free_b
                (class_in k i D)
                (row_in k i D * behind k i + D % behind k i) s class_merged apart x_in)
                ∙ ap (λ (C : ℕ). class_weight_in (exact m.scales) m (merged_front k.front i a b) C s) new_is
          ]

      pub merged_room : (s : ℕ) → s < m.states → size (merged_weight k i a b D s) < 2 ^ 127
      merged_room s hs =
          subst (λ (w : Span). size w < 2 ^ 127) (sym (merged_is s hs))
          (weight_fits m k is e (merged_front k.front i a b)
          (merged_is_front m k.horizon k.front i a b is.front lt
          ab free_a free_b) lt D s hs)

-- ---- run by run

regroup : (x l s L S : ℕ) → x * (L * S) + (l * S + s) ≡ (x * L + l) * S + s
regroup x l s L S = omega arith

-- where place j of the run of class c in a row stands, for n classes of which each has L joint classes behind
-- it, each
-- of S states: the joint class, and the state
record StandsInRun (n L S row c j D s : ℕ) : Type 0 where
  class_is : D / L % n ≡ c
  row_is : D / L / n ≡ row
  place : (x : ℕ) → (x * L + D % L) * S + s ≡ x * (L * S) + j

stands_in_run : (n L S row c j p : ℕ) → p ≡ (row * n + c) * (L * S) + j → c < n → j < L * S
    → StandsInRun n L S row c j (p / S) (p % S)
stands_in_run n L S row c j p is hc hj =
    let some : 0 < S = positive_right L S j hj in
    let l_in : j / S < L = part_below L S j hj in
    let s_in : j % S < S = mod_below j S some in
    let split : j / S * S + j % S ≡ j = omega arith in
    let here : p ≡ ((row * n + c) * L + j / S) * S + j % S =
    is ∙ ap (λ (x : ℕ). (row * n + c) * (L * S) + x) (sym split) ∙ regroup (row * n + c) (j / S) (j % S) L S in
    let class : p / S ≡ (row * n + c) * L + j / S =
    ap (λ (x : ℕ). x / S) here ∙ div-mul-add ((row * n + c) * L + j / S) S (j % S) s_in in
    let state : p % S ≡ j % S =
    ap (λ (x : ℕ). x % S) here ∙ mod-mul-add ((row * n + c) * L + j / S) S (j % S) s_in in
    let upper : p / S / L ≡ row * n + c = ap (λ (x : ℕ). x / L) class ∙ div-mul-add (row * n + c) L (j / S) l_in in
    let lower : p / S % L ≡ j / S = ap (λ (x : ℕ). x % L) class ∙ mod-mul-add (row * n + c) L (j / S) l_in in
    record {
      class_is = ap (λ (x : ℕ). x % n) upper ∙ mod-mul-add row n c hc;
      row_is = ap (λ (x : ℕ). x / n) upper ∙ div-mul-add row n c hc;
      place = λ x. (λ i. (x * L + lower i) * S + state i) ∙ sym (regroup x (j / S) (j % S) L S)
          ∙ ap (λ (y : ℕ). x * (L * S) + y) split;
    }

module _ (m : Model) (k : KeptFront) (is : IsFrontOf m k) (e : k.is_exact ≡ true)
    (lt : k.front.stage < k.horizon) (i a b : ℕ) (ab : a < b) (free_a : IsUnassigned i a k.front.agents)
    (free_b : IsUnassigned i b k.front.agents) (ps : Places) (at : ArePlacesOf k i ps) where
  pub some_class_left : 1 ≤ ps.classes
  some_class_left = let b = b_in m k is e lt i a b ab free_a free_b in let e = at.classes in omega arith

  module _ (row c : ℕ) (hr : row < ps.rows) (hc : c < ps.classes - 1) where
    pub second_in : b < ps.classes
    second_in = let lt = b_in m k is e lt i a b ab free_a free_b in let e = at.classes in omega arith

    module _ (j : ℕ) (hj : j < ps.width) where
      abbrev p : ℕ
      p = (row * (ps.classes - 1) + c) * ps.width + j

      abbrev D : ℕ
      D = p / k.states

      abbrev s : ℕ
      s = p % k.states

      here : StandsInRun (own_count k i - 1) (behind k i) k.states row c j D s
      here = stands_in_run (own_count k i - 1) (behind k i) k.states row c j p
          (λ x. (row * (at.classes x - 1) + c) * at.width x + j)
          (rw (sym at.classes) hc) (rw (sym at.width) hj)

      -- the weight of a class at the place
      read : (x : ℕ) → kept_weight k (old_class k i D x) s
          ≡ weights_of k.weights ((row * ps.classes + x) * ps.width + j)
      read x =
          (λ y. weights_of k.weights (((here.row_is y * own_count k i + x) * behind k i + D % behind k i) *
          k.states + s))
          ∙ ap (weights_of k.weights) (here.place (row * own_count k i + x))
          ∙ sym (λ y. weights_of k.weights ((row * at.classes y + x) * at.width y + j))

      pub copied_is : c ≢ a → weights_of k.weights ((row * ps.classes + kept_class b c) * ps.width + j)
          ≡ merged_at k i a b p
      copied_is ne =
          let no : (c == a) ≡ false = grind (arith, nat_tests) in
          sym ((λ y. joined_weight k (old_class k i D (kept_class b (here.class_is y)))
          (if here.class_is y == a then Some (old_class k i D b) else None) s)
          ∙ (λ y. joined_weight k (old_class k i D (kept_class b c)) (if no y then Some (old_class k i D b) else
          None) s)
          ∙ read (kept_class b c))

      pub summed_is : c ≡ a → span_add (weights_of k.weights ((row * ps.classes + kept_class b c) * ps.width + j))
          (weights_of k.weights ((row * ps.classes + b) * ps.width + j)) ≡ merged_at k i a b p
      summed_is same =
          let yes : (c == a) ≡ true = grind (arith, nat_tests) in
          sym ((λ y. joined_weight k (old_class k i D (kept_class b (here.class_is y)))
          (if here.class_is y == a then Some (old_class k i D b) else None) s)
          ∙ (λ y. joined_weight k (old_class k i D (kept_class b c)) (if yes y then Some (old_class k i D b) else
          None) s)
          ∙ (λ y. span_add (read (kept_class b c) y) (read b y)))

      pub summed_room : size (merged_at k i a b p) < 2 ^ 127
      summed_room =
          let some_state : 0 < k.states = positive_right (behind k i) k.states j (rw (sym at.width) hj) in
          let few : p < ps.rows * (ps.classes - 1) * ps.width = row_below (row * (ps.classes - 1) + c)
          (ps.rows * (ps.classes - 1)) ps.width j (row_below row ps.rows (ps.classes - 1) c hr hc) hj in
          let turned : ps.rows * (ps.classes - 1) * ps.width
          ≡ product (take i (class_counts k.front.agents)) * (own_count k i - 1) * behind k i * k.states =
          (λ y. at.rows y * (at.classes y - 1) * at.width y) ∙ factors _ _ _ _ in
          merged_room m k is e lt i a b ab free_a free_b D (part_below _ k.states p (rw (sym turned) few)) s
          (subst (λ (n : ℕ). s < n) is.states (mod_below p k.states some_state))
        where
          factors : (h n l t : ℕ) → h * n * (l * t) ≡ h * n * l * t
          factors h n l t = omega arith

    -- the runs that are copied and added
    pub run_copied : (kept : List Span) → length kept ≡ ps.width → ((j : ℕ) → j < ps.width
        → weights_of kept j ≡ weights_of k.weights ((row * ps.classes + kept_class b c) * ps.width + j)) → c ≢ a
        → kept ≡ map (λ j. merged_at k i a b ((row * (ps.classes - 1) + c) * ps.width + j)) (range_with_len 0
        ps.width)
    run_copied kept size are ne =
        as_map kept
        ∙ ap (λ n. map (weights_of kept) (range_with_len 0 n)) size
        ∙ map_alike (weights_of kept) _ ps.width (λ j hj. are j hj ∙ copied_is j hj ne)

    pub run_summed : (kept other : List Span) → length kept ≡ ps.width → ((j : ℕ) → j < ps.width
        → weights_of kept j ≡ weights_of k.weights ((row * ps.classes + kept_class b c) * ps.width + j))
        → ((j : ℕ) → j < ps.width
        → weights_of other j ≡ weights_of k.weights ((row * ps.classes + b) * ps.width + j)) → c ≡ a
        → map (λ j. span_add (weights_of kept j) (weights_of other j)) (range_with_len 0 (length kept))
        ≡ map (λ j. merged_at k i a b ((row * (ps.classes - 1) + c) * ps.width + j)) (range_with_len 0 ps.width)
    run_summed kept other size are others same =
        ap (λ n. map (λ j. span_add (weights_of kept j) (weights_of other j)) (range_with_len 0 n)) size
        ∙ map_alike _ _ ps.width (λ j hj. (λ y. span_add (are j hj y) (others j hj y)) ∙ summed_is j hj same)

    pub run_room : (kept other : List Span) → length kept ≡ ps.width → ((j : ℕ) → j < ps.width
        → weights_of kept j ≡ weights_of k.weights ((row * ps.classes + kept_class b c) * ps.width + j))
        → ((j : ℕ) → j < ps.width
        → weights_of other j ≡ weights_of k.weights ((row * ps.classes + b) * ps.width + j)) → c ≡ a
        → (j : ℕ) → j < length kept → size (span_add (weights_of kept j) (weights_of other j)) < 2 ^ 127
    run_room kept other long are others same j lt =
        let hj : j < ps.width = rw (sym long) lt in
        subst (λ (w : Span). size w < 2 ^ 127)
        (sym ((λ y. span_add (are j hj y) (others j hj y)) ∙ summed_is j hj same)) (summed_room j hj)

  -- the weights of all rows
  pub rows_are : (row : ℕ) → row ≡ ps.rows
      → map (merged_at k i a b) (range_with_len 0 (row * ((ps.classes - 1) * ps.width)))
      ≡ weight_rows (merged_weight k i a b) k.states
      (product (take i (class_counts k.front.agents)) * (own_count k i - 1) * behind k i)
  rows_are row all =
      ap (λ n. map (merged_at k i a b) (range_with_len 0 n))
      ((λ y. (all ∙ at.rows) y * ((at.classes y - 1) * at.width y)) ∙ factors _ _ _ _)
      ∙ sym (rows_flat (merged_weight k i a b) k.states _)
    where
      factors : (h n l t : ℕ) → h * (n * (l * t)) ≡ h * n * l * t
      factors h n l t = omega arith

-- one run more in a row, and one row more
pub run_next : {X : Type 0} (f : ℕ → X) (n w row class : ℕ) (pre all all' : List X)
    → all ≡ pre ++ map (λ j. f (row * (n * w) + j)) (range_with_len 0 (class * w))
    → all' ≡ all ++ map (λ j. f ((row * n + class) * w + j)) (range_with_len 0 w)
    → all' ≡ pre ++ map (λ j. f (row * (n * w) + j)) (range_with_len 0 ((class + 1) * w))
run_next f n w row class pre all all' before pushed =
    let both : class * w + w ≡ (class + 1) * w = omega arith in
    pushed ∙ (λ y. before y ++ map (λ j. f (stands_at row n w class j y)) (range_with_len 0 w))
    ∙ append_assoc pre _ _
    ∙ ap (λ l. pre ++ l) (sym (map_plus (λ j. f (row * (n * w) + j)) (class * w) w)
    ∙ ap (λ x. map (λ j. f (row * (n * w) + j)) (range_with_len 0 x)) both)
  where
    stands_at : (row n w class j : ℕ) → (row * n + class) * w + j ≡ row * (n * w) + (class * w + j)
    stands_at row n w class j = omega arith

pub row_next : {X : Type 0} (f : ℕ → X) (w row : ℕ) (all all' : List X)
    → all ≡ map f (range_with_len 0 (row * w)) → all' ≡ all ++ map (λ j. f (row * w + j)) (range_with_len 0 w)
    → all' ≡ map f (range_with_len 0 ((row + 1) * w))
row_next f w row all all' before pushed =
    let both : row * w + w ≡ (row + 1) * w = omega arith in
    pushed ∙ (λ y. before y ++ map (λ j. f (row * w + j)) (range_with_len 0 w)) ∙ sym (map_plus f (row * w) w)
    ∙ ap (λ x. map f (range_with_len 0 x)) both
