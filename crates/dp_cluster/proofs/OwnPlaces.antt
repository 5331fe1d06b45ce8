-- The kept weights of an agent's classes at their places are those of the definitions, in exact mode.
use Rattle.std.proofs.Common.{◌≡◌, ℕ, ◌+◌, ◌*◌, ◌/◌, ◌%◌, ◌<◌, ◌^◌, Bool, true, List, Option, Some, None}
use Rattle.std.proofs.Common.{unsigned_abs, length, take, ℤ, pos, [], ◌∷◌, map, refl, sym, ap, ◌∙◌, subst, arith}
use Rattle.std.specs.Prelude.{MatchOption}
use Rattle.std.specs.List.{range_with_len}
use Rattle.std.proofs.lemmas.Nat.{div-mul-add, mod-mul-add, mod_below}
use Rattle.dp_base.specs.Sums.{nat_sum}
use Rattle.dp_base.proofs.NaturalSumLaws.{nat_sum_ext, nat_sum_prod}
use Rattle.dp_spec.specs.declared.span.Span.{Span}
use Rattle.dp_spec.specs.Arithmetic.{arithmetic, exact}
use Rattle.dp_spec.specs.Front.{class_counts}
use Rattle.dp_spec.specs.JointNumbers.{product}
use Rattle.dp_spec.specs.Merge.{class_total, place_weight, placed_number, without}
use Rattle.dp_spec.specs.Model.{Model}
use Rattle.dp_spec.specs.Quantities.{class_weight_in}
use Rattle.dp_spec.specs.UnequalPlaces.{AgreeAt, IsFirstUnequal, class_vector, first_unequal, place_count, weight_at}
use Rattle.dp_spec.proofs.JointNumberLaws.{part_below, positive_right, row_below}
use Rattle.dp_laws.proofs.MergedSpans.{placed_at, product_split, product_without}
use Rattle.dp_laws.proofs.PlaceWeights.{place_weight_in, places_total, total_fits}
use Rattle.dp_laws.proofs.UnequalPlaces.{agreement_is, first_unequal_is, none_unequal_is}
use Rattle.dp_cluster.specs.Joins.{behind, own_count}
use Rattle.dp_cluster.specs.KeptFronts.{IsFrontOf, KeptFront, kept_weight}
use Rattle.dp_cluster.specs.OwnWeights.{AreInProportion, IsFirstWithout, low_end, own_low, own_total, own_weight}
use Rattle.dp_cluster.proofs.FrontParts.{as_many_counts}
use Rattle.dp_cluster.proofs.RunsOfWeights.{map_alike}

-- a number by its row and place
by_row : (x w : ℕ) → x / w * w + x % w ≡ x
by_row x w = omega arith

module _ (m : Model) (k : KeptFront) (is : IsFrontOf m k) (e : k.is_exact ≡ true)
    (lt : k.front.stage < k.horizon)
    (i : ℕ) (agent : i < length k.front.agents) where
  -- how many joint classes the agents before agent i have, how many weights a run has, and how many places there are
  abbrev pub rows : ℕ
  rows = product (take i (class_counts k.front.agents))

  abbrev pub width : ℕ
  width = behind k i * k.states

  abbrev pub places : ℕ
  places = rows * width

  abbrev counts : List ℕ
  counts = class_counts k.front.agents

  i_in : i < length counts
  i_in = let n = as_many_counts k.front.agents in omega arith

  others_are : product (without i counts) ≡ rows * behind k i
  others_are = product_without i counts i_in

  pub places_are : places ≡ place_count m k.front i
  unfolding place_count
  places_are = regroup rows (behind k i) k.states ∙ (λ j. sym others_are j * is.states j)
    where
      regroup : (h l s : ℕ) → h * (l * s) ≡ h * l * s
      regroup h l s = omega arith

  -- the weight of class c with joint class x of the others and state s
  module _ (c x s : ℕ) (class_in : c < own_count k i) (x_in : x < product (without i counts))
      (s_in : s < k.states)
    where
      abbrev low : ℕ
      low = x % behind k i

      abbrev high : ℕ
      high = x / behind k i

      x_below : x < rows * behind k i
      x_below = subst (λ (z : ℕ). x < z) others_are x_in

      some_behind : 0 < behind k i
      some_behind = positive_right rows (behind k i) x x_below

      low_in : low < behind k i
      low_in = mod_below x (behind k i) some_behind

      high_in : high < rows
      high_in = part_below rows (behind k i) x x_below

      -- its place in the row
      in_row : x * k.states + s ≡ high * width + (low * k.states + s)
      in_row =
          ap (λ (z : ℕ). z * k.states + s) (sym (by_row x (behind k i)))
          ∙ regroup high (behind k i) low k.states s
        where
          regroup : (h l r t s : ℕ) → (h * l + r) * t + s ≡ h * (l * t) + (r * t + s)
          regroup h l r t s = omega arith

      in_run : low * k.states + s < width
      in_run = row_below low (behind k i) k.states s low_in s_in

      number : ℕ
      number = (high * own_count k i + c) * behind k i + low

      number_in : number < product counts
      unfolding number
      number_in =
          rw (product_split i counts i_in)
          (row_below (high * own_count k i + c) (rows * own_count k i) (behind k i) low
          (row_below high rows (own_count k i) c high_in class_in) low_in)

      -- it is that of the joint class
      kept_here : own_low k.weights (own_count k i) width c (x * k.states + s) ≡ (kept_weight k number s).low
      unfolding number
      kept_here =
          let row_is = div-mul-add high width (low * k.states + s) in_run in
          let rest_is = mod-mul-add high width (low * k.states + s) in_run in
          ap (own_low k.weights (own_count k i) width c) in_row
          ∙ (λ j. low_end k.weights ((row_is j * own_count k i + c) * width + rest_is j))
          ∙ ap (low_end k.weights) (regroup (high * own_count k i + c) (behind k i) low k.states s)
        where
          regroup : (h l r t s : ℕ) → h * (l * t) + (r * t + s) ≡ (h * l + r) * t + s
          regroup h l r t s = omega arith

      placed : number ≡ placed_number i counts c x
      unfolding number
      placed =
          sym (placed_at i counts c high low i_in high_in low_in)
          ∙ ap (placed_number i counts c) (by_row x (behind k i))

      low_here : own_low k.weights (own_count k i) width c (x * k.states + s)
          ≡ pos (place_weight m k.front i c x s)
      low_here =
          let kept = is.weights lt number s number_in (subst (λ (z : ℕ). s < z) is.states s_in) in
          let in_exact : kept_weight k number s ≡ class_weight_in (exact m.scales) m k.front number s =
          kept ∙ ap (λ (y : Bool). class_weight_in (arithmetic y m.scales) m k.front number s) e in
          let defined = place_weight_in m is.model k.horizon k.front is.front i c x s i_in class_in x_in in
          let same = ap (λ (C : ℕ). class_weight_in (exact m.scales) m k.front C s) placed in
          kept_here ∙ ap (λ (w : Span). w.low) (in_exact ∙ same ∙ defined)

      weight_here : own_weight k.weights (own_count k i) width c (x * k.states + s)
          ≡ place_weight m k.front i c x s
      weight_here = ap unsigned_abs low_here

  -- place by place
  low_is : (c p : ℕ) → c < own_count k i → p < places
      → own_low k.weights (own_count k i) width c p ≡ pos (weight_at m k.front i c p)
  low_is c p class_in p_in =
      let same : places ≡ rows * behind k i * k.states = omega arith in
      let all : p < product (without i counts) * k.states = rw others_are (omega arith) in
      let some : 0 < k.states = positive_right (product (without i counts)) k.states p all in
      let x_in = part_below (product (without i counts)) k.states p all in
      ap (own_low k.weights (own_count k i) width c) (sym (by_row p k.states))
      ∙ low_here c (p / k.states) (p % k.states) class_in x_in (mod_below p k.states some)
      ∙ (λ j. pos (place_weight m k.front i c (p / is.states j) (p % is.states j)))

  weight_is : (c p : ℕ) → c < own_count k i → p < places
      → own_weight k.weights (own_count k i) width c p ≡ weight_at m k.front i c p
  weight_is c p class_in p_in = ap unsigned_abs (low_is c p class_in p_in)

  -- the whole vector of a class
  vector_here : (c : ℕ) → c < own_count k i
      → map (own_low k.weights (own_count k i) width c) (range_with_len 0 places)
      ≡ map pos (class_vector m k.front i c)
  unfolding class_vector
  vector_here c class_in =
      map_alike (own_low k.weights (own_count k i) width c) (λ p. pos (weight_at m k.front i c p)) places
      (λ p lt. low_is c p class_in lt)
      ∙ map_twice (weight_at m k.front i c) (range_with_len 0 places)
      ∙ ap (λ (n : ℕ). map pos (map (weight_at m k.front i c) (range_with_len 0 n))) places_are
    where
      map_twice : (f : ℕ → ℕ) (xs : List ℕ) → map (λ p. pos (f p)) xs ≡ map pos (map f xs)
      map_twice f [] = refl
      map_twice f (x ∷ xs) = ap (λ (l : List ℤ). pos (f x) ∷ l) (map_twice f xs)

  -- all together
  total_is : (c : ℕ) → c < own_count k i → own_total k.weights (own_count k i) width places c
      ≡ class_total m k.front i c
  total_is c class_in =
      let f = own_weight k.weights (own_count k i) width c in
      let all : places ≡ product (without i counts) * k.states = rw others_are (omega arith) in
      ap (λ (n : ℕ). nat_sum n f) all
      ∙ nat_sum_prod (product (without i counts)) k.states f
      ∙ nat_sum_ext (product (without i counts)) _ _ (λ x x_in.
      nat_sum_ext k.states (λ s. f (x * k.states + s)) (place_weight m k.front i c x)
      (λ s s_in. weight_here c x s class_in x_in s_in)
      ∙ ap (λ (n : ℕ). nat_sum n (place_weight m k.front i c x)) is.states)
      ∙ places_total m k.horizon k.front is.front i c i_in

  total_few : (c : ℕ) → c < own_count k i → own_total k.weights (own_count k i) width places c < 2 ^ 127
  total_few c class_in =
      let fits = total_fits m is.model k.horizon is.some_step (sym e ∙ is.mode) k.front is.front lt i c in
      subst (λ (n : ℕ). n < 2 ^ 127) (sym (total_is c class_in)) fits

  -- the same of numbers that were read
  pub vector_at : (c : ℕ) → c < own_count k i → (h n w : ℕ) → h ≡ rows → n ≡ own_count k i → w ≡ width
      → map (own_low k.weights n w c) (range_with_len 0 (h * w)) ≡ map pos (class_vector m k.front i c)
  vector_at c class_in h n w eh en ew =
      (λ j. map (own_low k.weights (en j) (ew j) c) (range_with_len 0 (eh j * ew j))) ∙ vector_here c class_in

  pub total_at : (c : ℕ) → c < own_count k i → (h n w : ℕ) → h ≡ rows → n ≡ own_count k i → w ≡ width
      → own_total k.weights n w (h * w) c ≡ class_total m k.front i c
  total_at c class_in h n w eh en ew = (λ j. own_total k.weights (en j) (ew j) (eh j * ew j) c)
      ∙ total_is c class_in

  pub few_at : (c : ℕ) → c < own_count k i → (h n w : ℕ) → h ≡ rows → n ≡ own_count k i → w ≡ width
      → own_total k.weights n w (h * w) c < 2 ^ 127
  few_at c class_in h n w eh en ew =
      let same : own_total k.weights n w (h * w) c ≡ own_total k.weights (own_count k i) width places c =
      λ j. own_total k.weights (en j) (ew j) (eh j * ew j) c in
      subst (λ (x : ℕ). x < 2 ^ 127) (sym same) (total_few c class_in)

  module _ (a b : ℕ) (a_in : a < own_count k i) (b_in : b < own_count k i) where
    agree_is : (p : ℕ) → p < places → AreInProportion k.weights (own_count k i) width places a b p
        → AgreeAt m k.front i a b p
    agree_is p p_in same =
        (λ j. sym (weight_is a p a_in p_in) j * sym (total_is b b_in) j) ∙ same
        ∙ (λ j. weight_is b p b_in p_in j * total_is a a_in j)

    is_agreed : (p : ℕ) → p < places → AgreeAt m k.front i a b p
        → AreInProportion k.weights (own_count k i) width places a b p
    is_agreed p p_in same =
        (λ j. weight_is a p a_in p_in j * total_is b b_in j) ∙ same
        ∙ (λ j. sym (weight_is b p b_in p_in) j * sym (total_is a a_in) j)

    -- what a search for the first difference answers
    abbrev pub Searched : Option ℕ → ℕ → ℕ → ℕ → Type 0
    Searched r h n w =
        MatchOption r ((p : ℕ) → p < h * w → AreInProportion k.weights n w (h * w) a b p)
        (IsFirstWithout (AreInProportion k.weights n w (h * w) a b) (h * w))

    found_is : (r : Option ℕ) → Searched r rows (own_count k i) width → r ≡ first_unequal m k.front i a b
    found_is None all =
        let alike = (agreement_is m k.front i a b).0 (λ p p_in.
        let inside : p < places = subst (λ (n : ℕ). p < n) (sym places_are) p_in in
        agree_is p inside (all p inside)) in
        sym ((none_unequal_is m k.front i a b).1 alike)
    found_is (Some p) first =
        let is_first : IsFirstUnequal m k.front i a b p =
        record {
          there = subst (λ (n : ℕ). p < n) places_are first.below;
          unequal = λ same. first.fails (is_agreed p first.below same);
          before = λ q before. agree_is q (let below = first.below in omega arith) (first.before q before);
        } in
        sym ((first_unequal_is m k.front i a b p).1 is_first)

    pub searched_is : (r : Option ℕ) (h n w : ℕ) → h ≡ rows → n ≡ own_count k i → w ≡ width → Searched r h n w
        → r ≡ first_unequal m k.front i a b
    searched_is r h n w eh en ew all =
        let first = subst (λ (x : ℕ). Searched r x n w) eh all in
        let second = subst (λ (x : ℕ). Searched r rows x w) en first in
        found_is r (subst (λ (x : ℕ). Searched r rows (own_count k i) x) ew second)
