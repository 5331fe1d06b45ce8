-- The weights of one agent's classes, run by run: totals, and the first place where two classes differ.
use Rattle.std.proofs.Common.{◌↔◌, ◌≡◌, ◌⊎◌, inl, inr, ℕ, zero, suc, ◌+◌, ◌-◌, ◌*◌, ◌<◌, ◌≤◌, ◌^◌, List, length, ℤ}
use Rattle.std.proofs.Common.{unsigned_abs, [], ◌∷◌, ◌++◌, map, refl, sym, ap, ◌∙◌, subst, arith}
use Rattle.std.specs.List.{range_with_len}
use Rattle.std.proofs.lemmas.List.{append_assoc, append-nil}
use Rattle.std.proofs.lemmas.List.FromFn.{map-range_with_len_more}
use Rattle.std.proofs.lemmas.Nat.{div-mul-add, mod-mul-add}
use Rattle.std.proofs.Math.Nat.{mul-le-mul_right}
use Rattle.dp_base.specs.Sums.{nat_sum}
use Rattle.dp_base.proofs.NaturalSumLaws.{nat_sum_ext, nat_sum_none, nat_sum_part, nat_sum_plus}
use Rattle.dp_spec.specs.declared.span.Span.{Span}
use Rattle.dp_spec.proofs.JointNumberLaws.{row_below}
use Rattle.dp_cluster.specs.OwnWeights.{AreInProportion, AreOwnRuns, IsFirstWithout, low_at, low_end, own_low}
use Rattle.dp_cluster.specs.OwnWeights.{own_total, own_weight}

-- ---- numbers up to a place

pub map_plus : {X : Type 0} (f : ℕ → X) (a b : ℕ)
    → map f (range_with_len 0 (a + b)) ≡ map f (range_with_len 0 a) ++ map (λ j. f (a + j)) (range_with_len 0 b)
map_plus f a zero =
    let none : a + zero ≡ a = omega arith in
    ap (λ k. map f (range_with_len 0 k)) none ∙ sym (append-nil (map f (range_with_len 0 a)))
map_plus f a (suc b) =
    let more : a + suc b ≡ a + b + 1 = omega arith in
    let next : b + 1 ≡ suc b = omega arith in
    ap (λ k. map f (range_with_len 0 k)) more
    ∙ map-range_with_len_more f 0 (a + b) (a + b) (omega arith)
    ∙ ap (λ l. l ++ f (a + b) ∷ []) (map_plus f a b)
    ∙ append_assoc (map f (range_with_len 0 a)) (map (λ j. f (a + j)) (range_with_len 0 b)) (f (a + b) ∷ [])
    ∙ ap (λ l. map f (range_with_len 0 a) ++ l) (sym (map-range_with_len_more (λ j. f (a + j)) 0 b b
    (omega arith)))
    ∙ ap (λ k. map f (range_with_len 0 a) ++ map (λ j. f (a + j)) (range_with_len 0 k)) next

pub map_alike : {X : Type 0} (f g : ℕ → X) (n : ℕ) → ((j : ℕ) → j < n → f j ≡ g j)
    → map f (range_with_len 0 n) ≡ map g (range_with_len 0 n)
map_alike f g zero same = refl
map_alike f g (suc n) same =
    let next : suc n ≡ n + 1 = omega arith in
    ap (λ k. map f (range_with_len 0 k)) next
    ∙ map-range_with_len_more f 0 n n (omega arith)
    ∙ (λ j. map_alike f g n (λ i lt. same i (omega arith)) j ++ same n (omega arith) j ∷ [])
    ∙ sym (map-range_with_len_more g 0 n n (omega arith))
    ∙ ap (λ k. map g (range_with_len 0 k)) (sym next)

-- ---- where a run stands

module _ (ws : List Span) (rows n w : ℕ) (runs : AreOwnRuns ws rows n w) where
  -- there are few rows of few classes
  pub few_runs : rows * n ≤ 2 ^ 22
  few_runs = at_most (rows * n) w runs.some runs.all runs.limit
    where
      at_most : (x w : ℕ) → 0 < w → x * w ≡ length ws → length ws ≤ 2 ^ 22 → x ≤ 2 ^ 22
      at_most x zero some all limit = absurd (omega arith)
      at_most x (suc w) some all limit = omega arith

  module _ (row c : ℕ) (row_in : row < rows) (class_in : c < n) where
    pub run_number : row * n + c < rows * n
    run_number = row_below row rows n c row_in class_in

    pub run_within : (row * n + c) * w + w ≤ length ws
    run_within = ends (row * n + c) (rows * n) w run_number runs.all
      where
        ends : (x y w : ℕ) → x < y → y * w ≡ length ws → x * w + w ≤ length ws
        ends x zero w lt all = absurd (omega arith)
        ends x (suc y) w lt all =
            let more : suc x * w ≤ suc y * w = mul-le-mul_right w lt in omega arith

    -- the weight at place j of the run is that of its place
    pub place_in_run : (j : ℕ) → j < w → own_weight ws n w c (row * w + j) ≡ low_at ws ((row * n + c) * w + j)
    place_in_run j lt = λ i. low_at ws ((div-mul-add row w j lt i * n + c) * w + mod-mul-add row w j lt i)

    low_in_run : (j : ℕ) → j < w → own_low ws n w c (row * w + j) ≡ low_end ws ((row * n + c) * w + j)
    low_in_run j lt = λ i. low_end ws ((div-mul-add row w j lt i * n + c) * w + mod-mul-add row w j lt i)

    -- the weights so far, after the run
    pub weights_next : (run : List Span) (all all' : List ℤ) → length run ≡ w
        → ((j : ℕ) → j < w → low_end run j ≡ low_end ws ((row * n + c) * w + j))
        → all ≡ map (own_low ws n w c) (range_with_len 0 (row * w))
        → all' ≡ all ++ map (low_end run) (range_with_len 0 (length run))
        → all' ≡ map (own_low ws n w c) (range_with_len 0 ((row + 1) * w))
    weights_next run all all' size are before pushed =
        let last : map (low_end run) (range_with_len 0 (length run))
        ≡ map (λ j. own_low ws n w c (row * w + j)) (range_with_len 0 w) =
        ap (λ k. map (low_end run) (range_with_len 0 k)) size
        ∙ map_alike (low_end run) (λ j. own_low ws n w c (row * w + j)) w
        (λ j lt. are j lt ∙ sym (low_in_run j lt)) in
        let both : row * w + w ≡ (row + 1) * w = omega arith in
        pushed ∙ (λ j. before j ++ last j) ∙ sym (map_plus (own_low ws n w c) (row * w) w)
        ∙ ap (λ k. map (own_low ws n w c) (range_with_len 0 k)) both

    -- the total after the run
    pub total_next : (run : List Span) → length run ≡ w → ((j : ℕ) → j < w
        → low_end run j ≡ low_end ws ((row * n + c) * w + j))
        → own_total ws n w (row * w) c + nat_sum (length run) (low_at run) ≡ own_total ws n w ((row + 1) * w) c
    total_next run size are =
        let last : nat_sum (length run) (low_at run) ≡ nat_sum w (λ j. own_weight ws n w c (row * w + j)) =
        ap (λ k. nat_sum k (low_at run)) size ∙ nat_sum_ext w _ _
        (λ j lt. ap unsigned_abs (are j lt) ∙ sym (place_in_run j lt)) in
        let all : row * w + w ≡ (row + 1) * w = omega arith in
        (λ j. own_total ws n w (row * w) c + last j) ∙ sym (nat_sum_plus (row * w) w (own_weight ws n w c))
        ∙ ap (λ k. own_total ws n w k c) all

    pub total_within : own_total ws n w ((row + 1) * w) c ≤ own_total ws n w (rows * w) c
    total_within = nat_sum_part ((row + 1) * w) (rows * w) (own_weight ws n w c)
        (rows_le (row + 1) rows w (omega arith))
      where
        rows_le : (x y w : ℕ) → x ≤ y → x * w ≤ y * w
        rows_le x y w le = mul-le-mul_right w le

    -- a place of the run can be counted
    pub place_few : (j : ℕ) → j < w → row * w + j < 2 ^ 22
    place_few j lt = let all = run_within in let limit = runs.limit in
        few_places row n w c j lt class_in (omega arith)
      where
        few_places : (row n w c j : ℕ) → j < w → c < n → (row * n + c) * w + w ≤ 2 ^ 22 → row * w + j < 2 ^ 22
        few_places row zero w c j lt some all = absurd (omega arith)
        few_places row (suc n) w c j lt some all =
            let more : row * w + w ≤ (row * suc n + c) * w + w = grind arith in omega arith

-- ---- where two classes differ

-- of two numbers one is at most the other
le_or_lt : (x y : ℕ) → (x ≤ y) ⊎ (y < x)
le_or_lt zero y = inl (omega arith)
le_or_lt (suc x) zero = inr (omega arith)
le_or_lt (suc x) (suc y) = elim (le_or_lt x y) [ inl le ↦ inl (omega arith) | inr lt ↦ inr (omega arith) ]

-- a class without weight is in proportion to every class
pub none_in_proportion : (ws : List Span) (n w places a b : ℕ)
    → (own_total ws n w places a ≡ 0) ⊎ (own_total ws n w places b ≡ 0)
    → (p : ℕ) → p < places → AreInProportion ws n w places a b p
none_in_proportion ws n w places a b (inl none) p lt =
    let here : own_weight ws n w a p ≡ 0 = nat_sum_none places (own_weight ws n w a) none p lt in
    rw (here, none) (omega arith)
none_in_proportion ws n w places a b (inr none) p lt =
    let here : own_weight ws n w b p ≡ 0 = nat_sum_none places (own_weight ws n w b) none p lt in
    rw (here, none) (omega arith)

-- the runs of classes a and b in a row, and the totals of the two
pub record AreRunsOf (ws : List Span) (rows n w row a b : ℕ) (one other : List Span) (t u : ℕ) : Type 0 where
  pub runs : AreOwnRuns ws rows n w
  pub row_in : row < rows
  pub first_in : a < n
  pub second_in : b < n
  pub size : length one ≡ w
  pub first : (j : ℕ) → j < w → low_end one j ≡ low_end ws ((row * n + a) * w + j)
  pub second : (j : ℕ) → j < w → low_end other j ≡ low_end ws ((row * n + b) * w + j)
  pub first_total : t ≡ own_total ws n w (rows * w) a
  pub second_total : u ≡ own_total ws n w (rows * w) b

-- facts that hold of the same numbers fail first at the same number
pub first_alike : (P Q : ℕ → Type 0) → (n at : ℕ) → ((j : ℕ) → P j ↔ Q j) → IsFirstWithout P n at
    → IsFirstWithout Q n at
first_alike P Q n at same first = record {
  below = first.below;
  fails = λ holds. first.fails ((same at).1 holds);
  before = λ q lt. (same q).0 (first.before q lt);
}

module _ (ws : List Span) (rows n w row a b : ℕ) (one other : List Span) (t u : ℕ)
    (are : AreRunsOf ws rows n w row a b one other t u) where
  first_here : (j : ℕ) → j < w → low_at one j ≡ own_weight ws n w a (row * w + j)
  first_here j lt = ap unsigned_abs (are.first j lt) ∙ sym (place_in_run ws rows n w are.runs row a are.row_in
      are.first_in j lt)

  second_here : (j : ℕ) → j < w → low_at other j ≡ own_weight ws n w b (row * w + j)
  second_here j lt = ap unsigned_abs (are.second j lt) ∙ sym
      (place_in_run ws rows n w are.runs row b are.row_in are.second_in j lt)

  in_proportion : (j : ℕ) → j < w → low_at one j * u ≡ low_at other j * t
      → AreInProportion ws n w (rows * w) a b (row * w + j)
  in_proportion j lt same =
      (λ i. sym (first_here j lt) i * sym are.second_total i) ∙ same
      ∙ (λ i. second_here j lt i * are.first_total i)

  as_runs : (j : ℕ) → j < w → AreInProportion ws n w (rows * w) a b (row * w + j)
      → low_at one j * u ≡ low_at other j * t
  as_runs j lt same =
      (λ i. first_here j lt i * are.second_total i) ∙ same ∙ (λ i. sym (second_here j lt)
      i * sym are.first_total i)

  -- a place before the next row is before this one or in it
  by_row : (P : ℕ → Type 0) → ((p : ℕ) → p < row * w → P p) → ((j : ℕ) → j < w → P (row * w + j)) → (stop p : ℕ)
      → stop ≤ w → p < row * w + stop → P p
  by_row P before here stop p le lt =
      elim (le_or_lt (row * w) p) [
        | inl later ↦
            let back : row * w + (p - row * w) ≡ p = omega arith in
            subst P back (here (p - row * w) (omega arith))
        | inr earlier ↦ before p earlier
      ]

  pub proportion_next : ((p : ℕ) → p < row * w → AreInProportion ws n w (rows * w) a b p)
      → ((j : ℕ) → j < length one → low_at one j * u ≡ low_at other j * t)
      → (p : ℕ) → p < (row + 1) * w → AreInProportion ws n w (rows * w) a b p
  proportion_next before here p lt =
      let stop : p < row * w + w = omega arith in
      by_row (AreInProportion ws n w (rows * w) a b) before
      (λ j lt_j. in_proportion j lt_j (here j (subst (λ x. j < x) (sym are.size) lt_j))) w p (omega arith) stop

  pub difference_is : ((p : ℕ) → p < row * w → AreInProportion ws n w (rows * w) a b p) → (at : ℕ)
      → IsFirstWithout (λ j. low_at one j * u ≡ low_at other j * t) (length one) at
      → IsFirstWithout (AreInProportion ws n w (rows * w) a b) (rows * w) (row * w + at)
  difference_is before at first =
      let inside : at < w = subst (λ x. at < x) are.size first.below in
      record {
        below = row_below row rows w at are.row_in inside;
        fails = λ same. first.fails (as_runs at inside same);
        before = λ q lt.
            elim (le_or_lt (row * w) q) [
              | inl later ↦
                  let back : row * w + (q - row * w) ≡ q = omega arith in
                  subst (AreInProportion ws n w (rows * w) a b) back
                  (in_proportion (q - row * w) (omega arith) (first.before (q - row * w) (omega arith)))
              | inr earlier ↦ before q earlier
            ];
      }
