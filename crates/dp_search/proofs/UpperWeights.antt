-- The upper weights of an agent's classes, joint class after joint class.
use Rattle.std.proofs.Common.{◌≡◌, ℕ, suc, ◌+◌, ◌*◌, ◌/◌, ◌%◌, ◌^◌, ◌<◌, ◌≤◌, Bool, true, false, cond, eqb, inl, inr}
use Rattle.std.proofs.Common.{ℤ, pos, ◌+ℤ◌, unsigned_abs, List, length, get_or, set, add-one, FitsSigned, to_z, of_z}
use Rattle.std.proofs.Common.{sym, ap, ◌∙◌, arith}
use Rattle.std.specs.Int.{w128}
use Rattle.std.proofs.lemmas.Int.{fits_signed_from_abs, ints, to_z-of_z}
use Rattle.std.proofs.lemmas.Bool.{cases_eq}
use Rattle.std.proofs.lemmas.Bool.Decides.{nat_tests}
use Rattle.std.proofs.lemmas.List.{get_or-set_same, get_or-set_other}
use Rattle.dp_base.specs.Sums.{int_sum, nat_sum}
use Rattle.dp_base.proofs.NaturalSumLaws.{nat_sum_at, nat_sum_ext, nat_sum_le}
use Rattle.dp_base.proofs.Sums.{int_sum_ext}
use Rattle.dp_spec.specs.declared.span.Span.{Span}
use Rattle.dp_spec.proofs.JointNumberLaws.{below_at, part-is, parts_below, product-drop_above, size_above}
use Rattle.dp_spec.specs.Arithmetic.{arithmetic}
use Rattle.dp_spec.specs.Calls.{size}
use Rattle.dp_spec.specs.Front.{class_counts}
use Rattle.dp_spec.specs.JointNumbers.{parts_of, product}
use Rattle.dp_spec.specs.Mode.{is_exact_mode}
use Rattle.dp_spec.specs.Model.{Model, joint_observations}
use Rattle.dp_spec.specs.Qualities.{upper_weight}
use Rattle.dp_spec.specs.Quantities.{class_weight_in}
use Rattle.dp_laws.proofs.OrderedSpans.{classes_total, total_size}
use Rattle.dp_laws.proofs.SizeLaws.{mode_can_refine}
use Rattle.dp_laws.proofs.SizeSums.{int_sum_abs, int_sum_part}
use Rattle.dp_value.specs.WeightUpdates.{weights_of}
use Rattle.dp_cluster.specs.Joins.{behind, own_count}
use Rattle.dp_cluster.proofs.FrontParts.{as_many_counts}
use Rattle.dp_cluster.specs.KeptFronts.{IsFrontOf, KeptFront, kept_weight}
use Rattle.dp_search.specs.FrontPlaces.{kept_upper, kept_upper_weight, upper_size}

-- ---- one joint class further

-- where joint class C is of class p C, each class has the sum of f over its joint classes
pub class_next : (f : ℕ → ℤ) (p : ℕ → ℕ) (C count : ℕ) (ws ws' : List ℤ) (new : ℤ) → length ws ≡ count
    → p C < count → ((c : ℕ) → c < count → get_or ws c (pos 0)
    ≡ int_sum C (λ D. cond (eqb (p D) c) (f D) (pos 0)))
    → new ≡ get_or ws (p C) (pos 0) +ℤ f C → ws' ≡ set ws (p C) new
    → (c : ℕ) → c < count → get_or ws' c (pos 0) ≡ int_sum (suc C) (λ D. cond (eqb (p D) c) (f D) (pos 0))
class_next f p C count ws ws' new long in_range before added written c lt = elim (cases_eq (p C) c) [
  | inl e ↦
      let here : eqb (p C) c ≡ true = grind (arith, nat_tests) in
      ap (λ l. get_or l c (pos 0)) written
      ∙ ap (λ k. get_or (set ws (p C) new) k (pos 0)) (sym e)
      ∙ get_or-set_same ws (p C) new (pos 0) (omega arith) ∙ added
      ∙ ap (λ x. x +ℤ f C) (before (p C) in_range)
      ∙ (λ j. int_sum C (λ D. cond (eqb (p D) (e j)) (f D) (pos 0)) +ℤ cond (sym here j) (f C) (pos 0))
  | inr ne ↦
      let there : eqb (p C) c ≡ false = grind (arith, nat_tests) in
      ap (λ l. get_or l c (pos 0)) written
      ∙ get_or-set_other ws (p C) c new (pos 0) (λ e. ne (sym e))
      ∙ before c lt ∙ add_none _
      ∙ (λ j. int_sum C (λ D. cond (eqb (p D) c) (f D) (pos 0)) +ℤ cond (sym there j) (f C) (pos 0))
]
  where
    add_none : (x : ℤ) → x ≡ x +ℤ pos 0
    add_none x = omega (arith, ints)

-- ---- sizes

one_small : (t : Bool) (k : KeptFront) (C : ℕ) → unsigned_abs (cond t (kept_upper k C) (pos 0)) ≤ upper_size k C
one_small true k C = int_sum_abs k.states (λ s. (kept_weight k C s).high)
one_small false k C = omega arith

-- a first part of a class's upper weights is no larger than all magnitudes together
pub part_small : (k : KeptFront) (i c n N : ℕ) → n ≤ N
    → unsigned_abs (kept_upper_weight k i c n) ≤ nat_sum N (upper_size k)
part_small k i c n N le =
    let f = λ (C : ℕ). cond (eqb (get_or (parts_of (class_counts k.front.agents) C) i 0) c) (kept_upper k C)
    (pos 0) in
    let part = int_sum_part n N f le in
    let each = nat_sum_le N (λ C. unsigned_abs (f C)) (upper_size k)
    (λ C p. one_small (eqb (get_or (parts_of (class_counts k.front.agents) C) i 0) c) k C) in
    omega arith

high_small : (m : Model) (k : KeptFront) → IsFrontOf m k → k.front.stage < k.horizon → (C : ℕ)
    → C < product (class_counts k.front.agents)
    → upper_size k C ≤ total_size m (class_weight_in (arithmetic k.is_exact m.scales) m k.front C)
high_small m k is early C lt =
    let W = class_weight_in (arithmetic k.is_exact m.scales) m k.front C in
    let same : upper_size k C ≡ nat_sum m.states (λ s. unsigned_abs (kept_weight k C s).high) =
    ap (λ (n : ℕ). nat_sum n (λ s. unsigned_abs (kept_weight k C s).high)) is.states in
    let le = nat_sum_le m.states (λ s. unsigned_abs (kept_weight k C s).high) (λ s. size (W s))
    (λ s p. let e = ap (λ w. unsigned_abs w.high) (is.weights early C s lt p) in omega arith) in
    omega arith

-- all magnitudes together fit in 127 bits
pub all_small : (m : Model) (k : KeptFront) → IsFrontOf m k → k.front.stage < k.horizon
    → (is_exact_mode m k.horizon ≡ false → m.states * joint_observations m ^ k.front.stage ≤ 2 ^ 22)
    → nat_sum (product (class_counts k.front.agents)) (upper_size k) < 2 ^ 127
all_small m k is early cells =
    let A = arithmetic k.is_exact m.scales in
    let N = product (class_counts k.front.agents) in
    let can = mode_can_refine m is.model k.horizon is.some_step is.horizon k.is_exact is.mode k.front
    is.front early
    (λ e. cells (sym is.mode ∙ e)) in
    let each = nat_sum_le N (upper_size k) (λ C. total_size m (class_weight_in A m k.front C))
    (λ C p. high_small m k is early C p) in
    let all = classes_total A m k.front N in
    let fits = can.classify in
    omega arith

-- ---- the weights of the definitions

pub kept_is_upper : (m : Model) (k : KeptFront) → IsFrontOf m k → k.front.stage < k.horizon → (i c : ℕ)
    → kept_upper_weight k i c (product (class_counts k.front.agents))
    ≡ upper_weight (arithmetic k.is_exact m.scales) m k.front i c
unfolding upper_weight
kept_is_upper m k is early i c =
    let A = arithmetic k.is_exact m.scales in
    let N = product (class_counts k.front.agents) in
    let test = λ (C : ℕ). eqb (get_or (parts_of (class_counts k.front.agents) C) i 0) c in
    int_sum_ext N (λ C. cond (test C) (kept_upper k C) (pos 0))
    (λ C. cond (test C) (int_sum m.states (λ s. (class_weight_in A m k.front C s).high)) (pos 0))
    (λ C lt. ap (λ x. cond (test C) x (pos 0))
    (ap (λ (n : ℕ). int_sum n (λ s. (kept_weight k C s).high)) is.states
    ∙ int_sum_ext m.states (λ s. (kept_weight k C s).high) (λ s. (class_weight_in A m k.front C s).high)
    (λ s p. ap (λ w. w.high) (is.weights early C s lt p))))

-- ---- sums in 127 bits

pub sum_fits : (f : ℕ → ℤ) (n N : ℕ) (total x : ℤ) → n < N → nat_sum N (λ s. unsigned_abs (f s)) < 2 ^ 127
    → total ≡ int_sum n f → x ≡ f n → FitsSigned w128 (total +ℤ x)
sum_fits f n N total x lt small before is =
    let part = int_sum_part (suc n) N f lt in
    let less : unsigned_abs (int_sum (suc n) f) < 2 ^ 127 = omega arith in
    rw (before, is) (fits_signed_from_abs w128 (int_sum (suc n) f) less)

pub sum_next : (f : ℕ → ℤ) (n N : ℕ) (total x : ℤ) → n < N → nat_sum N (λ s. unsigned_abs (f s)) < 2 ^ 127
    → total ≡ int_sum n f → x ≡ f n → to_z w128 (of_z w128 (total +ℤ x)) ≡ int_sum (n + 1) f
sum_next f n N total x lt small before is =
    to_z-of_z w128 (total +ℤ x) (sum_fits f n N total x lt small before is)
    ∙ (λ j. before j +ℤ is j) ∙ ap (λ k. int_sum k f) (sym (add-one n))

-- ---- a front's weights, joint class after joint class

module _ (k : KeptFront) (i C count width : ℕ) (some : 0 < product (class_counts k.front.agents))
    (agent : i < length k.front.agents) (lt : C < product (class_counts k.front.agents))
    (small : nat_sum (product (class_counts k.front.agents)) (upper_size k) < 2 ^ 127)
    (count_is : count ≡ own_count k i) (width_is : width ≡ behind k i) where
  abbrev ns : List ℕ
  ns = class_counts k.front.agents

  inside : i < length ns
  inside = let n = as_many_counts k.front.agents in omega arith

  pub some_width : 0 < width
  some_width = rw width_is (product-drop_above ns (suc i) some)

  pub some_count : 0 < count
  some_count = rw count_is (size_above ns i some inside)

  class_is : C / width % count ≡ get_or (parts_of ns C) i 0
  class_is = (λ j. C / width_is j % count_is j) ∙ sym (part-is ns C i lt inside)

  class_in : get_or (parts_of ns C) i 0 < own_count k i
  class_in = below_at i ns (parts_of ns C) inside (parts_below ns C lt)

  pub class_below : C / width % count < own_count k i
  class_below = rw class_is class_in

  -- the upper ends of one joint class
  pub own_small : (ws : List Span) → length ws ≡ k.states
      → ((s : ℕ) → s < k.states → weights_of ws s ≡ kept_weight k C s)
      → nat_sum (length ws) (λ s. unsigned_abs (weights_of ws s).high) < 2 ^ 127
  own_small ws long are =
      let same : nat_sum (length ws) (λ s. unsigned_abs (weights_of ws s).high) ≡ upper_size k C =
      ap (λ n. nat_sum n (λ s. unsigned_abs (weights_of ws s).high)) long
      ∙ nat_sum_ext k.states _ _ (λ s p. ap (λ w. unsigned_abs w.high) (are s p)) in
      let one = nat_sum_at (product ns) (upper_size k) C lt in omega arith

  own_sum : (ws : List Span) → length ws ≡ k.states → ((s : ℕ) → s < k.states
      → weights_of ws s ≡ kept_weight k C s)
      → int_sum (length ws) (λ s. (weights_of ws s).high) ≡ kept_upper k C
  own_sum ws long are =
      ap (λ n. int_sum n (λ s. (weights_of ws s).high)) long
      ∙ int_sum_ext k.states _ _ (λ s p. ap (λ w. w.high) (are s p))

  module _ (ws : List ℤ) (vs : List Span) (old new : ℤ) (long : length ws ≡ own_count k i)
      (before : (c : ℕ) → c < own_count k i → get_or ws c (pos 0) ≡ kept_upper_weight k i c C)
      (one_each : length vs ≡ k.states) (are : (s : ℕ) → s < k.states → weights_of vs s ≡ kept_weight k C s)
      (old_is : old ≡ get_or ws (C / width % count) (pos 0))
      (new_is : new ≡ int_sum (length vs) (λ s. (weights_of vs s).high)) where
    abbrev c0 : ℕ
    c0 = get_or (parts_of ns C) i 0

    sum_is : old +ℤ new ≡ get_or ws c0 (pos 0) +ℤ kept_upper k C
    sum_is = λ j. (old_is ∙ ap (λ c. get_or ws c (pos 0)) class_is) j +ℤ (new_is ∙ own_sum vs one_each are) j

    picked : eqb c0 c0 ≡ true
    picked = grind (arith, nat_tests)

    sum_upper : old +ℤ new ≡ kept_upper_weight k i c0 (suc C)
    sum_upper =
        sum_is ∙ ap (λ x. x +ℤ kept_upper k C) (before c0 class_in)
        ∙ (λ j. kept_upper_weight k i c0 C +ℤ cond (sym picked j) (kept_upper k C) (pos 0))

    pub weight_fits : FitsSigned w128 (old +ℤ new)
    weight_fits =
        let part = part_small k i c0 (suc C) (product ns) lt in
        let less : unsigned_abs (kept_upper_weight k i c0 (suc C)) < 2 ^ 127 = omega arith in
        rw sum_upper (fits_signed_from_abs w128 (kept_upper_weight k i c0 (suc C)) less)

    pub weight_next : (c : ℕ) → c < own_count k i
        → get_or (set ws (C / width % count) (to_z w128 (of_z w128 (old +ℤ new)))) c (pos 0)
        ≡ kept_upper_weight k i c (C + 1)
    weight_next c p =
        class_next (kept_upper k) (λ D. get_or (parts_of ns D) i 0) C (own_count k i) ws _
        (to_z w128 (of_z w128 (old +ℤ new))) long class_in before
        (to_z-of_z w128 (old +ℤ new) weight_fits ∙ sum_is)
        (ap (λ c. set ws c (to_z w128 (of_z w128 (old +ℤ new)))) class_is) c p
        ∙ ap (kept_upper_weight k i c) (sym (add-one C))
