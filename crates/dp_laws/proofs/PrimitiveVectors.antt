-- Two classes with totals above 0 are equivalent exactly where their primitive vectors are equal.
use Rattle.std.proofs.Common.{◌≡◌, ℕ, zero, suc, ◌+◌, ◌*◌, ◌/◌, ◌%◌, ◌<◌, ◌≤◌, List, [], ◌∷◌, map, length, get_or}
use Rattle.std.proofs.Common.{refl, sym, ap, ◌∙◌, subst, arith}
use Rattle.std.specs.Prelude.{◌↔◌, All}
use Rattle.std.specs.Int.{◌∣◌}
use Rattle.std.specs.List.{range_with_len}
use Rattle.std.proofs.lemmas.List.Elements.{All-cons, All-from_get_or, All-get_or, All-head, All-map, All-nil}
use Rattle.std.proofs.lemmas.List.Elements.{All-tail, All-weaker}
use Rattle.std.proofs.lemmas.List.FromFn.{get_or-map-range_with_len, length-map-range_with_len}
use Rattle.std.proofs.lemmas.Nat.Gcd.{dvd-zero, dvd_antisymm, dvd_trans}
use Rattle.std.proofs.Math.Nat.{div-mul_cancel, dvd-mul_right, mul-div_cancel', mul-pos, dvd_of_mul-dvd-mul_left}
use Rattle.std.proofs.Math.Nat.{eq_of_mul-eq-mul_right, mul-dvd-mul_left}
use Rattle.dp_base.proofs.DivisorLaws.{gcd_of-IsGcd}
use Rattle.dp_base.specs.Divisors.{gcd_of}
use Rattle.dp_base.specs.Sums.{nat_sum}
use Rattle.dp_base.proofs.NaturalSumLaws.{nat_sum_ext, nat_sum_times}
use Rattle.std.proofs.lemmas.List.{length-map}
use Rattle.std.proofs.lemmas.Nat.{div-mul-add, mod-mul-add}
use Rattle.std.proofs.Math.Nat.{mul-zero}
use Rattle.dp_spec.specs.Front.{AgentFront, Front, class_counts}
use Rattle.dp_spec.specs.JointNumbers.{product}
use Rattle.dp_spec.specs.Merge.{AreEquivalent, class_total, place_weight, without}
use Rattle.dp_spec.specs.Model.{Model}
use Rattle.dp_spec.specs.UnequalPlaces.{class_vector, place_count, place_number, weight_at}
use Rattle.dp_spec.specs.WellFormed.{IsFront}
use Rattle.dp_spec.proofs.JointNumberLaws.{row_below}
use Rattle.dp_laws.proofs.PlaceWeights.{places_total}
use Rattle.dp_laws.proofs.UnequalPlaces.{agreement_is}
use Rattle.dp_spec.specs.Primitive.{IsGcdOf, IsPrimitiveOf}

-- ---- greatest common divisors of lists

-- there is one
list_gcd : List ℕ → ℕ
list_gcd [] = 0
list_gcd (x ∷ xs) = gcd_of x (list_gcd xs)

list_gcd_is : (xs : List ℕ) → IsGcdOf xs (list_gcd xs)
unfolding list_gcd
list_gcd_is [] = record { divides = All-nil (λ x. 0 ∣ x); greatest = λ d all. dvd-zero d }
list_gcd_is (x ∷ xs) =
    let rest = list_gcd_is xs in
    let both = gcd_of-IsGcd x (list_gcd xs) in
    let g = gcd_of x (list_gcd xs) in
    record {
      divides = All-cons (λ y. g ∣ y) x xs both.0 (All-weaker (λ y. list_gcd xs ∣ y) (λ y. g ∣ y)
          (λ y divides. dvd_trans g both.1 divides) xs rest.divides);
      greatest = λ d all. both.2 d (All-head (λ y. d ∣ y) x xs all)
          (rest.greatest d (All-tail (λ y. d ∣ y) x xs all));
    }

-- and only one
same_gcd : (xs : List ℕ) (g k : ℕ) → IsGcdOf xs g → IsGcdOf xs k → g ≡ k
same_gcd xs g k one other = dvd_antisymm (other.greatest g one.divides) (one.greatest k other.divides)

pub primitive_unique : (xs us vs : List ℕ) → IsPrimitiveOf xs us → IsPrimitiveOf xs vs → us ≡ vs
primitive_unique xs us vs one other =
    one.2 ∙ ap (λ g. map (λ x. x / g) xs) (same_gcd xs one.0 other.0 one.1 other.1) ∙ sym other.2

-- what holds of each mapped number holds of the number, mapped
of_mapped : (P : ℕ → Type 0) (f : ℕ → ℕ) (xs : List ℕ) → All P (map f xs) → All (λ x. P (f x)) xs
of_mapped P f [] all = All-nil (λ x. P (f x))
of_mapped P f (x ∷ xs) all =
    All-cons (λ y. P (f y)) x xs (All-head P (f x) (map f xs) all)
    (of_mapped P f xs (All-tail P (f x) (map f xs) all))

-- what divides each number times T divides the greatest common divisor times T
scaled_divisor : (xs : List ℕ) (g T d : ℕ) → 0 < T → IsGcdOf xs g → All (λ x. d ∣ T * x) xs → d ∣ T * g
scaled_divisor xs g T d some is divides =
    let scaled = map (λ x. T * x) xs in
    let e = list_gcd scaled in
    let gcd = list_gcd_is scaled in
    let of_d : d ∣ e = gcd.greatest d (All-map (λ y. d ∣ y) (λ x. T * x) xs divides) in
    let of_T : T ∣ e = gcd.greatest T (All-map (λ y. T ∣ y) (λ x. T * x) xs
    (λ k z lt. dvd-mul_right T (get_or xs k z))) in
    let parts : T * (e / T) ≡ e = mul-div_cancel' T of_T in
    let each : All (λ x. e / T ∣ x) xs =
    All-weaker (λ x. e ∣ T * x) (λ x. e / T ∣ x) (λ x divided. dvd_of_mul-dvd-mul_left (e / T) some
    (subst (λ y. y ∣ T * x) (sym parts) divided)) xs
    (of_mapped (λ y. e ∣ y) (λ x. T * x) xs gcd.divides) in
    dvd_trans d of_d (subst (λ y. y ∣ T * g) parts (mul-dvd-mul_left (e / T) T (is.greatest (e / T) each)))

-- ---- two vectors of so many places

-- in a list of f p for each place p what holds of each number holds of each f p, and the other way round
at_places : (P : ℕ → Type 0) (f : ℕ → ℕ) (n : ℕ) → All P (map f (range_with_len 0 n)) → (p : ℕ) → p < n
    → P (f p)
at_places P f n all p lt =
    subst P (get_or-map-range_with_len f 0 n p p 0 lt (omega arith))
    (All-get_or P (map f (range_with_len 0 n)) p 0 (let size = length-map-range_with_len f 0 n in
    omega arith) all)

from_places : (P : ℕ → Type 0) (f : ℕ → ℕ) (n : ℕ) → ((p : ℕ) → p < n → P (f p))
    → All P (map f (range_with_len 0 n))
from_places P f n each =
    All-from_get_or P (map f (range_with_len 0 n)) 0
    (λ p lt. let below : p < n = let size = length-map-range_with_len f 0 n in omega arith in
    subst P (sym (get_or-map-range_with_len f 0 n p p 0 below (omega arith))) (each p below))

mapped_twice : (f h : ℕ → ℕ) (xs : List ℕ) → map h (map f xs) ≡ map (λ p. h (f p)) xs
mapped_twice f h [] = refl
mapped_twice f h (x ∷ xs) = ap (λ (ys : List ℕ). h (f x) ∷ ys) (mapped_twice f h xs)

mapped_alike : (f h : ℕ → ℕ) (a n : ℕ) → ((p : ℕ) → a ≤ p → p < a + n → f p ≡ h p)
    → map f (range_with_len a n) ≡ map h (range_with_len a n)
mapped_alike f h a zero alike = refl
mapped_alike f h a (suc n) alike =
    let here : f a ≡ h a = alike a (omega arith) (omega arith) in
    let rest = mapped_alike f h (a + 1) n (λ p le lt. alike p (omega arith) (omega arith)) in cc

-- the factors of three products, with numbers above 0
cross : (u u' g g' T T' : ℕ) → 0 < g → 0 < T' → u * g * T' ≡ u' * g' * T → T' * g ≡ T * g' → u ≡ u'
cross u u' g g' T T' some_g some_T e same =
    let left : u * (T' * g) ≡ u * g * T' = grind arith in
    let right : u' * (T * g') ≡ u' * g' * T = grind arith in
    let all : u * (T' * g) ≡ u' * (T' * g) = left ∙ e ∙ sym right ∙ ap (λ x. u' * x) (sym same) in
    eq_of_mul-eq-mul_right (T' * g) (mul-pos some_T some_g) u u' all

module _ (n : ℕ) (v v' : ℕ → ℕ) (T T' g g' : ℕ) (gcd : IsGcdOf (map v (range_with_len 0 n)) g)
    (gcd' : IsGcdOf (map v' (range_with_len 0 n)) g') (some_T : 0 < T) (some_T' : 0 < T') where
  divided : (p : ℕ) → p < n → v p / g * g ≡ v p
  divided p lt = div-mul_cancel g (at_places (λ x. g ∣ x) v n gcd.divides p lt)

  divided' : (p : ℕ) → p < n → v' p / g' * g' ≡ v' p
  divided' p lt = div-mul_cancel g' (at_places (λ x. g' ∣ x) v' n gcd'.divides p lt)

  -- where the vectors are in the proportion of the totals, so are the divisors
  divisors_in_proportion : ((p : ℕ) → p < n → v p * T' ≡ v' p * T) → T' * g ≡ T * g'
  divisors_in_proportion equivalent =
      dvd_antisymm (scaled_divisor (map v' (range_with_len 0 n)) g' T (T' * g) some_T gcd'
      (from_places (λ x. T' * g ∣ T * x) v' n forth))
      (scaled_divisor (map v (range_with_len 0 n)) g T' (T * g') some_T' gcd
      (from_places (λ x. T * g' ∣ T' * x) v n back))
    where
      forth : (p : ℕ) → p < n → T' * g ∣ T * v' p
      forth p lt =
          let e : T' * v p ≡ T * v' p = let here = equivalent p lt in grind arith in
          subst (λ y. T' * g ∣ y) e (mul-dvd-mul_left g T' (at_places (λ x. g ∣ x) v n gcd.divides p lt))

      back : (p : ℕ) → p < n → T * g' ∣ T' * v p
      back p lt =
          let e : T * v' p ≡ T' * v p = let here = equivalent p lt in grind arith in
          subst (λ y. T * g' ∣ y) e (mul-dvd-mul_left g' T (at_places (λ x. g' ∣ x) v' n gcd'.divides p lt))

  -- then their quotients are equal
  equal_quotients : 0 < g → ((p : ℕ) → p < n → v p * T' ≡ v' p * T) → (p : ℕ) → p < n → v p / g ≡ v' p / g'
  equal_quotients some_g equivalent p lt =
      cross (v p / g) (v' p / g') g g' T T' some_g some_T'
      (ap (λ x. x * T') (divided p lt) ∙ equivalent p lt ∙ ap (λ x. x * T) (sym (divided' p lt)))
      (divisors_in_proportion equivalent)

  -- and the other way round, where the totals are those of the quotients
  in_proportion : (U : ℕ) → T ≡ U * g → T' ≡ U * g' → ((p : ℕ) → p < n → v p / g ≡ v' p / g') → (p : ℕ) → p < n
      → v p * T' ≡ v' p * T
  in_proportion U total total' equal p lt =
      ap (λ x. x * T') (sym (divided p lt)) ∙ products (v p / g) (v' p / g') (equal p lt)
      ∙ ap (λ x. x * T) (divided' p lt)
    where
      products : (u u' : ℕ) → u ≡ u' → u * g * T' ≡ u' * g' * T
      products u u' e = rw (total, total', e) (grind arith)

-- ---- classes

-- what a sum of sums over rows and places in them has as a common factor
factored : (n k : ℕ) (u : ℕ → ℕ → ℕ) (g : ℕ) → nat_sum n (λ i. nat_sum k (λ j. u i j * g))
    ≡ nat_sum n (λ i. nat_sum k (λ j. u i j)) * g
factored n k u g =
    nat_sum_ext n (λ i. nat_sum k (λ j. u i j * g)) (λ i. nat_sum k (λ j. u i j) * g)
    (λ i lt. nat_sum_times k (u i) g)
    ∙ nat_sum_times n (λ i. nat_sum k (λ j. u i j)) g

-- there is a count for each agent
counted : {i : ℕ} (ds : List AgentFront) → i < length ds → i < length (class_counts ds)
counted ds lt = let size = length-map ds (λ (d : AgentFront). length d.chosen) in omega arith

module _ (m : Model) (h : ℕ) (F : Front) (front : IsFront m h F) (i : ℕ) (i_in : i < length F.agents) where
  -- how many joint classes the other agents have
  abbrev others : ℕ
  others = product (without i (class_counts F.agents))

  there : i < length (class_counts F.agents)
  there = counted F.agents i_in

  -- what the divisor leaves of the weight of class c at each place
  abbrev quotient_at : ℕ → ℕ → ℕ → ℕ → ℕ
  quotient_at c g x s = weight_at m F i c (place_number m x s) / g

  -- these add up to the total over the divisor
  abbrev quotient_total : ℕ → ℕ → ℕ
  quotient_total c g = nat_sum others (λ x. nat_sum m.states (λ s. quotient_at c g x s))

  module _ (c g : ℕ) (gcd : IsGcdOf (class_vector m F i c) g) where
    place_divided : (x s : ℕ) → x < others → s < m.states → quotient_at c g x s * g ≡ place_weight m F i c x s
    unfolding class_vector place_count
    place_divided x s x_in s_in =
        let row : place_number m x s / m.states ≡ x = div-mul-add x m.states s s_in in
        let rest : place_number m x s % m.states ≡ s = mod-mul-add x m.states s s_in in
        let here = div-mul_cancel g (at_places (λ y. g ∣ y) (weight_at m F i c) (others * m.states) gcd.divides
        (place_number m x s) (row_below x others m.states s x_in s_in)) in
        here ∙ ap (λ y. place_weight m F i c y (place_number m x s % m.states)) row
        ∙ ap (place_weight m F i c x) rest

    total_divided : class_total m F i c ≡ quotient_total c g * g
    total_divided =
        sym (places_total m h F front i c there)
        ∙ nat_sum_ext others (λ x. nat_sum m.states (λ s. place_weight m F i c x s))
        (λ x. nat_sum m.states (λ s. quotient_at c g x s * g))
        (λ x x_in. nat_sum_ext m.states (λ s. place_weight m F i c x s) (λ s. quotient_at c g x s * g)
        (λ s s_in. sym (place_divided x s x_in s_in)))
        ∙ factored others m.states (quotient_at c g) g

  module _ (c c' g g' : ℕ) (gcd : IsGcdOf (class_vector m F i c) g) (gcd' : IsGcdOf (class_vector m F i c') g')
      (some : 0 < class_total m F i c) (some' : 0 < class_total m F i c') where
    abbrev places : ℕ
    places = place_count m F i

    -- the numbers of a vector's quotients by place
    abbrev quotients : ℕ → ℕ → List ℕ
    quotients k d = map (λ x. x / d) (class_vector m F i k)

    some_divisor : 0 < g
    some_divisor = above_zero g (total_divided c g gcd)
      where
        above_zero : (d : ℕ) → class_total m F i c ≡ quotient_total c g * d → 0 < d
        above_zero zero e = absurd (let none : class_total m F i c ≡ 0 = e ∙ mul-zero (quotient_total c g) in
            omega arith)
        above_zero (suc d) e = omega arith

    by_place : (k d : ℕ) → quotients k d ≡ map (λ p. weight_at m F i k p / d) (range_with_len 0 places)
    unfolding class_vector
    by_place k d = mapped_twice (weight_at m F i k) (λ x. x / d) (range_with_len 0 places)

    totals_alike : ((p : ℕ) → p < places → weight_at m F i c p / g ≡ weight_at m F i c' p / g')
        → quotient_total c' g' ≡ quotient_total c g
    unfolding place_count
    totals_alike each =
        nat_sum_ext others (λ x. nat_sum m.states (λ s. quotient_at c' g' x s))
        (λ x. nat_sum m.states (λ s. quotient_at c g x s))
        (λ x x_in. nat_sum_ext m.states (λ s. quotient_at c' g' x s) (λ s. quotient_at c g x s)
        (λ s s_in. sym (each (place_number m x s) (row_below x others m.states s x_in s_in))))

    equal_where_equivalent : AreEquivalent m F i c c' → quotients c g ≡ quotients c' g'
    unfolding class_vector
    equal_where_equivalent equivalent =
        let agree = (agreement_is m F i c c').1 equivalent in
        let each = equal_quotients places (weight_at m F i c) (weight_at m F i c') (class_total m F i c)
        (class_total m F i c') g g' gcd gcd' some some' some_divisor agree in
        by_place c g
        ∙ mapped_alike (λ p. weight_at m F i c p / g) (λ p. weight_at m F i c' p / g') 0 places
        (λ p le lt. each p (omega arith))
        ∙ sym (by_place c' g')

    equivalent_where_equal : quotients c g ≡ quotients c' g' → AreEquivalent m F i c c'
    unfolding class_vector
    equivalent_where_equal equal =
        let same : map (λ p. weight_at m F i c p / g) (range_with_len 0 places)
        ≡ map (λ p. weight_at m F i c' p / g') (range_with_len 0 places) =
        sym (by_place c g) ∙ equal ∙ by_place c' g' in
        let each = λ (p : ℕ) (lt : p < places).
        sym (get_or-map-range_with_len (λ p. weight_at m F i c p / g) 0 places p p 0 lt (omega arith))
        ∙ ap (λ (xs : List ℕ). get_or xs p 0) same ∙ get_or-map-range_with_len (λ p. weight_at m F i c' p / g')
        0 places p p 0 lt (omega arith) in
        let totals : quotient_total c' g' ≡ quotient_total c g = totals_alike each in
        (agreement_is m F i c c').0
        (in_proportion places (weight_at m F i c) (weight_at m F i c') (class_total m F i c)
        (class_total m F i c')
        g g' gcd gcd' some some' (quotient_total c g) (total_divided c g gcd)
        (total_divided c' g' gcd' ∙ ap (λ U. U * g') totals) each)

-- two classes with weight are equivalent exactly where their primitive vectors are equal
pub primitive_vectors_tell : (m : Model) (h : ℕ) (F : Front) (i c c' : ℕ) (us us' : List ℕ) → IsFront m h F
    → i < length F.agents
    → IsPrimitiveOf (class_vector m F i c) us → IsPrimitiveOf (class_vector m F i c') us'
    → 0 < class_total m F i c
    → 0 < class_total m F i c' → AreEquivalent m F i c c' ↔ (us ≡ us')
primitive_vectors_tell m h F i c c' us us' front i_in one other some some' = (
  λ equivalent. one.2 ∙ equal_where_equivalent m h F front i i_in c c' one.0 other.0 one.1 other.1 some some'
      equivalent ∙ sym other.2,
  λ equal. equivalent_where_equal m h F front i i_in c c' one.0 other.0 one.1 other.1 some some'
      (sym one.2 ∙ equal ∙ other.2),
)
