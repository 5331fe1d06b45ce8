-- The first place at which two classes differ, and that they are equivalent where there is none.
use Rattle.std.proofs.Common.{◌≡◌, ◌⊎◌, inl, inr, ℕ, zero, suc, ◌+◌, ◌*◌, ◌/◌, ◌%◌, ◌<◌, ◌≤◌, Bool, true, false, not}
use Rattle.std.proofs.Common.{cond, eqb, ◌≢◌, Option, Some, None, refl, sym, ap, ◌∙◌, subst, arith}
use Rattle.std.specs.Prelude.{◌↔◌, unwrap_or, is_none}
use Rattle.std.specs.List.{find, range_with_len}
use Rattle.std.proofs.lemmas.Bool.{cases_eq}
use Rattle.std.proofs.lemmas.Bool.Decides.{nat_tests}
use Rattle.std.proofs.lemmas.Nat.{div-mul-add, mod-mul-add, mod_below}
use Rattle.dp_spec.specs.Front.{Front, class_counts}
use Rattle.dp_spec.specs.JointNumbers.{product}
use Rattle.dp_spec.specs.Merge.{AreEquivalent, class_total, place_weight, without}
use Rattle.dp_spec.specs.Model.{Model}
use Rattle.dp_spec.specs.Pairs.{HasNoPair, IsLeastPair, IsPair}
use Rattle.dp_spec.specs.UnequalPlaces.{AgreeAt, IsFirstUnequal, first_unequal, place_count, weight_at}
use Rattle.dp_spec.proofs.JointNumberLaws.{part_below, positive_right, row_below}

-- ---- the first number of a range that passes a test

module _ (test : ℕ → Bool) where
  -- the first number from a on, of n numbers, that passes is p
  record IsFirstFrom (a n p : ℕ) : Type 0 where
    from : a ≤ p
    below : p < a + n
    passes : test p ≡ true
    before : (q : ℕ) → a ≤ q → q < p → test q ≡ false

  -- none of them does
  abbrev NonePasses : ℕ → ℕ → Type 0
  NonePasses a n = (q : ℕ) → a ≤ q → q < a + n → test q ≡ false

  -- what holds of the first number and of the later ones
  same_or_later : (a q : ℕ) → a ≤ q → test a ≡ false → (a + 1 ≤ q → test q ≡ false) → test q ≡ false
  same_or_later a q le here later =
      elim (cases_eq a q) [
        | inl e ↦ subst (λ x. test x ≡ false) e here
        | inr ne ↦ later (omega arith)
      ]

  later_first : (a n p : ℕ) → test a ≡ false → IsFirstFrom (a + 1) n p → IsFirstFrom a (suc n) p
  later_first a n p fails rest = record {
    from = let le = rest.from in omega arith;
    below = let lt = rest.below in omega arith;
    passes = rest.passes;
    before = λ q le lt. same_or_later a q le fails (λ later. rest.before q later lt);
  }

  first_by : (a n p : ℕ) (b : Bool) → test a ≡ b → (find test (range_with_len (a + 1) n) ≡ Some p
      → IsFirstFrom (a + 1) n p)
      → cond b (Some a) (find test (range_with_len (a + 1) n)) ≡ Some p → IsFirstFrom a (suc n) p
  first_by a n p true t rest e =
      let same : a ≡ p = ap (λ (o : Option ℕ). unwrap_or o a) e in
      subst (IsFirstFrom a (suc n)) same (record {
        from = omega arith;
        below = omega arith;
        passes = t;
        before = λ q le lt. absurd (omega arith);
      })
  first_by a n p false t rest e = later_first a n p t (rest e)

  found_is_first : (n a p : ℕ) → find test (range_with_len a n) ≡ Some p → IsFirstFrom a n p
  found_is_first zero a p e = absurd (let no : true ≡ false = ap is_none e in cc)
  found_is_first (suc n) a p e = first_by a n p (test a) refl (found_is_first n (a + 1) p) e

  none_by : (a n : ℕ) (b : Bool) → test a ≡ b → (find test (range_with_len (a + 1) n) ≡ None
      → NonePasses (a + 1) n)
      → cond b (Some a) (find test (range_with_len (a + 1) n)) ≡ None → NonePasses a (suc n)
  none_by a n true t rest e = absurd (let no : false ≡ true = ap is_none e in cc)
  none_by a n false t rest e = λ q le lt. same_or_later a q le t (λ later. rest e q later (omega arith))

  none_found : (n a : ℕ) → find test (range_with_len a n) ≡ None → NonePasses a n
  none_found zero a e = λ q le lt. absurd (omega arith)
  none_found (suc n) a e = none_by a n (test a) refl (none_found n (a + 1)) e

  rest_first : (a n p : ℕ) → a ≢ p → IsFirstFrom a (suc n) p → IsFirstFrom (a + 1) n p
  rest_first a n p ne first = record {
    from = let le = first.from in omega arith;
    below = let lt = first.below in omega arith;
    passes = first.passes;
    before = λ q le lt. first.before q (omega arith) lt;
  }

  found_by : (a n p : ℕ) (b : Bool) → test a ≡ b → IsFirstFrom a (suc n) p
      → (IsFirstFrom (a + 1) n p → find test (range_with_len (a + 1) n) ≡ Some p)
      → cond b (Some a) (find test (range_with_len (a + 1) n)) ≡ Some p
  found_by a n p true t first rest =
      elim (cases_eq a p) [
        | inl e ↦ ap Some e
        | inr ne ↦ absurd (let no : test a ≡ false = first.before a (omega arith)
            (let le = first.from in omega arith) in let both : true ≡ false = sym t ∙ no in cc)
      ]
  found_by a n p false t first rest =
      elim (cases_eq a p) [
        | inl e ↦ absurd (let both : true ≡ false = sym first.passes ∙ subst (λ x. test x ≡ false) e t in cc)
        | inr ne ↦ rest (rest_first a n p ne first)
      ]

  first_is_found : (n a p : ℕ) → IsFirstFrom a n p → find test (range_with_len a n) ≡ Some p
  first_is_found zero a p first = absurd (let le = first.from in let lt = first.below in omega arith)
  first_is_found (suc n) a p first = found_by a n p (test a) refl first (first_is_found n (a + 1) p)

  none_is_found : (n a : ℕ) → NonePasses a n → find test (range_with_len a n) ≡ None
  none_is_found zero a none = refl
  none_is_found (suc n) a none =
      let here : cond (test a) (Some a) (find test (range_with_len (a + 1) n))
      ≡ find test (range_with_len (a + 1) n) =
      ap (λ (b : Bool). cond b (Some a) (find test (range_with_len (a + 1) n)))
      (none a (omega arith) (omega arith)) in
      here ∙ none_is_found n (a + 1) (λ q le lt. none q (omega arith) (omega arith))

-- ---- places

agreeing : (x y : ℕ) → not (eqb x y) ≡ false → x ≡ y
agreeing x y e = grind (arith, nat_tests)

not_agreeing : (x y : ℕ) → not (eqb x y) ≡ true → x ≡ y → ⊥
not_agreeing x y e same = grind (arith, nat_tests)

passes_where_apart : (x y : ℕ) → (x ≡ y → ⊥) → not (eqb x y) ≡ true
passes_where_apart x y apart = grind (arith, nat_tests)

fails_where_equal : (x y : ℕ) → x ≡ y → not (eqb x y) ≡ false
fails_where_equal x y same = grind (arith, nat_tests)

module _ (m : Model) (F : Front) (i c c' : ℕ) where
  left_at : ℕ → ℕ
  left_at p = weight_at m F i c p * class_total m F i c'

  right_at : ℕ → ℕ
  right_at p = weight_at m F i c' p * class_total m F i c

  pub first_unequal_is : (p : ℕ) → (first_unequal m F i c c' ≡ Some p) ↔ IsFirstUnequal m F i c c' p
  unfolding first_unequal left_at right_at
  first_unequal_is p = (
    λ e.
        let first = found_is_first (λ q. not (eqb (left_at q) (right_at q))) (place_count m F i) 0 p e in
        record {
          there = let lt = first.below in omega arith;
          unequal = not_agreeing (left_at p) (right_at p) first.passes;
          before = λ q lt. agreeing (left_at q) (right_at q) (first.before q (omega arith) lt);
        },
    λ is. first_is_found (λ q. not (eqb (left_at q) (right_at q))) (place_count m F i) 0 p (record {
      from = omega arith;
      below = let lt = is.there in omega arith;
      passes = passes_where_apart (left_at p) (right_at p) is.unequal;
      before = λ q le lt. fails_where_equal (left_at q) (right_at q) (is.before q lt);
    }),
  )

  -- classes that agree at each place by its number are equivalent, and the other way round
  pub agreement_is : ((p : ℕ) → p < place_count m F i → AgreeAt m F i c c' p) ↔ AreEquivalent m F i c c'
  unfolding place_count
  agreement_is = (
    λ agree. record {
      same = λ x s x_in s_in.
          let row : (x * m.states + s) / m.states ≡ x = div-mul-add x m.states s s_in in
          let rest : (x * m.states + s) % m.states ≡ s = mod-mul-add x m.states s s_in in
          let here = agree (x * m.states + s) (row_below x (product (without i (class_counts F.agents)))
          m.states s x_in s_in) in
          subst (λ y. place_weight m F i c y s * class_total m F i c'
          ≡ place_weight m F i c' y s * class_total m F i c) row
          (subst (λ t. place_weight m F i c ((x * m.states + s) / m.states) t * class_total m F i c'
          ≡ place_weight m F i c' ((x * m.states + s) / m.states) t * class_total m F i c) rest here);
    },
    λ equivalent p p_in. equivalent.same (p / m.states) (p % m.states)
        (part_below (product (without i (class_counts F.agents))) m.states p p_in)
        (mod_below p m.states (positive_right (product (without i (class_counts F.agents))) m.states p p_in)),
  )

  pub none_unequal_is : (first_unequal m F i c c' ≡ None) ↔ AreEquivalent m F i c c'
  unfolding first_unequal left_at right_at
  none_unequal_is = (
    λ e. agreement_is.0 (λ p p_in. agreeing (left_at p) (right_at p)
        (none_found (λ q. not (eqb (left_at q) (right_at q))) (place_count m F i) 0 e p (omega arith)
        (omega arith))),
    λ equivalent. none_is_found (λ q. not (eqb (left_at q) (right_at q))) (place_count m F i) 0
        (λ p le lt. fails_where_equal (left_at p) (right_at p) (agreement_is.1 equivalent p (omega arith))),
  )

-- ---- pairs

-- two least pairs are the same
pub least_pair_unique : (m : Model) (F : Front) (i c c' d d' : ℕ) → IsLeastPair m F i c c'
    → IsLeastPair m F i d d'
    → (c ≡ d) × (c' ≡ d')
least_pair_unique m F i c c' d d' one other = both (one.least d d' other.pair) (other.least c c' one.pair)
  where
    both : (c < d) ⊎ ((c ≡ d) × (c' ≤ d')) → (d < c) ⊎ ((d ≡ c) × (d' ≤ c')) → (c ≡ d) × (c' ≡ d')
    both (inl less) (inl more) = absurd (omega arith)
    both (inl less) (inr same) = absurd (omega (arith, same.0))
    both (inr same) (inl more) = absurd (omega (arith, same.0))
    both (inr same) (inr also) = (same.0, omega (arith, same.1, also.1))

-- an agent has no pair where no two of its classes are one
pub no_pair_is : (m : Model) (F : Front) (i : ℕ) → HasNoPair m F i ↔ ((c c' : ℕ) → ¬ IsPair m F i c c')
no_pair_is m F i = (
  λ none c c' pair. none c c' pair.order pair.first pair.second pair.equivalent,
  λ none c c' order first second equivalent. none c c' (record
      { order = order; first = first; second = second; equivalent = equivalent }),
)
