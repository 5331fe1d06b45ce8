-- Pairs of numbers, numbered by their first places.
use Rattle.std.proofs.Common.{◌≡◌, ◌≢◌, ◌⊎◌, ℕ, zero, suc, ◌^◌, ◌<◌, ◌≤◌, List, [], ◌∷◌, ◌++◌, Option, Some, None}
use Rattle.std.proofs.Common.{inl, inr, length, get_or, refl, sym, ap, ◌∙◌, subst, arith}
use Rattle.std.proofs.lemmas.Bool.{cases_lt, cases_eq}
use Rattle.dp_spec.proofs.JointNumberLaws.{same_parts}
use Rattle.dp_policy.specs.Kinds.{ArePairNumbers, number_of_pair}

-- the numbers of the places so far, and a map from keys to numbers
pub record AreNumbered (key : ℕ → ℕ) (place : ℕ) (known : ℕ → Option ℕ) (numbers : List ℕ) : Type 0 where
  pub counted : length numbers ≡ place
  pub most : (i : ℕ) → i < place → get_or numbers i 0 ≤ i
  pub has : (i : ℕ) → i < place → known (key i) ≡ Some (get_or numbers i 0)
  pub origin : (q z : ℕ) → known q ≡ Some z → (z < place) × (key z ≡ q)

pub last_of : (xs : List ℕ) (x n : ℕ) → length xs ≡ n → get_or (xs ++ x ∷ []) n 0 ≡ x
last_of [] x zero e = refl
last_of [] x (suc n) e = absurd (omega arith)
last_of (y ∷ xs) x zero e = absurd (omega arith)
last_of (y ∷ xs) x (suc n) e = last_of xs x n (omega arith)

pub early_of : (xs : List ℕ) (x i : ℕ) → i < length xs → get_or (xs ++ x ∷ []) i 0 ≡ get_or xs i 0
early_of [] x i lt = absurd (omega arith)
early_of (y ∷ xs) x zero lt = refl
early_of (y ∷ xs) x (suc i) lt = early_of xs x i (omega arith)

pub one_longer : (xs : List ℕ) (x : ℕ) → length (xs ++ x ∷ []) ≡ suc (length xs)
one_longer [] x = refl
one_longer (y ∷ xs) x = ap suc (one_longer xs x)

pub some_is : {a b : ℕ} → Some a ≡ Some b → a ≡ b
some_is e = cc

pub none_is : {a : ℕ} {A : Type 0} → None ≡ Some a → A
none_is e = absurd (cc)

module _ (key : ℕ → ℕ) (k : ℕ) (known next : ℕ → Option ℕ) (numbers : List ℕ) (z : ℕ)
    (so_far : AreNumbered key k known numbers) (old : (known (key k) ≡ Some z) ⊎
    ((known (key k) ≡ None) × (z ≡ k))) (has : next (key k) ≡ Some z)
    (others : (q : ℕ) → q ≢ key k → next q ≡ known q) where
  -- where it comes from
  from : (z < suc k) × (key z ≡ key k)
  from = elim old [
    | inl found ↦ let o = so_far.origin (key k) z found in (omega arith, o.1)
    | inr new ↦ (omega arith, ap key new.1)
  ]

  -- one place more
  pub numbered_step : AreNumbered key (suc k) next (numbers ++ z ∷ [])
  numbered_step = record {
    counted = one_longer numbers z ∙ ap suc so_far.counted;
    most = λ i lt. elim (cases_lt i k) [
      | inl early ↦ let e = so_far.counted in rw (early_of numbers z i (omega arith)) (so_far.most i early)
      | inr late ↦
          let here : k ≡ i = omega arith in
          let first = from.0 in
          subst (λ (j : ℕ). get_or (numbers ++ z ∷ []) j 0 ≤ j) here
          (rw (last_of numbers z k so_far.counted) (omega arith))
    ];
    has = λ i lt. elim (cases_lt i k) [
      | inl early ↦
          let e = so_far.counted in
          let was = so_far.has i early in
          rw (early_of numbers z i (omega arith)) (elim (cases_eq (key i) (key k)) [
            | inl same ↦ ap next same ∙ has ∙ sym (number_is i early same)
            | inr apart ↦ others (key i) apart ∙ was
          ])
      | inr late ↦
          let here : k ≡ i = omega arith in
          subst (λ (j : ℕ). next (key j) ≡ Some (get_or (numbers ++ z ∷ []) j 0)) here
          (has ∙ ap (λ (x : ℕ). Some x) (sym (last_of numbers z k so_far.counted)))
    ];
    origin = λ q w is. elim (cases_eq q (key k)) [
      | inl same ↦
          let e : z ≡ w = some_is (sym has ∙ ap next (sym same) ∙ is) in
          subst (λ (x : ℕ). (x < suc k) × (key x ≡ q)) e (from.0, from.1 ∙ sym same)
      | inr apart ↦ let o = so_far.origin q w (sym (others q apart) ∙ is) in (omega arith, o.1)
    ];
  }
    where
      number_is : (i : ℕ) → i < k → key i ≡ key k → Some (get_or numbers i 0) ≡ Some z
      number_is i early same =
          let was : known (key k) ≡ Some (get_or numbers i 0) = ap known (sym same) ∙ so_far.has i early in
          elim old [
            | inl found ↦ sym was ∙ found
            | inr new ↦ none_is (sym new.0 ∙ was)
          ]

pub numbered_none : (key : ℕ → ℕ) (known : ℕ → Option ℕ) → ((q : ℕ) → known q ≡ None)
    → AreNumbered key 0 known []
numbered_none key known none = record {
  counted = refl;
  most = λ i lt. absurd (omega arith);
  has = λ i lt. absurd (omega arith);
  origin = λ q z is. none_is (sym (none q) ∙ is);
}

-- with all places numbered
pub numbered_all : (xs ys : List ℕ) (n : ℕ) (known : ℕ → Option ℕ) (numbers : List ℕ)
    → AreNumbered (λ i. number_of_pair (get_or xs i 0) (get_or ys i 0)) n known numbers → n ≡ length xs
    → ((i : ℕ) → get_or ys i 0 < 2 ^ 32)
    → ArePairNumbers xs ys numbers
numbered_all xs ys n known numbers all e small = record {
  counted = all.counted ∙ e;
  most = λ i lt. all.most i (omega arith);
  same = λ i j li lj. (
    λ same.
        let mine = (all.origin _ _ (all.has i (omega arith))).1 in
        let yours = (all.origin _ _ (all.has j (omega arith))).1 in
        let keys : number_of_pair (get_or xs i 0) (get_or ys i 0)
        ≡ number_of_pair (get_or xs j 0) (get_or ys j 0) =
        sym mine ∙ ap (λ (z : ℕ). number_of_pair (get_or xs z 0) (get_or ys z 0)) same ∙ yours in
        same_parts (2 ^ 32) (get_or xs i 0) (get_or ys i 0) (get_or xs j 0) (get_or ys j 0) (small i)
        (small j) keys,
    λ both.
        some_is (sym (all.has i (omega arith)) ∙ ap known (λ k. number_of_pair (both.0 k) (both.1 k))
        ∙ all.has j (omega arith)),
  );
}
