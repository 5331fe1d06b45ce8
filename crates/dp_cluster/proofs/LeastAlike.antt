-- The least two places with items that are alike, as they are found from the last place down.
use Rattle.std.proofs.Common.{inl, inr, ◌≡◌, ◌⊎◌, ℕ, suc, ◌<◌, ◌≤◌, ◌++◌, List, [], ◌∷◌, Bool, true, false}
use Rattle.std.proofs.Common.{Option}
use Rattle.std.proofs.Common.{Some, None, length, ℤ, refl, sym, ap, ◌∙◌, subst, arith}
use Rattle.std.specs.Prelude.{◌↔◌, Vec, cond, nat_le}
use Rattle.std.specs.BTreeMap.{get}
use Rattle.std.specs.Cmp.Lexicographic.{lists_ties}
use Rattle.std.specs.Cmp.Rules.{signed_items}
use Rattle.std.specs.Ordering.{int_cmp, is_eq}
use Rattle.std.specs.declared.alloc.Global.{Global}
use Rattle.std.proofs.lemmas.Bool.{cases_lt, le-leb, leb-true}
use Rattle.dp_cluster.specs.EqualClasses.{AlikeAt, AreAlike, HasWeights, IsFirstFrom, IsFoundFrom}
use Rattle.dp_cluster.specs.EqualClasses.{IsFree, IsLaterOf, IsLeastFrom, IsWeightless, earlier, vector_at}
use Rattle.dp_cluster.specs.EqualClasses.{vector_cmp}
use Rattle.dp_cluster.specs.declared.equal.Later.{Later}
use Rattle.dp_cluster.specs.declared.equal.OwnVector.{OwnVector}
use Rattle.dp_cluster.specs.declared.equal.OwnVector.TheVariants.{Assigned, Weightless, Weighted}

-- ---- the first place of which something holds

-- a place from c on is c, or later
from_place : (c d : ℕ) → c ≤ d → (c ≡ d) ⊎ (suc c ≤ d)
from_place c d le =
    elim (cases_lt c d) [
      | inl less ↦ inr (omega arith)
      | inr more ↦ inl (omega arith)
    ]

module _ (P : ℕ → Type 0) (c n : ℕ) where
  pub first_here : c < n → P c → IsFirstFrom P c n (Some c)
  first_here lt p = record { from = omega arith; range = lt; holds = p; first = λ d le below there. le }

  not_here : ¬ P c → (d : ℕ) → c ≤ d → P d → suc c ≤ d
  not_here away d le there =
      elim (from_place c d le) [
        | inl same ↦ absurd (away (subst P (sym same) there))
        | inr later ↦ later
      ]

  pub first_later : ¬ P c → (o : Option ℕ) → IsFirstFrom P (suc c) n o → IsFirstFrom P c n o
  first_later away None none = λ d le lt there. none d (not_here away d le there) lt there
  first_later away (Some b) least = record {
    from = let after = least.from in omega arith;
    range = least.range;
    holds = least.holds;
    first = λ d le lt there. least.first d (not_here away d le there) lt there;
  }

-- of what holds of the same places
pub first_same : (P Q : ℕ → Type 0) (c n : ℕ) → ((d : ℕ) → P d ↔ Q d) → (o : Option ℕ) → IsFirstFrom P c n o
    → IsFirstFrom Q c n o
first_same P Q c n same None none = λ d le lt there. none d le lt ((same d).1 there)
first_same P Q c n same (Some b) least = record {
  from = least.from;
  range = least.range;
  holds = (same b).0 least.holds;
  first = λ d le lt there. least.first d le lt ((same d).1 there);
}

module _ (P Q : ℕ → Type 0) (a n : ℕ) where
  -- the first of which one of two things holds, where one holds of no place
  pub first_left : (o : Option ℕ) → ((d : ℕ) → a ≤ d → d < n → ¬ Q d) → IsFirstFrom P a n o
      → IsFirstFrom (λ d. P d ⊎ Q d) a n o
  first_left None none here = λ d le lt there.
      elim there [
        | inl left ↦ here d le lt left
        | inr right ↦ none d le lt right
      ]
  first_left (Some b) none least = record {
    from = least.from;
    range = least.range;
    holds = inl least.holds;
    first = λ d le lt there.
        elim there [
          | inl left ↦ least.first d le lt left
          | inr right ↦ absurd (none d le lt right)
        ];
  }

  pub first_right : (o : Option ℕ) → ((d : ℕ) → a ≤ d → d < n → ¬ P d) → IsFirstFrom Q a n o
      → IsFirstFrom (λ d. P d ⊎ Q d) a n o
  first_right None none here = λ d le lt there.
      elim there [
        | inl left ↦ none d le lt left
        | inr right ↦ here d le lt right
      ]
  first_right (Some b) none least = record {
    from = least.from;
    range = least.range;
    holds = inr least.holds;
    first = λ d le lt there.
        elim there [
          | inl left ↦ absurd (none d le lt left)
          | inr right ↦ least.first d le lt right
        ];
  }

  -- of two places the lesser
  first_lesser : (x y z : ℕ) → z ≤ x → z ≤ y → ((z ≡ x) ⊎ (z ≡ y)) → IsLeastFrom P a n x → IsLeastFrom Q a n y
      → IsLeastFrom (λ d. P d ⊎ Q d) a n z
  first_lesser x y z zx zy is one other = record {
    from =
        let left = one.from in
        let right = other.from in
        elim is [
          | inl e ↦ omega arith
          | inr e ↦ omega arith
        ];
    range = let left = one.range in omega arith;
    holds =
        elim is [
          | inl e ↦ inl (subst P (sym e) one.holds)
          | inr e ↦ inr (subst Q (sym e) other.holds)
        ];
    first = λ d le lt there.
        elim there [
          | inl left ↦ let below = one.first d le lt left in omega arith
          | inr right ↦ let below = other.first d le lt right in omega arith
        ];
  }

  first_ordered : (x y : ℕ) (b : Bool) → nat_le x y ≡ b → IsLeastFrom P a n x → IsLeastFrom Q a n y
      → IsFirstFrom (λ d. P d ⊎ Q d) a n (cond b (Some x) (Some y))
  first_ordered x y true e one other =
      let le : x ≤ y = leb-true x y e in
      first_lesser x y x (omega arith) le (inl refl) one other
  first_ordered x y false e one other =
      let le : y ≤ x = elim (cases_lt x y) [
        | inl less ↦
            let yes = le-leb x y (omega arith) in
            absurd (let no : false ≡ true = sym e ∙ yes in cc)
        | inr more ↦ more
      ] in
      first_lesser x y y le (omega arith) (inr refl) one other

  pub first_earlier : (one other : Option ℕ) → IsFirstFrom P a n one → IsFirstFrom Q a n other
      → IsFirstFrom (λ d. P d ⊎ Q d) a n (earlier one other)
  first_earlier None other none there = first_right other none there
  first_earlier (Some x) None there none = first_left (Some x) none there
  first_earlier (Some x) (Some y) one other = first_ordered x y (nat_le x y) refl one other

-- ---- vectors

-- two vectors are equal in the order exactly where they are the same
pub vectors_same : (x y : Vec ℤ Global) (r : Bool) → is_eq (vector_cmp x y) ≡ r → (r ≡ true) ↔ (y.items ≡ x.items)
vectors_same x y r is =
    let told = signed_items x.items y.items in
    let ties = lists_ties int_cmp (λ a b. refl) x.items y.items in (
      λ yes. sym (told.0 (ties ∙ is ∙ yes)),
      λ same. sym is ∙ sym ties ∙ told.1 (sym same),
    )

alike_weighted : (x : Vec ℤ Global) (w : OwnVector)
    → (HasWeights x.items w ⊎ IsWeightless w) ↔ AreAlike (Weighted x) w
alike_weighted x Assigned = (
  λ either. elim either [ inl never ↦ never | inr never ↦ never ],
  λ never. absurd never,
)
alike_weighted x Weightless = (λ either. tt, λ alike. inr tt)
alike_weighted x (Weighted y) = (
  λ either. elim either [ inl same ↦ same | inr never ↦ absurd never ],
  λ same. inl same,
)

alike_weightless : (w : OwnVector) → IsFree w ↔ AreAlike Weightless w
alike_weightless Assigned = (λ never. never, λ never. never)
alike_weightless Weightless = (λ yes. tt, λ yes. tt)
alike_weightless (Weighted y) = (λ yes. tt, λ yes. tt)

-- ---- one item more

module _ (vs : List OwnVector) (c : ℕ) (range : c < length vs) where
  abbrev pub n : ℕ
  n = length vs

  pub after_assigned : (l : Later) → vector_at vs c ≡ Assigned → IsLaterOf vs (suc c) l → IsLaterOf vs c l
  after_assigned l is of = record {
    unassigned = first_later (λ d. IsFree (vector_at vs d)) c n (λ p. subst IsFree is p) _ of.unassigned;
    weightless = first_later (λ d. IsWeightless (vector_at vs d)) c n (λ p. subst IsWeightless is p) _
        of.weightless;
    weighted = λ x. first_later (λ d. HasWeights x.items (vector_at vs d)) c n
        (λ p. subst (HasWeights x.items) is p) _ (of.weighted x);
  }

  pub none_assigned : vector_at vs c ≡ Assigned → IsFirstFrom (AlikeAt vs c) (suc c) n None
  none_assigned is = λ d le lt alike. subst (λ v. AreAlike v (vector_at vs d)) is alike

  pub after_weightless : (l l' : Later) → vector_at vs c ≡ Weightless → IsLaterOf vs (suc c) l
      → l'.unassigned ≡ Some c → l'.weightless ≡ Some c → l'.weighted ≡ l.weighted → IsLaterOf vs c l'
  after_weightless l l' is of unassigned weightless weighted = record {
    unassigned = subst (IsFirstFrom (λ d. IsFree (vector_at vs d)) c n) (sym unassigned)
        (first_here (λ d. IsFree (vector_at vs d)) c n range (subst IsFree (sym is) tt));
    weightless = subst (IsFirstFrom (λ d. IsWeightless (vector_at vs d)) c n) (sym weightless)
        (first_here (λ d. IsWeightless (vector_at vs d)) c n range (subst IsWeightless (sym is) tt));
    weighted = λ x. subst (λ m. IsFirstFrom (λ d. HasWeights x.items (vector_at vs d)) c n (get vector_cmp m x))
        (sym weighted)
        (first_later (λ d. HasWeights x.items (vector_at vs d)) c n (λ p. subst (HasWeights x.items) is p) _
        (of.weighted x));
  }

  pub alike_to_weightless : (l : Later) → vector_at vs c ≡ Weightless → IsLaterOf vs (suc c) l
      → IsFirstFrom (AlikeAt vs c) (suc c) n l.unassigned
  alike_to_weightless l is of =
      first_same (λ d. IsFree (vector_at vs d)) (AlikeAt vs c) (suc c) n
      (λ d. subst (λ v. IsFree (vector_at vs d) ↔ AreAlike v (vector_at vs d)) (sym is)
      (alike_weightless (vector_at vs d))) _ of.unassigned

  module _ (x : Vec ℤ Global) (is : vector_at vs c ≡ Weighted x) (l l' : Later) (of : IsLaterOf vs (suc c) l) where
    weights_next : (y : Vec ℤ Global) (r : Bool) → is_eq (vector_cmp x y) ≡ r
        → IsFirstFrom (λ d. HasWeights y.items (vector_at vs d)) c n (cond r (Some c) (get vector_cmp l.weighted y))
    weights_next y true e =
        first_here (λ d. HasWeights y.items (vector_at vs d)) c n range
        (subst (HasWeights y.items) (sym is) ((vectors_same x y true e).0 refl))
    weights_next y false e =
        first_later (λ d. HasWeights y.items (vector_at vs d)) c n
        (λ p. let wrong = (vectors_same x y false e).1 (subst (HasWeights y.items) is p) in cc)
        _ (of.weighted y)

    pub after_weighted : l'.unassigned ≡ Some c → l'.weightless ≡ l.weightless
        → ((y : Vec ℤ Global) → get vector_cmp l'.weighted y
        ≡ cond (is_eq (vector_cmp x y)) (Some c) (get vector_cmp l.weighted y))
        → IsLaterOf vs c l'
    after_weighted unassigned weightless weighted = record {
      unassigned = subst (IsFirstFrom (λ d. IsFree (vector_at vs d)) c n) (sym unassigned)
          (first_here (λ d. IsFree (vector_at vs d)) c n range (subst IsFree (sym is) tt));
      weightless = subst (IsFirstFrom (λ d. IsWeightless (vector_at vs d)) c n) (sym weightless)
          (first_later (λ d. IsWeightless (vector_at vs d)) c n (λ p. subst IsWeightless is p) _ of.weightless);
      weighted = λ y. subst (IsFirstFrom (λ d. HasWeights y.items (vector_at vs d)) c n) (sym (weighted y))
          (weights_next y _ refl);
    }

    pub alike_to_weighted : (same r : Option ℕ) → same ≡ get vector_cmp l.weighted x
        → r ≡ earlier same l.weightless → IsFirstFrom (AlikeAt vs c) (suc c) n r
    alike_to_weighted same r found is_earlier =
        let Same : ℕ → Type 0 = λ d. HasWeights x.items (vector_at vs d) in
        let No : ℕ → Type 0 = λ d. IsWeightless (vector_at vs d) in
        let first : IsFirstFrom Same (suc c) n same
        = subst (IsFirstFrom Same (suc c) n) (sym found) (of.weighted x) in
        let either : IsFirstFrom (λ d. Same d ⊎ No d) (suc c) n r
        = subst (IsFirstFrom (λ d. Same d ⊎ No d) (suc c) n) (sym is_earlier)
        (first_earlier Same No (suc c) n same l.weightless first of.weightless) in
        first_same (λ d. Same d ⊎ No d) (AlikeAt vs c) (suc c) n
        (λ d. subst (λ v. (Same d ⊎ No d) ↔ AreAlike v (vector_at vs d)) (sym is)
        (alike_weighted x (vector_at vs d))) r either

  -- a pair that is found at this place comes before all others
  pub found_here : (b : ℕ) → IsFirstFrom (AlikeAt vs c) (suc c) n (Some b) → IsFoundFrom vs c (Some (c, b))
  found_here b first = record { from = omega arith; pair = first; least = λ a d le less lt alike. le }

  -- where none is found here, the least pair of the later places is the least
  pub found_later : (o : Option (ℕ × ℕ)) → IsFirstFrom (AlikeAt vs c) (suc c) n None
      → IsFoundFrom vs (suc c) o → IsFoundFrom vs c o
  found_later None none found = λ a d le less lt alike.
      elim (from_place c a le) [
        | inl same ↦
            none d (omega arith) lt (subst (λ x. AlikeAt vs x d) (sym same) alike)
        | inr later ↦ found a d later less lt alike
      ]
  found_later (Some p) none found = record {
    from = let after = found.from in omega arith;
    pair = found.pair;
    least = λ a d le less lt alike.
        elim (from_place c a le) [
          | inl same ↦ absurd (none d (omega arith) lt (subst (λ x. AlikeAt vs x d) (sym same) alike))
          | inr later ↦ found.least a d later less lt alike
        ];
  }

-- ---- the whole list

module _ (vs : List OwnVector) where
  none_yet : (P : ℕ → Type 0) → IsFirstFrom P (length vs) (length vs) None
  none_yet P = λ d le lt there. absurd (let no : length vs < length vs = omega arith in omega arith)

  pub later_start : (l : Later) → l.unassigned ≡ None → l.weightless ≡ None
      → ((x : Vec ℤ Global) → get vector_cmp l.weighted x ≡ None) → IsLaterOf vs (length vs) l
  later_start l unassigned weightless weighted = record {
    unassigned = subst (IsFirstFrom (λ d. IsFree (vector_at vs d)) (length vs) (length vs)) (sym unassigned)
        (none_yet (λ d. IsFree (vector_at vs d)));
    weightless = subst (IsFirstFrom (λ d. IsWeightless (vector_at vs d)) (length vs) (length vs)) (sym weightless)
        (none_yet (λ d. IsWeightless (vector_at vs d)));
    weighted = λ x. subst (IsFirstFrom (λ d. HasWeights x.items (vector_at vs d)) (length vs) (length vs))
        (sym (weighted x)) (none_yet (λ d. HasWeights x.items (vector_at vs d)));
  }

  pub found_start : IsFoundFrom vs (length vs) None
  found_start = λ c d le less lt alike. absurd (omega arith)

-- the last item of a part that a list begins with
pub last_of : (vs rest rest' after : List OwnVector) (v : OwnVector) → vs ≡ rest ++ after → rest ≡ rest' ++ v ∷ []
    → vs ≡ rest' ++ v ∷ after
last_of vs rest rest' after v split popped = split ∙ ap (λ r. r ++ after) popped ∙ moved rest'
  where
    moved : (xs : List OwnVector) → (xs ++ v ∷ []) ++ after ≡ xs ++ v ∷ after
    moved [] = refl
    moved (x ∷ xs) = ap (λ l. x ∷ l) (moved xs)

pub last_at : (vs rest after : List OwnVector) (v : OwnVector) → vs ≡ rest ++ v ∷ after
    → (vector_at vs (length rest) ≡ v) × (length rest < length vs)
last_at vs rest after v split = (
  ap (λ l. vector_at l (length rest)) split ∙ there rest,
  subst (λ l. length rest < length l) (sym split) (longer rest),
)
  where
    there : (xs : List OwnVector) → vector_at (xs ++ v ∷ after) (length xs) ≡ v
    there [] = refl
    there (x ∷ xs) = there xs

    longer : (xs : List OwnVector) → length xs < length (xs ++ v ∷ after)
    longer [] = omega arith
    longer (x ∷ xs) = let more = longer xs in omega arith

-- the step that takes the last item
module _ (vs rest rest' : List OwnVector) (v : OwnVector) (before : (after : List OwnVector) × (vs ≡ rest ++ after))
    (popped : rest ≡ rest' ++ v ∷ []) where
  split : vs ≡ rest' ++ v ∷ before.0
  split = last_of vs rest rest' before.0 v before.1 popped

  pub split_next : (after : List OwnVector) × (vs ≡ rest' ++ after)
  split_next = (v ∷ before.0, split)

  one_more : length rest ≡ suc (length rest')
  one_more = ap length popped ∙ longer rest'
    where
      longer : (xs : List OwnVector) → length (xs ++ v ∷ []) ≡ suc (length xs)
      longer [] = refl
      longer (x ∷ xs) = ap suc (longer xs)

  module _ (n : ℕ) (size : n ≡ length rest') where
    pub below : n < length vs
    below = subst (λ x. x < length vs) (sym size) (last_at vs rest' before.0 v split).1

    pub here : vector_at vs n ≡ v
    here = subst (λ x. vector_at vs x ≡ v) (sym size) (last_at vs rest' before.0 v split).0

    one_later : length rest ≡ suc n
    one_later = one_more ∙ ap suc (sym size)

    pub later_before : (l : Later) → IsLaterOf vs (length rest) l → IsLaterOf vs (suc n) l
    later_before l = subst (λ x. IsLaterOf vs x l) one_later

    pub found_some : (o : Option ℕ) (b : ℕ) → o ≡ Some b → IsFirstFrom (AlikeAt vs n) (suc n) (length vs) o
        → IsFoundFrom vs (length rest') (Some (n, b))
    found_some o b is first =
        subst (λ x. IsFoundFrom vs x (Some (n, b))) size
        (found_here vs n below b (subst (IsFirstFrom (AlikeAt vs n) (suc n) (length vs)) is first))

    pub found_none : (o : Option ℕ) (p : Option (ℕ × ℕ)) → o ≡ None
        → IsFirstFrom (AlikeAt vs n) (suc n) (length vs) o → IsFoundFrom vs (length rest) p
        → IsFoundFrom vs (length rest') p
    found_none o p is first found =
        subst (λ x. IsFoundFrom vs x p) size
        (found_later vs n below p (subst (IsFirstFrom (AlikeAt vs n) (suc n) (length vs)) is first)
        (subst (λ x. IsFoundFrom vs x p) one_later found))
