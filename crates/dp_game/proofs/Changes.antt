-- What is kept for joint classes where the choice for a class changes.
use Rattle.std.proofs.Common.{◌≡◌, ◌≢◌, inl, inr, ℕ, zero, suc, ◌+◌, ◌*◌, ◌<◌, ◌≤◌, List, [], ◌∷◌, length, get_or}
use Rattle.std.proofs.Common.{set, drop, take, Option, None, sym, ap, ◌∙◌, subst, arith}
use Rattle.std.proofs.lemmas.Bool.{cases_eq, cases_lt}
use Rattle.std.proofs.lemmas.List.{ext_get_or, get_or-drop, get_or-map, get_or-set_other, get_or-set_same}
use Rattle.std.proofs.lemmas.List.{get_or-take, length-drop, length-set, length-take-le}
use Rattle.dp_base.specs.Sums.{greatest}
use Rattle.dp_spec.specs.JointNumbers.{parts_of, product}
use Rattle.dp_spec.specs.Merge.{placed_number, without}
use Rattle.dp_spec.proofs.JointNumberLaws.{length-parts_of}
use Rattle.dp_laws.proofs.JointPlaces.{placed_injective}
use Rattle.dp_game.specs.Games.{KeptGame, allowed_actions, best_entry, choices_for, choices_in, entry, own_counts}
use Rattle.dp_game.specs.Games.{own_choice, with_own_choice}
use Rattle.dp_game.specs.Extended.{AreNumbersOf, choice_counts, choice_number, extended_number}
use Rattle.dp_game.proofs.OwnChoices.{as_many_own, choices_for_at, counts_kept, length-choices_for}
use Rattle.dp_game.proofs.ClassPlaces.{others, part_there, place, place_in, placed}

-- the choices for a joint class, from the list of all
pub row_is : (oss : List (List (Option ℕ))) (wanted : List (Option ℕ)) (C : ℕ) → C * length oss + length oss ≤
    length wanted
    → ((j : ℕ) → j < length oss → get_or wanted (C * length oss + j) None ≡ get_or (choices_in oss C) j None)
    → take (length oss) (drop (C * length oss) wanted) ≡ choices_in oss C
row_is oss wanted C room each =
    let n = length oss in
    let left = length-drop (C * n) wanted in
    let row_long = length-take-le n (drop (C * n) wanted) (omega arith) in
    let parts_long = length-parts_of (own_counts oss) C ∙ as_many_own oss in
    let long = length-choices_for oss (parts_of (own_counts oss) C) parts_long in
    ext_get_or None _ _ (row_long ∙ sym long) (λ j lt.
    let lt' : j < n = omega arith in
    get_or-take n (drop (C * n) wanted) j None lt' ∙ get_or-drop (C * n) wanted j None ∙ each j lt')

-- the extended joint action of joint class C
abbrev pub number_in : KeptGame → ℕ → ℕ
number_in g C = extended_number g.actions (choices_in g.choices C)

-- of the joint classes that hold class c of agent i the first x have the numbers with choice o for it, and the others
-- have those before it
pub record IsChanging (g : KeptGame) (i c : ℕ) (o : Option ℕ) (x : ℕ) (numbers : List ℕ) : Type 0 where
  pub one_each : length numbers ≡ product (own_counts g.choices)
  pub done : (y : ℕ) → y < x → y < product (without i (own_counts g.choices)) →
      get_or numbers (placed_number i (own_counts g.choices) c y) 0
      ≡ number_in (with_own_choice g i c o) (placed_number i (own_counts g.choices) c y)
  pub rest : (b y : ℕ) → b < get_or (own_counts g.choices) i 0
      → y < product (without i (own_counts g.choices)) → (b ≡ c → x ≤ y)
      → get_or numbers (placed_number i (own_counts g.choices) b y) 0
      ≡ number_in g (placed_number i (own_counts g.choices) b y)

-- one choice more or less in an extended joint action
pub number_changed : (bs : List ℕ) (os : List (Option ℕ)) (i : ℕ) (o : Option ℕ) → i < length os
    → length bs ≡ length os →
    extended_number bs (set os i o) + choice_number (get_or os i None) * product (drop (suc i) (choice_counts bs))
    ≡ extended_number bs os + choice_number o * product (drop (suc i) (choice_counts bs))
number_changed bs [] i o lt e = absurd (omega arith)
number_changed [] (p ∷ os) i o lt e = absurd (omega arith)
number_changed (b ∷ bs) (p ∷ os) zero o lt e =
    swapped (choice_number o * product (choice_counts bs)) (choice_number p * product (choice_counts bs))
    (extended_number bs os)
  where
    swapped : (x y n : ℕ) → x + n + y ≡ y + n + x
    swapped x y n = omega arith
number_changed (b ∷ bs) (p ∷ os) (suc i) o lt e =
    moved (choice_number p * product (choice_counts bs)) _ _ _ _ (number_changed bs os i o (omega arith) (omega
    arith))
  where
    moved : (n x y z w : ℕ) → x + y ≡ z + w → n + x + y ≡ n + z + w
    moved n x y z w e = omega arith

module _ (g : KeptGame) (i c : ℕ) (o : Option ℕ) (hi : i < length g.choices)
    (hc : c < length (get_or g.choices i [])) where
  abbrev pub changed : KeptGame
  changed = with_own_choice g i c o

  abbrev pub counts : List ℕ
  counts = own_counts g.choices

  abbrev n : ℕ
  n = length g.choices

  pub same_counts : own_counts changed.choices ≡ counts
  same_counts = counts_kept g.choices i c o

  as_many : length changed.choices ≡ n
  as_many = length-set g.choices i (set (get_or g.choices i []) c o)

  pub hi' : i < length counts
  hi' = let e = as_many_own g.choices in omega arith

  count_is : get_or counts i 0 ≡ length (get_or g.choices i [])
  count_is = get_or-map (λ (os : List (Option ℕ)). length os) g.choices i [] 0 hi

  pub class_in : c < get_or counts i 0
  class_in = rw count_is hc

  -- ---- the choices for joint classes, before and after

  parts_long : (C : ℕ) → length (parts_of counts C) ≡ n
  parts_long C = length-parts_of counts C ∙ as_many_own g.choices

  old_choice : (C j : ℕ) → j < n → get_or (choices_in g.choices C) j None ≡ get_or (get_or g.choices j [])
      (get_or (parts_of counts C) j 0) None
  old_choice C j lt = choices_for_at g.choices (parts_of counts C) j lt (parts_long C)

  new_choice : (C j : ℕ) → j < n → get_or (choices_in changed.choices C) j None ≡ get_or
      (get_or changed.choices j []) (get_or (parts_of counts C) j 0) None
  new_choice C j lt =
      ap (λ (ns : List ℕ). get_or (choices_for changed.choices (parts_of ns C)) j None) same_counts
      ∙ choices_for_at changed.choices (parts_of counts C) j (let e = as_many in omega arith)
      (parts_long C ∙ sym as_many)

  own_list : get_or changed.choices i [] ≡ set (get_or g.choices i []) c o
  own_list = get_or-set_same g.choices i (set (get_or g.choices i []) c o) [] hi

  there : (C : ℕ) → get_or (parts_of counts C) i 0 ≡ c → get_or (choices_in changed.choices C) i None ≡ o
  there C e =
      new_choice C i hi ∙ (λ j. get_or (own_list j) (e j) None)
      ∙ get_or-set_same (get_or g.choices i []) c o None hc

  of_others : (C j : ℕ) → j < n → j ≢ i → get_or (choices_in changed.choices C) j None ≡ get_or
      (choices_in g.choices C) j None
  of_others C j lt ne =
      new_choice C j lt
      ∙ ap (λ os. get_or os (get_or (parts_of counts C) j 0) None)
      (get_or-set_other g.choices i j (set (get_or g.choices i []) c o) [] ne)
      ∙ sym (old_choice C j lt)

  not_there : (C : ℕ) → get_or (parts_of counts C) i 0 ≢ c → get_or (choices_in changed.choices C) i None
      ≡ get_or
      (choices_in g.choices C) i None
  not_there C ne =
      new_choice C i hi ∙ ap (λ os. get_or os (get_or (parts_of counts C) i 0) None) own_list
      ∙ get_or-set_other (get_or g.choices i []) c (get_or (parts_of counts C) i 0) o None ne ∙ sym
      (old_choice C i hi)

  elsewhere_at : (C : ℕ) → get_or (parts_of counts C) i 0 ≢ c → (j : ℕ) → j < n
      → get_or (choices_in changed.choices C) j None ≡ get_or (choices_in g.choices C) j None
  elsewhere_at C ne j lt =
      elim (cases_eq j i) [
        | inl e ↦ ap (λ (z : ℕ). get_or (choices_in changed.choices C) z None) e ∙ not_there C ne ∙ ap
            (λ (z : ℕ). get_or (choices_in g.choices C) z None) (sym e)
        | inr other ↦ of_others C j lt other
      ]

  elsewhere : (C : ℕ) → get_or (parts_of counts C) i 0 ≢ c → choices_in changed.choices C
      ≡ choices_in g.choices C
  elsewhere C ne =
      let old_long = length-choices_for g.choices (parts_of counts C) (parts_long C) in
      let new_long =
      ap (λ (ns : List ℕ). length (choices_for changed.choices (parts_of ns C))) same_counts
      ∙ length-choices_for changed.choices (parts_of counts C) (parts_long C ∙ sym as_many) ∙ as_many in
      ext_get_or None _ _ (new_long ∙ sym old_long) (λ j lt. elsewhere_at C ne j (omega arith))

  pub best_elsewhere : (C : ℕ) → get_or (parts_of counts C) i 0 ≢ c → best_entry changed C ≡ best_entry g C
  best_elsewhere C ne = ap (λ os. greatest (entry g C) (allowed_actions g.actions os)) (elsewhere C ne)

  -- ---- the numbers, joint class by joint class

  number_elsewhere : (C : ℕ) → get_or (parts_of counts C) i 0 ≢ c → number_in changed C ≡ number_in g C
  number_elsewhere C ne = ap (extended_number g.actions) (elsewhere C ne)

  -- where the class is, its choice alone is another
  choices_there : (C : ℕ) → get_or (parts_of counts C) i 0 ≡ c → choices_in changed.choices C
      ≡ set (choices_in g.choices C) i o
  choices_there C e =
      let old_long = length-choices_for g.choices (parts_of counts C) (parts_long C) in
      let new_long =
      ap (λ (ns : List ℕ). length (choices_for changed.choices (parts_of ns C))) same_counts
      ∙ length-choices_for changed.choices (parts_of counts C) (parts_long C ∙ sym as_many) ∙ as_many in
      let set_long = length-set (choices_in g.choices C) i o in
      ext_get_or None _ _ (new_long ∙ sym (set_long ∙ old_long)) (λ j lt. elim (cases_eq j i) [
        | inl same ↦
            ap (λ (z : ℕ). get_or (choices_in changed.choices C) z None) same ∙ there C e
            ∙ sym (get_or-set_same (choices_in g.choices C) i o None (omega arith))
            ∙ ap (λ (z : ℕ). get_or (set (choices_in g.choices C) i o) z None) (sym same)
        | inr other ↦
            of_others C j (omega arith) other
            ∙ sym (get_or-set_other (choices_in g.choices C) i j o None other)
      ])

  module _ (agents : length g.actions ≡ length g.choices) (W : ℕ)
      (width : W ≡ product (drop (suc i) (choice_counts g.actions))) where
    pub number_there : (C : ℕ) → get_or (parts_of counts C) i 0 ≡ c
        → number_in changed C + choice_number (own_choice g i c) * W ≡ number_in g C + choice_number o * W
    number_there C e =
        let was : own_choice g i c ≡ get_or (choices_in g.choices C) i None =
        sym (old_choice C i hi ∙ ap (λ (z : ℕ). get_or (get_or g.choices i []) z None) e) in
        let long = length-choices_for g.choices (parts_of counts C) (parts_long C) in
        (λ j. extended_number g.actions (choices_there C e j) + choice_number (was j) * width j)
        ∙ number_changed g.actions (choices_in g.choices C) i o (omega arith) (omega arith)
        ∙ (λ j. number_in g C + choice_number o * sym width j)

  pub changing_start : (numbers : List ℕ) → AreNumbersOf g.actions g.choices numbers → IsChanging g i c o 0 numbers
  changing_start numbers are = record {
    one_each = are.one_each;
    done = λ y lt. absurd (omega arith);
    rest = λ b y hb hy le. are.at (place i counts hi' b y) (place_in i counts hi' b y hb hy);
  }

  pub changing_end : (x : ℕ) (numbers : List ℕ) → others i counts hi' ≤ x → IsChanging g i c o x numbers
      → AreNumbersOf g.actions changed.choices numbers
  changing_end x numbers le u = record {
    one_each = u.one_each ∙ ap product (sym same_counts);
    at = λ C lt. all C (subst (λ (l : List ℕ). C < product l) same_counts lt);
  }
    where
      all : (C : ℕ) → C < product counts → get_or numbers C 0 ≡ number_in changed C
      all C lt =
          let p = placed i counts hi' C lt in
          elim (cases_eq p.class c) [
            | inl e ↦
                let lt' = p.other_below in
                subst (λ (D : ℕ). get_or numbers D 0 ≡ number_in changed D)
                (ap (λ (b : ℕ). place i counts hi' b p.other) (sym e) ∙ sym p.is)
                (u.done p.other (omega arith) lt')
            | inr ne ↦
                let kept = u.rest p.class p.other p.class_below p.other_below (λ e. absurd (ne e)) in
                subst (λ (D : ℕ). get_or numbers D 0 ≡ number_in g D) (sym p.is) kept
                ∙ sym (number_elsewhere C (λ e. ne (sym p.part ∙ e)))
          ]

  -- one joint class more
  module _ (x : ℕ) (hx : x < others i counts hi') (numbers : List ℕ) (u : IsChanging g i c o x numbers) where
    abbrev J : ℕ
    J = place i counts hi' c x

    J_in : J < product counts
    J_in = place_in i counts hi' c x class_in hx

    here_part : get_or (parts_of counts J) i 0 ≡ c
    here_part = part_there i counts hi' c x class_in hx

    pub number_before : get_or numbers J 0 ≡ number_in g J
    number_before = u.rest c x class_in hx (λ e. omega arith)

    pub changing_next : (v : ℕ) → v ≡ number_in changed J → IsChanging g i c o (x + 1) (set numbers J v)
    changing_next v is = record {
      one_each = length-set numbers J v ∙ u.one_each;
      done = λ y lt hy. elim (cases_lt y x) [
        | inl early ↦
            let apart : place i counts hi' c y ≢ J =
            λ e. let same = (placed_injective i counts c y c x hi' class_in hy class_in hx e).1 in absurd
            (omega arith) in
            get_or-set_other numbers J (place i counts hi' c y) v 0 apart ∙ u.done y early hy
        | inr late ↦
            let now : y ≡ x = omega arith in
            let there : J < length numbers = let one = u.one_each in let lt = J_in in omega arith in
            subst (λ (z : ℕ). get_or (set numbers J v) (place i counts hi' c z) 0
            ≡ number_in changed (place i counts hi' c z)) (sym now)
            (get_or-set_same numbers J v 0 there ∙ is)
      ];
      rest = λ b y hb hy le.
          let apart : place i counts hi' b y ≢ J =
          λ e. let same = placed_injective i counts b y c x hi' hb hy class_in hx e in
          let more = le same.0 in
          let at = same.1 in absurd (omega arith) in
          get_or-set_other numbers J (place i counts hi' b y) v 0 apart
          ∙ u.rest b y hb hy (λ e. let more = le e in omega arith);
    }
