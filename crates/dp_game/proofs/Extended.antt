-- Extended joint actions, and the greatest entries that agree with them.
use Rattle.std.proofs.Common.{◌≡◌, ℕ, zero, suc, ◌+◌, ◌*◌, ◌^◌, ◌<◌, ◌≤◌, true, eqb, ℤ, pos, List, []}
use Rattle.std.proofs.Common.{◌∷◌, ◌++◌}
use Rattle.std.proofs.Common.{map, length, get_or, Option, None, Some, refl, sym, ap, ◌∙◌, arith}
use Rattle.std.specs.List.{range_with_len}
use Rattle.std.proofs.Math.Nat.{mul-le-mul, pow-le-pow_right, pow-suc}
use Rattle.std.proofs.lemmas.Bool.{and_parts, eqb-true}
use Rattle.std.proofs.lemmas.List.{get_or-map, length-map}
use Rattle.std.proofs.lemmas.List.FromFn.{length-map-range_with_len}
use Rattle.dp_base.specs.Sums.{greatest, numbers_below}
use Rattle.std.proofs.lemmas.Bool.Decides.{nat_tests}
use Rattle.std.specs.Cmp.Derive.{both_true}
use Rattle.dp_base.proofs.Members.{IsIn-below, IsIn-filter, below-IsIn, filter-IsIn}
use Rattle.dp_spec.specs.JointNumbers.{joint_number, parts_of, product}
use Rattle.dp_spec.specs.Model.{IsModel, Model, joint_actions}
use Rattle.dp_spec.proofs.JointNumberLaws.{AreBelow, below_each, joint_number-parts_of, joint_number_below}
use Rattle.dp_spec.proofs.JointNumberLaws.{length-parts_of}
use Rattle.dp_spec.proofs.JointNumberLaws.{parts_below, parts_of-joint_number, positive_left, positive_right}
use Rattle.dp_spec.proofs.JointNumberLaws.{row_below}
use Rattle.dp_cluster.proofs.OwnParts.{made_at, same_map}
use Rattle.dp_game.specs.Extended.{choice_counts, choice_number, choice_of, choices_at, extended_number, greatest_at}
use Rattle.dp_game.specs.Extended.{greatest_table, whole_number, whole_table}
use Rattle.dp_game.specs.Games.{KeptGame, allowed_actions, best_entry, choices_in, each_agrees, joint_classes}
use Rattle.dp_game.specs.Games.{own_choice}
use Rattle.dp_game.specs.Games.{own_counts}
use Rattle.dp_game.specs.Kept.{IsOfSomeFront, rows_of}
use Rattle.dp_game.proofs.AdvancedLook.{greatest_of_one}
use Rattle.dp_game.proofs.Bounds.{same_agents}
use Rattle.dp_game.proofs.Callers.{choice_below}
use Rattle.dp_game.proofs.OwnChoices.{as_many_own, choices_for_at, length-choices_for}
use Rattle.dp_game.proofs.Rows.{rows_at, rows_length}

-- ---- numbers of choices

number_undone : (o : Option ℕ) → choice_of (choice_number o) ≡ o
number_undone None = refl
number_undone (Some a) = refl

numbers_undone : (os : List (Option ℕ)) → map choice_of (map choice_number os) ≡ os
numbers_undone [] = refl
numbers_undone (o ∷ os) = (λ j. number_undone o j ∷ numbers_undone os j)

-- the choices, back from their number
pub choices_back : (bs : List ℕ) (os : List (Option ℕ)) → AreBelow (choice_counts bs) (map choice_number os)
    → choices_at bs (extended_number bs os) ≡ os
choices_back bs os below =
    ap (map choice_of) (parts_of-joint_number (choice_counts bs) (map choice_number os) below) ∙ numbers_undone os

-- each agent has at most twice as many choices as actions
pub counts_most : (bs : List ℕ) → 0 < product bs → product (choice_counts bs) ≤ 2 ^ length bs * product bs
counts_most [] some = omega arith
counts_most (b ∷ bs) some =
    let one = positive_left b (product bs) 0 some in
    let rest = counts_most bs (positive_right b (product bs) 0 some) in
    let le : suc b * product (choice_counts bs) ≤ (2 * b) * (2 ^ length bs * product bs) =
    mul-le-mul (omega arith) rest in
    let same : (2 * b) * (2 ^ length bs * product bs) ≡ (2 * 2 ^ length bs) * (b * product bs) =
    regroup b (2 ^ length bs) (product bs) in
    let power : 2 ^ suc (length bs) ≡ 2 ^ length bs * 2 = pow-suc 2 (length bs) in
    rw power (omega (arith, le, same))
  where
    regroup : (b p n : ℕ) → (2 * b) * (p * n) ≡ (2 * p) * (b * n)
    regroup b p n = omega arith

    doubled : (p : ℕ) → p * 2 ≡ 2 * p
    doubled p = omega arith

pub counts_small : (bs : List ℕ) → length bs ≤ 6 → 0 < product bs → product bs ≤ 256
    → product (choice_counts bs) ≤ 2 ^ 14
counts_small bs agents some few =
    let most = counts_most bs some in
    let le : 2 ^ length bs * product bs ≤ 2 ^ 6 * 256 = mul-le-mul (pow-le-pow_right (omega arith) agents) few in
    omega arith

pub some_counts : (bs : List ℕ) → 0 < product (choice_counts bs)
some_counts [] = omega arith
some_counts (b ∷ bs) = let some = some_counts bs in omega arith

-- the number of choices of an agent
pub size_at : (bs : List ℕ) (i n : ℕ) → i < length bs → n ≡ get_or bs i 0 → n + 1 ≡ get_or (choice_counts bs) i 0
size_at bs i n lt is = let at = get_or-map (λ b. suc b) bs i 0 0 lt in omega arith

-- a model's agents have few
limit_of : (m : Model) (bs : List ℕ) → IsModel m → bs ≡ m.actions → product (choice_counts bs) ≤ 2 ^ 14
unfolding joint_actions
limit_of m bs is same =
    counts_small bs (rw same is.sizes.agents_limit) (rw same is.sizes.some_action)
    (rw same is.sizes.joint_actions_limit)

pub counts_limit : (g : KeptGame) → IsOfSomeFront g → product (choice_counts g.actions) ≤ 2 ^ 14
counts_limit g front = let is = front.4 in limit_of front.0 g.actions is.model is.actions

-- ---- joint actions among them

whole_below : (bs ps : List ℕ) → AreBelow bs ps → AreBelow (choice_counts bs) (map (λ p. suc p) ps)
whole_below [] [] h = h
whole_below [] (p ∷ ps) h = absurd h
whole_below (b ∷ bs) [] h = absurd h
whole_below (b ∷ bs) (p ∷ ps) h = (let lt = h.0 in omega arith, whole_below bs ps h.1)

whole_back : (ps : List ℕ) → map choice_of (map (λ p. suc p) ps) ≡ map (λ p. Some p) ps
whole_back [] = refl
whole_back (p ∷ ps) = ap (λ l. Some p ∷ l) (whole_back ps)

pub whole_number_below : (bs : List ℕ) (a : ℕ) → a < product bs → whole_number bs a < product (choice_counts bs)
whole_number_below bs a lt = joint_number_below (choice_counts bs) _ (whole_below bs _ (parts_below bs a lt))

whole_choices : (bs : List ℕ) (a : ℕ) → a < product bs → choices_at bs (whole_number bs a)
    ≡ map (λ p. Some p) (parts_of bs a)
whole_choices bs a lt =
    ap (map choice_of) (parts_of-joint_number (choice_counts bs) _ (whole_below bs _ (parts_below bs a lt)))
    ∙ whole_back (parts_of bs a)

-- only the same actions agree with a choice for each agent
only_same : (ps qs : List ℕ) → length qs ≡ length ps → each_agrees (map (λ p. Some p) ps) qs ≡ true → qs ≡ ps
only_same [] [] e ok = refl
only_same [] (q ∷ qs) e ok = absurd (omega arith)
only_same (p ∷ ps) [] e ok = absurd (omega arith)
only_same (p ∷ ps) (q ∷ qs) e ok =
    let both = and_parts _ _ ok in (λ j. sym (eqb-true _ _ both.0) j ∷ only_same ps qs (omega arith) both.1 j)

same_agree : (ps : List ℕ) → each_agrees (map (λ p. Some p) ps) ps ≡ true
same_agree [] = refl
same_agree (p ∷ ps) = both_true (same_number p) (same_agree ps)
  where
    same_number : (n : ℕ) → eqb n n ≡ true
    same_number n = grind (arith, nat_tests)

-- so the greatest of what agrees with a joint action is its own
pub greatest_whole : (bs : List ℕ) (f : ℕ → ℤ) (a : ℕ) → a < product bs →
    greatest f (allowed_actions bs (choices_at bs (whole_number bs a))) ≡ f a
greatest_whole bs f a lt =
    ap (λ os. greatest f (allowed_actions bs os)) (whole_choices bs a lt)
    ∙ greatest_of_one f a _
    (IsIn-filter (λ x. each_agrees (map (λ p. Some p) (parts_of bs a)) (parts_of bs x)) a
    (numbers_below (product bs)) (IsIn-below (product bs) a lt) (same_agree (parts_of bs a)))
    (λ x i.
    let in_both = filter-IsIn _ x (numbers_below (product bs)) i in
    let x_lt = below-IsIn (product bs) x in_both.0 in
    sym (joint_number-parts_of bs x x_lt)
    ∙ ap (joint_number bs) (only_same (parts_of bs a) (parts_of bs x)
    (length-parts_of bs x ∙ sym (length-parts_of bs a)) in_both.1)
    ∙ joint_number-parts_of bs a lt)

-- ---- the greatest entries of a table

row_long : (bs : List ℕ) (table : List ℤ) (n x : ℕ) → length (map (greatest_at bs table x) (range_with_len 0 n)) ≡ n
row_long bs table n x = length-map-range_with_len (greatest_at bs table x) 0 n

pub best_long : (bs : List ℕ) (table : List ℤ) (n : ℕ) → length (greatest_table bs table n)
    ≡ product (choice_counts bs) * n
best_long bs table n = rows_length _ n (product (choice_counts bs)) (λ x p. row_long bs table n x)

pub best_at : (bs : List ℕ) (table : List ℤ) (n x C : ℕ) → x < product (choice_counts bs) → C < n
    → get_or (greatest_table bs table n) (x * n + C) (pos 0) ≡ greatest_at bs table x C
best_at bs table n x C hx hC =
    rows_at _ n (product (choice_counts bs)) x C (pos 0) (λ y p. row_long bs table n y) hx hC
    ∙ made_at n C (pos 0) (greatest_at bs table x) hC

rows_same : {X : Type 0} (f g : ℕ → List X) (n : ℕ) → ((C : ℕ) → C < n → f C ≡ g C) → rows_of f n ≡ rows_of g n
rows_same f g zero same = refl
rows_same f g (suc n) same =
    (λ j. rows_same f g n (λ C p. same C (omega arith)) j ++ same n (omega arith) j)

-- a table is found again in its greatest entries
pub whole_is : (bs : List ℕ) (f : ℕ → ℕ → ℤ) (n : ℕ) (table : List ℤ) →
    table ≡ rows_of (λ C. map (f C) (range_with_len 0 (product bs))) n →
    whole_table bs n (greatest_table bs table n) ≡ table
whole_is bs f n table is =
    rows_same _ (λ C. map (f C) (range_with_len 0 (product bs))) n (λ C hC.
    same_map (product bs) (pos 0) _ _ (λ a ha.
    best_at bs table n (whole_number bs a) C (whole_number_below bs a ha) hC
    ∙ greatest_whole bs (λ b. get_or table (C * product bs + b) (pos 0)) a ha
    ∙ ap (λ l. get_or l (C * product bs + a) (pos 0)) is
    ∙ rows_at (λ D. map (f D) (range_with_len 0 (product bs))) (product bs) n C a (pos 0)
    (λ D p. length-map-range_with_len (f D) 0 (product bs)) hC ha
    ∙ made_at (product bs) a (pos 0) (f C) ha))
    ∙ sym is

-- ---- in a game of some front

module _ (g : KeptGame) (front : IsOfSomeFront g) (C : ℕ) (hC : C < joint_classes g) where
  abbrev os : List (Option ℕ)
  os = choices_in g.choices C

  parts_long : length (parts_of (own_counts g.choices) C) ≡ length g.choices
  parts_long = length-parts_of (own_counts g.choices) C ∙ as_many_own g.choices

  pub choices_long : length os ≡ length g.actions
  choices_long = length-choices_for g.choices _ parts_long ∙ sym (same_agents g front)

  number_below : (j : ℕ) (o : Option ℕ) → j < length g.choices
      → own_choice g j (get_or (parts_of (own_counts g.choices) C) j 0) ≡ o
      → choice_number o < suc (get_or g.actions j 0)
  number_below j None lt e = omega arith
  number_below j (Some a) lt e =
      let below = choice_below g j (get_or (parts_of (own_counts g.choices) C) j 0) a front lt e in omega arith

  pub choices_below : AreBelow (choice_counts g.actions) (map choice_number os)
  choices_below =
      let many = same_agents g front in
      let long = choices_long in
      let counts_long = length-map g.actions (λ b. suc b) in
      let numbers_long = length-map os choice_number in
      below_each (choice_counts g.actions) (map choice_number os) (omega arith) (λ j lt.
      let in_actions : j < length g.actions = omega arith in
      let in_os : j < length os = omega arith in
      let hj : j < length g.choices = omega arith in
      let left = get_or-map choice_number os j None 0 in_os in
      let right = get_or-map (λ b. suc b) g.actions j 0 0 in_actions in
      let is = choices_for_at g.choices (parts_of (own_counts g.choices) C) j hj parts_long in
      rw (left, right) (number_below j (get_or os j None) hj (sym is)))

  pub class_number_below : extended_number g.actions os < product (choice_counts g.actions)
  class_number_below = joint_number_below (choice_counts g.actions) _ choices_below

  -- what is kept for the extended joint action of a joint class is its best entry
  pub best_kept : (best : List ℤ) → best ≡ greatest_table g.actions g.table (joint_classes g) →
      get_or best (extended_number g.actions os * joint_classes g + C) (pos 0) ≡ best_entry g C
  best_kept best is =
      ap (λ l. get_or l (extended_number g.actions os * joint_classes g + C) (pos 0)) is
      ∙ best_at g.actions g.table (joint_classes g) _ C class_number_below hC
      ∙ ap (λ l. greatest (λ a. get_or g.table (C * product g.actions + a) (pos 0)) (allowed_actions g.actions l))
      (choices_back g.actions os choices_below)

  -- and there is such a place
  pub best_place : (best : List ℤ) → best ≡ greatest_table g.actions g.table (joint_classes g) →
      extended_number g.actions os * joint_classes g + C < length best
  best_place best is =
      let long = ap (λ (l : List ℤ). length l) is ∙ best_long g.actions g.table (joint_classes g) in
      let lt = row_below _ (product (choice_counts g.actions)) (joint_classes g) C class_number_below hC in
      omega arith
