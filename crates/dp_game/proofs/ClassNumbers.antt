-- The extended joint actions of joint classes and the joint actions that agree with one, as lists that are made.
use Rattle.std.proofs.Common.{◌≡◌, ℕ, zero, suc, ◌+◌, ◌*◌, ◌/◌, ◌%◌, ◌<◌, Bool, true, false, cond, ℤ, List, []}
use Rattle.std.proofs.Common.{◌∷◌, ◌++◌, filter, map, length, get_or, drop, Option, None, Some, refl, sym, ap, ◌∙◌}
use Rattle.std.proofs.Common.{arith}
use Rattle.std.proofs.Common.{append_assoc, subst, inl, inr}
use Rattle.std.specs.Prelude.{nat_lt}
use Rattle.std.specs.List.{range_with_len}
use Rattle.std.specs.Int.{int_max}
use Rattle.std.proofs.Math.Seq.{drop-cons}
use Rattle.std.proofs.lemmas.Bool.Decides.{nat_tests}
use Rattle.std.proofs.lemmas.List.{append-nil, get_or-map, get_or_default, length-drop, length-map}
use Rattle.std.proofs.lemmas.List.FromFn.{length-map-range_with_len}
use Rattle.std.proofs.lemmas.Nat.{mod_below}
use Rattle.dp_base.specs.Sums.{greatest, numbers_below}
use Rattle.dp_spec.specs.JointNumbers.{parts_of, product}
use Rattle.dp_base.proofs.Members.{IsIn, below-IsIn, filter-IsIn}
use Rattle.dp_spec.proofs.JointNumberLaws.{part_below, positive_right, product-drop, row_below}
use Rattle.dp_cluster.proofs.OwnParts.{made_at, next_made}
use Rattle.dp_game.specs.Extended.{AreNumbersOf, choice_counts, choice_number, extended_number}
use Rattle.dp_game.specs.Games.{allowed_actions, choices_in, each_agrees, own_counts}
use Rattle.dp_game.specs.Kept.{rows_of}
use Rattle.dp_game.proofs.Agreement.{has_some}
use Rattle.dp_game.proofs.Rows.{rows_at, rows_length}

-- ---- choices that are actions of their agents

-- each choice is an action of its agent
abbrev pub AllBelow : List ℕ → List (List (Option ℕ)) → Type 0
AllBelow bs oss = (i c a : ℕ) → i < length oss → get_or (get_or oss i []) c None ≡ Some a → a < get_or bs i 0

drop_below : (k : ℕ) (bs : List ℕ) (oss : List (List (Option ℕ))) → length bs ≡ length oss → AllBelow bs oss
    → AllBelow (drop k bs) (drop k oss)
drop_below zero bs oss alike below = below
drop_below (suc k) bs [] alike below = λ i c a lt e. absurd (omega arith)
drop_below (suc k) [] (os ∷ oss) alike below = absurd (omega arith)
drop_below (suc k) (b ∷ bs) (os ∷ oss) alike below =
    drop_below k bs oss (omega arith) (λ i c a lt e. below (suc i) c a (omega arith) e)

own_below : (o : Option ℕ) (b : ℕ) → ((a : ℕ) → o ≡ Some a → a < b) → choice_number o < suc b
own_below None b below = omega arith
own_below (Some a) b below = let lt = below a refl in omega arith

-- so the extended joint action of a joint class is one
pub extended_below : (bs : List ℕ) (oss : List (List (Option ℕ))) → length bs ≡ length oss → AllBelow bs oss → (C : ℕ)
    → C < product (own_counts oss) → extended_number bs (choices_in oss C) < product (choice_counts bs)
extended_below [] [] alike below C lt = omega arith
extended_below [] (os ∷ oss) alike below C lt = absurd (omega arith)
extended_below (b ∷ bs) [] alike below C lt = absurd (omega arith)
extended_below (b ∷ bs) (os ∷ oss) alike below C lt =
    let n = product (own_counts oss) in
    let some : 0 < n = positive_right (length os) n C lt in
    let low : C % n < n = mod_below C n some in
    let rest = extended_below bs oss (omega arith) (λ i c a lt e. below (suc i) c a (omega arith) e) (C % n) low in
    let first = own_below (get_or os (C / n) None) b (λ a e. below 0 (C / n) a (omega arith) e) in
    row_below _ (suc b) (product (choice_counts bs)) _ first rest

-- ---- one agent more

-- for each choice of the first agent the numbers of the others, with its number before them
abbrev pub numbers_before : List (Option ℕ) → ℕ → List ℕ → List ℕ
numbers_before os width later =
    rows_of (λ c. map (λ C. choice_number (get_or os c None) * width + get_or later C 0)
    (range_with_len 0 (length later))) (length os)

module _ (b : ℕ) (bs : List ℕ) (os : List (Option ℕ)) (oss : List (List (Option ℕ))) (later : List ℕ)
    (are : AreNumbersOf bs oss later) where
  abbrev n : ℕ
  n = product (own_counts oss)

  abbrev W : ℕ
  W = product (choice_counts bs)

  abbrev row : ℕ → List ℕ
  row c = map (λ C. choice_number (get_or os c None) * W + get_or later C 0) (range_with_len 0 (length later))

  row_long : (c : ℕ) → length (row c) ≡ n
  row_long c = length-map-range_with_len _ 0 (length later) ∙ are.one_each

  number_at : (C : ℕ) → C < length os * n → get_or (numbers_before os W later) C 0
      ≡ extended_number (b ∷ bs) (choices_in (os ∷ oss) C)
  number_at C lt =
      let some : 0 < n = positive_right (length os) n C lt in
      let high : C / n < length os = part_below (length os) n C lt in
      let low : C % n < n = mod_below C n some in
      let within : C % n < length later = rw are.one_each low in
      let together : C / n * n + C % n ≡ C = omega arith in
      ap (λ (z : ℕ). get_or (numbers_before os W later) z 0) (sym together)
      ∙ rows_at row n (length os) (C / n) (C % n) 0 (λ c p. row_long c) high low
      ∙ made_at (length later) (C % n) 0 (λ D. choice_number (get_or os (C / n) None) * W + get_or later D 0) within
      ∙ ap (λ (z : ℕ). choice_number (get_or os (C / n) None) * W + z) (are.at (C % n) low)

  pub numbers_next : AreNumbersOf (b ∷ bs) (os ∷ oss) (numbers_before os W later)
  numbers_next = record {
    one_each = rows_length row n (length os) (λ c p. row_long c);
    at = number_at;
  }

abbrev only_zero : List ℕ
only_zero = 0 ∷ []

-- no agent has one joint class alone
pub numbers_none : (bs : List ℕ) (oss : List (List (Option ℕ))) → bs ≡ [] → oss ≡ [] → AreNumbersOf bs oss (0 ∷ [])
numbers_none bs oss eb eo =
    subst (λ l. AreNumbersOf l oss (0 ∷ [])) (sym eb) (subst (λ l. AreNumbersOf [] l (0 ∷ [])) (sym eo) (record {
      one_each = refl;
      at = λ C lt. first C lt;
    }))
  where
    first : (C : ℕ) → C < 1 → get_or only_zero C 0 ≡ zero
    first zero lt = refl
    first (suc C) lt = absurd (omega arith)

drop_counts : (bs : List ℕ) (i : ℕ) → drop i (choice_counts bs) ≡ choice_counts (drop i bs)
drop_counts [] zero = refl
drop_counts [] (suc i) = refl
drop_counts (b ∷ bs) zero = refl
drop_counts (b ∷ bs) (suc i) = drop_counts bs i

-- agent j before those after it
module _ (bs : List ℕ) (oss : List (List (Option ℕ))) (j k : ℕ) (own : List (Option ℕ)) (width : ℕ)
    (later : List ℕ) (alike : length bs ≡ length oss) (lt : j < length oss) (ek : k ≡ suc j)
    (eo : own ≡ get_or oss j own) (ew : width ≡ product (drop k (choice_counts bs)))
    (are : AreNumbersOf (drop k bs) (drop k oss) later) where
  head_of : drop j bs ≡ get_or bs j 0 ∷ drop (suc j) bs
  head_of = drop-cons bs j 0 (omega arith)

  own_of : drop j oss ≡ own ∷ drop (suc j) oss
  own_of = drop-cons oss j own lt ∙ ap (λ z. z ∷ drop (suc j) oss) (sym eo)

  width_is : width ≡ product (choice_counts (drop k bs))
  width_is = ew ∙ ap product (drop_counts bs k)

  pub numbers_from : (new : List ℕ) → new ≡ numbers_before own width later → AreNumbersOf (drop j bs) (drop j oss) new
  numbers_from new en =
      let are' : AreNumbersOf (drop (suc j) bs) (drop (suc j) oss) later =
      subst (λ (z : ℕ). AreNumbersOf (drop z bs) (drop z oss) later) ek are in
      let width_is' : width ≡ product (choice_counts (drop (suc j) bs)) =
      width_is ∙ ap (λ (z : ℕ). product (choice_counts (drop z bs))) ek in
      subst (λ l. AreNumbersOf l (drop j oss) new) (sym head_of)
      (subst (λ l. AreNumbersOf (get_or bs j 0 ∷ drop (suc j) bs) l new) (sym own_of)
      (subst (λ l. AreNumbersOf (get_or bs j 0 ∷ drop (suc j) bs) (own ∷ drop (suc j) oss) l)
      (sym (en ∙ ap (λ (w : ℕ). numbers_before own w later) width_is'))
      (numbers_next (get_or bs j 0) (drop (suc j) bs) own (drop (suc j) oss) later are')))

  -- each number stays below the number of extended joint actions
  pub number_small : AllBelow bs oss → (c C : ℕ) → C < length later →
      choice_number (get_or own c None) * width + get_or later C 0 < product (drop j (choice_counts bs))
  number_small below c C hC =
      let in_joint : C < product (own_counts (drop k oss)) = rw (sym are.one_each) hC in
      let long = length-drop k bs in
      let long' = length-drop k oss in
      let low : get_or later C 0 < width =
      rw (are.at C in_joint, width_is) (extended_below (drop k bs) (drop k oss) (omega arith)
      (drop_below k bs oss alike below) C in_joint) in
      let high : choice_number (get_or own c None) < suc (get_or bs j 0) =
      own_below (get_or own c None) (get_or bs j 0) (λ a e. below j c a lt
      (ap (λ (os : List (Option ℕ)). get_or os c None) (sym (eo ∙ get_or_default oss j own [] lt)) ∙ e)) in
      let counts : get_or (choice_counts bs) j 0 ≡ suc (get_or bs j 0) =
      get_or-map (λ b. suc b) bs j 0 0 (omega arith) in
      let size = length-map bs (λ b. suc b) in
      let whole = product-drop (choice_counts bs) j (omega arith) in
      let all = row_below (choice_number (get_or own c None)) (suc (get_or bs j 0)) width (get_or later C 0) high low
      in
      let same : product (drop j (choice_counts bs)) ≡ suc (get_or bs j 0) * width =
      whole ∙ (λ i. counts i * (ap (λ (z : ℕ). product (drop z (choice_counts bs))) (sym ek) ∙ sym ew) i) in
      rw same all

-- a list that is made item by item, behind another one
pub pushed_map : {X : Type 0} (f : ℕ → X) (old items new : List X) (k : ℕ) (x : X) → x ≡ f k
    → items ≡ old ++ map f (range_with_len 0 k) → new ≡ items ++ x ∷ []
    → new ≡ old ++ map f (range_with_len 0 (k + 1))
pushed_map f old items new k x is so_far pushed =
    pushed ∙ (λ j. so_far j ++ is j ∷ []) ∙ append_assoc old (map f (range_with_len 0 k)) (f k ∷ [])
    ∙ ap (λ (l : List _). old ++ l) (next_made f (map f (range_with_len 0 k)) _ k (f k) refl refl refl)

-- ---- joint actions that agree, the greatest first

pub pushed_where : (p : ℕ → Bool) (old new all : List ℕ) (a n : ℕ) (b : Bool) → b ≡ p a → n ≡ suc a
    → old ++ filter p (numbers_below n) ≡ all → new ≡ old ++ cond b (a ∷ []) []
    → new ++ filter p (numbers_below a) ≡ all
pushed_where p old new all a n true eb en so_far is =
    ap (λ (l : List ℕ). l ++ filter p (numbers_below a)) is
    ∙ append_assoc old (a ∷ []) (filter p (numbers_below a))
    ∙ (λ j. old ++ cond (eb j) (a ∷ filter p (numbers_below a)) (filter p (numbers_below a)))
    ∙ ap (λ (k : ℕ). old ++ filter p (numbers_below k)) (sym en) ∙ so_far
pushed_where p old new all a n false eb en so_far is =
    ap (λ (l : List ℕ). l ++ filter p (numbers_below a)) (is ∙ append-nil old)
    ∙ (λ j. old ++ cond (eb j) (a ∷ filter p (numbers_below a)) (filter p (numbers_below a)))
    ∙ ap (λ (k : ℕ). old ++ filter p (numbers_below k)) (sym en) ∙ so_far

-- their entries are in the table
pub allowed_below : (bs : List ℕ) (os : List (Option ℕ)) (xs : List ℕ) (table : List ℤ) (joints C j count : ℕ)
    → xs ≡ allowed_actions bs os → count ≡ product bs → length table ≡ joints * product bs → C < joints
    → j < length xs → C * count + get_or xs j 0 < length table
allowed_below bs os xs table joints C j count is many long lt inside =
    let member = IsIn-at j (allowed_actions bs os) (subst (λ (l : List ℕ). j < length l) is inside) in
    let below = below-IsIn (product bs) _ (filter-IsIn (λ a. each_agrees os (parts_of bs a)) _
    (numbers_below (product bs)) member).0 in
    let all = row_below C joints (product bs) _ lt below in
    rw (many, is) (omega (arith, all, long))
  where
    IsIn-at : (j : ℕ) (xs : List ℕ) → j < length xs → IsIn (get_or xs j 0) xs
    IsIn-at j [] lt = absurd (omega arith)
    IsIn-at zero (x ∷ xs) lt = inl refl
    IsIn-at (suc j) (x ∷ xs) lt = inr (IsIn-at j xs (omega arith))

-- ---- the greatest over a list, from its end

-- something stands behind place n - k exactly where k is above 0
pub some_behind : (xs : List ℕ) (k j : ℕ) → j + k ≡ length xs → nat_lt 0 k ≡ has_some (drop j xs)
some_behind [] k zero e = let none : k ≡ 0 = omega arith in ap (nat_lt 0) none
some_behind [] k (suc j) e = absurd (omega arith)
some_behind (x ∷ xs) k zero e = let some : k ≡ suc (length xs) = omega arith in
    grind (arith, nat_tests)
some_behind (x ∷ xs) k (suc j) e = some_behind xs k j (omega arith)

pub greatest_more : (f : ℕ → ℤ) (xs : List ℕ) (j k : ℕ) (some : Bool) (best x new : ℤ) → j < length xs → k ≡ suc j
    → some ≡ has_some (drop k xs) → best ≡ greatest f (drop k xs) → x ≡ f (get_or xs j 0)
    → new ≡ cond some (int_max x best) x → new ≡ greatest f (drop j xs)
greatest_more f xs j k some best x new lt ek es eb ex is =
    is ∙ (λ i. cond ((es ∙ after) i) (int_max (ex i) ((eb ∙ after') i)) (ex i))
    ∙ sym (first (get_or xs j 0) (drop (suc j) xs)) ∙ ap (greatest f) (sym (drop-cons xs j 0 lt))
  where
    after : has_some (drop k xs) ≡ has_some (drop (suc j) xs)
    after = ap (λ (z : ℕ). has_some (drop z xs)) ek

    after' : greatest f (drop k xs) ≡ greatest f (drop (suc j) xs)
    after' = ap (λ (z : ℕ). greatest f (drop z xs)) ek

    first : (a : ℕ) (ys : List ℕ) → greatest f (a ∷ ys) ≡ cond (has_some ys) (int_max (f a) (greatest f ys)) (f a)
    first a [] = refl
    first a (y ∷ ys) = refl
