-- A joint class taken apart, agent by agent.
use Rattle.std.proofs.Common.{◌≡◌, ℕ, zero, suc, ◌+◌, ◌*◌, ◌/◌, ◌%◌, ◌^◌, ◌<◌, ◌≤◌, List, [], ◌∷◌, length, get_or}
use Rattle.std.proofs.Common.{drop, Option, None, add-one, refl, sym, ap, ◌∙◌, subst, arith}
use Rattle.std.proofs.Math.Seq.{drop-cons}
use Rattle.std.proofs.Math.Nat.{mul_assoc}
use Rattle.std.proofs.lemmas.List.{get_or-map, length-map}
use Rattle.std.proofs.lemmas.Nat.{mod_below}
use Rattle.dp_spec.specs.JointNumbers.{parts_of, product}
use Rattle.dp_spec.proofs.JointNumberLaws.{part_below, positive_left, positive_right, product-drop}
use Rattle.dp_spec.proofs.JointNumberLaws.{product-drop_above, product-drop_le}
use Rattle.dp_cluster.proofs.Pairs.{divided, most}
use Rattle.dp_game.specs.Games.{choices_for, own_counts}

-- after j agents: how many joint classes the other agents have, and what is left of the joint class
pub record IsTakenApart (oss : List (List (Option ℕ))) (j left rest : ℕ) : Type 0 where
  pub counted : left ≡ product (own_counts (drop j oss))
  pub below : rest < left
  pub few : left ≤ 2 ^ 24

pub apart_start : (oss : List (List (Option ℕ))) (count C : ℕ) → count ≡ product (own_counts oss)
    → count ≤ 2 ^ 24 →
    C < count
    → IsTakenApart oss 0 count C
apart_start oss count C is few lt = record { counted = is; below = lt; few = few }

module _ (oss : List (List (Option ℕ))) (j left rest : ℕ) (lt : j < length oss) (own : List (Option ℕ)) (n : ℕ)
    (is : get_or oss j own ≡ own) (count : n ≡ length own) (u : IsTakenApart oss j left rest) where
  abbrev P : ℕ
  P = product (own_counts (drop (suc j) oss))

  here : drop j oss ≡ own ∷ drop (suc j) oss
  here = drop-cons oss j own lt ∙ ap (λ (z : List (Option ℕ)). z ∷ drop (suc j) oss) is

  split : left ≡ n * P
  split = u.counted ∙ ap (λ l. product (own_counts l)) here ∙ ap (λ (z : ℕ). z * P) (sym count)

  pub some_own : 0 < n
  some_own = let below = u.below in let e = split in let all : 0 < n * P = omega arith in
      positive_left n P 0 all

  some_left : 0 < P
  some_left = let below = u.below in let e = split in let all : 0 < n * P = omega arith in
      positive_right n P 0 all

  after : left / n ≡ P
  after = divided n P left some_own split

  pub some_after : 0 < left / n
  some_after = rw after some_left

  pub class_in : rest / (left / n) < n
  class_in = let below = u.below in let e = split in rw after (part_below n P rest (omega arith))

  pub class_small : rest / (left / n) < 2 ^ 24
  class_small =
      let lt = class_in in let few = u.few in let e = split in
      let le : n ≤ 2 ^ 24 = most n P (2 ^ 24) some_left (omega arith) in omega arith

  pub apart_next : IsTakenApart oss (j + 1) (left / n) (rest % (left / n))
  apart_next =
      subst (λ (Q : ℕ). IsTakenApart oss (j + 1) Q (rest % Q)) (sym after)
      (subst (λ (z : ℕ). IsTakenApart oss z P (rest % P)) (sym (add-one j))
      (record {
        counted = refl;
        below = mod_below rest P some_left;
        few = let e = split in let few = u.few in most P n (2 ^ 24) some_own (omega arith);
      }))

  pub parts_next : parts_of (own_counts (drop j oss)) rest
      ≡ rest / (left / n) ∷ parts_of (own_counts (drop (suc j) oss)) (rest % (left / n))
  parts_next =
      ap (λ l. parts_of (own_counts l) rest) here
      ∙ ap (λ (Q : ℕ). rest / Q ∷ parts_of (own_counts (drop (suc j) oss)) (rest % Q)) (sym after)

  pub choices_next : choices_for (drop j oss) (parts_of (own_counts (drop j oss)) rest)
      ≡ get_or own (rest / (left / n)) None
      ∷ choices_for (drop (suc j) oss) (parts_of (own_counts (drop (suc j) oss)) (rest % (left / n)))
  choices_next = (λ i. choices_for (here i) (parts_next i))

-- ---- at the last agent

no_more : {X : Type 0} (xs : List X) (j : ℕ) → length xs ≤ j → drop j xs ≡ []
no_more [] zero le = refl
no_more [] (suc j) le = refl
no_more (x ∷ xs) zero le = absurd (omega arith)
no_more (x ∷ xs) (suc j) le = no_more xs j (omega arith)

pub no_choices : (oss : List (List (Option ℕ))) (j : ℕ) (cs : List ℕ) → length oss ≤ j
    → choices_for (drop j oss) cs
    ≡ []
no_choices oss j cs le = ap (λ l. choices_for l cs) (no_more oss j le)

-- ---- the numbers of classes, multiplied agent by agent

pub as_many_counts : (oss : List (List (Option ℕ))) → length (own_counts oss) ≡ length oss
as_many_counts oss = length-map oss (λ (os : List (Option ℕ)). length os)

pub count_at : (oss : List (List (Option ℕ))) (j : ℕ) (os : List (Option ℕ)) → j < length oss
    → os ≡ get_or oss j os
    → length os ≡ get_or (own_counts oss) j 0
count_at oss j os lt is =
    ap (λ (l : List (Option ℕ)). length l) is ∙ sym (get_or-map (λ (l : List (Option ℕ)). length l)
    oss j os 0 lt)

module _ (ns : List ℕ) (first j width n : ℕ) (lt : j < length ns) (is : n ≡ get_or ns j 0)
    (some : 0 < product ns)
    (few : product ns ≤ 2 ^ 24) (so_far : width * product (drop j ns) ≡ product (drop first ns)) where
  pub width_next : width * n * product (drop (j + 1) ns) ≡ product (drop first ns)
  width_next =
      ap (λ (z : ℕ). width * n * product (drop z ns)) (add-one j)
      ∙ mul_assoc width n (product (drop (suc j) ns))
      ∙ ap (λ (z : ℕ). width * (z * product (drop (suc j) ns))) is ∙ ap (λ (z : ℕ). width * z)
      (sym (product-drop ns j lt)) ∙ so_far

  pub width_fits : width * n ≤ 2 ^ 24
  width_fits =
      let all = product-drop_le ns first some in
      let rest = product-drop_above ns (j + 1) some in
      let whole = width_next in
      most (width * n) (product (drop (j + 1) ns)) (2 ^ 24) rest (omega arith)

pub width_end : (ns : List ℕ) (first j width : ℕ) → length ns ≤ j → width * product (drop j ns) ≡ product
    (drop first ns)
    → width ≡ product (drop first ns)
width_end ns first j width le so_far =
    sym (one width) ∙ ap (λ l. width * product l) (sym (no_more ns j le)) ∙ so_far
  where
    one : (w : ℕ) → w * 1 ≡ w
    one w = omega arith
