-- The walk over the joint classes that hold a class whose choice changes, and the bound after it.
use Rattle.std.proofs.Common.{◌≡◌, ℕ, suc, ◌+◌, ◌-◌, ◌*◌, ◌/◌, ◌%◌, ◌^◌, ◌<◌, ◌≤◌, ℤ, pos, ◌+ℤ◌, ◌-ℤ◌, unsigned_abs}
use Rattle.std.proofs.Common.{List}
use Rattle.std.proofs.Common.{[], ◌++◌, length, get_or, set, drop, take, Option, None, refl, add-one, sym, ap, ◌∙◌}
use Rattle.std.proofs.Common.{subst, arith}
use Rattle.std.proofs.Math.Nat.{mul-le-mul, mul_comm, suc-mul}
use Rattle.std.proofs.lemmas.List.{take-append-le, take_all}
use Rattle.dp_base.specs.Sums.{int_sum, nat_sum}
use Rattle.dp_spec.specs.JointNumbers.{parts_of, product}
use Rattle.dp_spec.specs.Merge.{placed_number, without}
use Rattle.dp_spec.proofs.JointNumberLaws.{product-drop_above}
use Rattle.dp_laws.proofs.SizeSums.{abs_add}
use Rattle.dp_cluster.proofs.Pairs.{divided}
use Rattle.dp_game.specs.Games.{KeptGame, best_entry, game_bound, joint_classes, own_choice, own_counts}
use Rattle.dp_game.specs.Games.{with_own_choice}
use Rattle.dp_game.specs.Extended.{AreNumbersOf, IsKeptBy, choice_counts, choice_number, game_kept, greatest_table}
use Rattle.dp_game.specs.Extended.{whole_table}
use Rattle.dp_game.specs.Kept.{IsOfSomeFront, game_with}
use Rattle.dp_game.proofs.Bounds.{all_small, bound_size, classes_few, classes_some, same_agents}
use Rattle.dp_game.proofs.Changes.{IsChanging, best_elsewhere, changing_next, class_in, hi', number_before, number_in}
use Rattle.dp_game.proofs.Changes.{number_there, same_counts}
use Rattle.dp_game.proofs.ClassPlaces.{as_many_places, class_sum, less_is, moved_is, other_sum, other_sum_kept}
use Rattle.dp_game.proofs.ClassPlaces.{other_sum_small, part_small, part_there, place_in, place_is, sum_splits}
use Rattle.dp_game.proofs.OwnChoices.{counts_kept}
use Rattle.dp_game.proofs.Extended.{best_kept, best_place, class_number_below, counts_limit}

pub row_room : (J N w : ℕ) → J < N → J * w + w ≤ N * w
row_room J N w lt =
    let le : suc J * w ≤ N * w = mul-le-mul lt (omega arith) in
    let next : suc J * w ≡ J * w + w = suc-mul J w in omega arith

-- the game with other earnings
abbrev pub earning : KeptGame → ℤ → KeptGame
earning g e = record g { earned = e }

module _ (g : KeptGame) (i c : ℕ) (o : Option ℕ) (hi : i < length g.choices)
    (hc : c < length (get_or g.choices i [])) (before : (e : ℤ) × IsOfSomeFront (earning g e))
    (after : (e : ℤ) × IsOfSomeFront (with_own_choice (earning g e) i c o)) where
  abbrev ns : List ℕ
  ns = own_counts g.choices

  abbrev J : ℕ → ℕ
  J y = placed_number i (own_counts g.choices) c y

  pub some_classes : 0 < product (own_counts g.choices)
  some_classes = classes_some (earning g before.0) before.1

  pub few_classes : product (own_counts g.choices) ≤ 2 ^ 24
  few_classes = classes_few (earning g before.0) before.1

  sum_small : (k : ℕ) → k ≤ product (without i ns) → unsigned_abs (int_sum k (λ y. best_entry g (J y)))
      < 2 ^ 127
  sum_small k hk =
      let part = part_small i ns (hi' g i c o hi hc) (best_entry g) c k (class_in g i c o hi hc) hk in
      let all = all_small (earning g before.0) before.1 in omega arith

  sum_small_after : (k : ℕ) → k ≤ product (without i ns) → unsigned_abs
      (int_sum k (λ y. best_entry (with_own_choice g i c o) (J y))) < 2 ^ 127
  sum_small_after k hk =
      let part = part_small i ns (hi' g i c o hi hc) (best_entry (with_own_choice g i c o)) c k
      (class_in g i c o hi hc) hk in
      let all =
      subst (λ (l : List ℕ). unsigned_abs after.0 + nat_sum (product l)
      (λ C. unsigned_abs (best_entry (with_own_choice g i c o) C)) ≤ 2 ^ 126)
      (same_counts g i c o hi hc) (all_small (with_own_choice (earning g after.0) i c o) after.1) in omega arith

  module _ (count width : ℕ) (ec : count ≡ get_or (own_counts g.choices) i 0)
      (ew : width ≡ product (drop (i + 1) (own_counts g.choices))) where
    width_is : width ≡ product (drop (suc i) ns)
    width_is = ew ∙ ap (λ (z : ℕ). product (drop z ns)) (add-one i)

    pub some_width : 0 < width
    some_width = rw ew (product-drop_above ns (i + 1) some_classes)

    pub some_count : 0 < count
    some_count = let lt = class_in g i c o hi hc in omega arith

    pub places_are : (N : ℕ) → N ≡ product (own_counts g.choices) → N / count ≡ product
        (without i (own_counts g.choices))
    places_are N is =
        divided count (product (without i ns)) N some_count
        (is ∙ as_many_places i ns (hi' g i c o hi hc) ∙ ap (λ (z : ℕ). product (without i ns) * z) (sym ec) ∙
        mul_comm (product (without i ns)) count)

    module _ (x : ℕ) (hx : x < product (without i (own_counts g.choices))) where
      pub joint_is : (x / width * count + c) * width + x % width ≡ placed_number i (own_counts g.choices) c x
      joint_is =
          ap (λ (z : ℕ). (x / width * z + c) * width + x % width) ec
          ∙ place_is i ns (hi' g i c o hi hc) c x width width_is hx

      J_below : J x < product ns
      J_below = place_in i ns (hi' g i c o hi hc) c x (class_in g i c o hi hc) hx

      pub joint_room : (x / width * count + c) * width + x % width < 2 ^ 24
      joint_room = let is = joint_is in let lt = J_below in let few = few_classes in omega arith

      module _ (j : ℕ) (ej : j ≡ (x / width * count + c) * width + x % width) (best : List ℤ)
          (eb : best ≡ greatest_table g.actions g.table (joint_classes g)) (numbers : List ℕ)
          (u : IsChanging g i c o x numbers) (up down : ℕ)
          (eu : up ≡ choice_number o * product (drop (suc i) (choice_counts g.actions)))
          (ed : down ≡ choice_number (own_choice g i c) * product (drop (suc i) (choice_counts g.actions))) where
        at : j ≡ J x
        at = ej ∙ joint_is

        here_part : get_or (parts_of ns (J x)) i 0 ≡ c
        here_part = part_there i ns (hi' g i c o hi hc) c x (class_in g i c o hi hc) hx

        agents : length g.actions ≡ length g.choices
        agents = same_agents (earning g before.0) before.1

        abbrev W : ℕ
        W = product (drop (suc i) (choice_counts g.actions))

        pub in_numbers : j < length numbers
        in_numbers = let lt : j < product ns = rw at J_below in let one = u.one_each in omega arith

        pub as_many : length numbers ≤ 2 ^ 24
        as_many = rw u.one_each few_classes

        was : get_or numbers j 0 ≡ number_in g (J x)
        was = ap (λ (z : ℕ). get_or numbers z 0) at ∙ number_before g i c o hi hc x hx numbers u

        pub enough : down ≤ get_or numbers j 0
        enough =
            let none = number_there g i c None hi hc agents W refl (J x) here_part in
            rw (ed, was) (omega (arith, none))

        becomes : get_or numbers j 0 - down + up ≡ number_in (with_own_choice g i c o) (J x)
        becomes =
            let step = number_there g i c o hi hc agents W refl (J x) here_part in
            let some = enough in omega (arith, step, was, ed, eu)

        below : number_in (with_own_choice g i c o) (J x) < product (choice_counts g.actions)
        below = class_number_below (with_own_choice (earning g after.0) i c o) after.1 (J x)
            (rw (ap product (same_counts g i c o hi hc)) J_below)

        pub new_small : get_or numbers j 0 - down + up < 2 ^ 16
        new_small =
            let lt = below in let most = counts_limit (earning g before.0) before.1 in rw becomes (omega arith)

        old_place : (n k l : ℕ) → n ≡ number_in g (J x) → k ≡ joint_classes g → l ≡ J x
            → (n * k + l < length best) × (get_or best (n * k + l) (pos 0) ≡ best_entry g (J x))
        old_place n k l en ek el = (
          rw (en, ek, el) (best_place (earning g before.0) before.1 (J x) J_below best eb),
          (λ z. get_or best (en z * ek z + el z) (pos 0))
              ∙ best_kept (earning g before.0) before.1 (J x) J_below best eb,
        )

        new_place : (n k l : ℕ) → n ≡ number_in (with_own_choice g i c o) (J x) → k ≡ joint_classes g → l ≡ J x
            → (n * k + l < length best) × (get_or best (n * k + l) (pos 0) ≡ best_entry (with_own_choice g i c o) (J
            x))
        new_place n k l en ek el =
            let counts = ap product (same_counts g i c o hi hc) in
            let eb' = eb ∙ ap (greatest_table g.actions g.table) (sym counts) in
            let lt : J x < joint_classes (with_own_choice g i c o) = rw counts J_below in
            let ek' = ek ∙ sym counts in (
              rw (en, ek', el) (best_place (with_own_choice (earning g after.0) i c o) after.1 (J x) lt best eb'),
              (λ z. get_or best (en z * ek' z + el z) (pos 0))
                  ∙ best_kept (with_own_choice (earning g after.0) i c o) after.1 (J x) lt best eb',
            )

        pub gone_place : get_or numbers j 0 * length numbers + j < length best
        gone_place = (old_place _ _ _ was u.one_each at).0

        pub come_place : (get_or numbers j 0 - down + up) * length numbers + j < length best
        come_place = (new_place _ _ _ becomes u.one_each at).0

        module _ (gone come : ℤ) (eg : gone ≡ get_or best (get_or numbers j 0 * length numbers + j) (pos 0))
            (ec' : come ≡ get_or best ((get_or numbers j 0 - down + up) * length numbers + j) (pos 0)) where
          gone_is : gone ≡ best_entry g (J x)
          gone_is = eg ∙ (old_place _ _ _ was u.one_each at).1

          come_is : come ≡ best_entry (with_own_choice g i c o) (J x)
          come_is = ec' ∙ (new_place _ _ _ becomes u.one_each at).1

          pub gone_fits : (total : ℤ) → total ≡ int_sum x (λ y. best_entry g (J y))
              → unsigned_abs (total +ℤ gone) < 2 ^ 127
          gone_fits total et = rw (et, gone_is) (sum_small (suc x) (omega arith))

          pub gone_next : (total new : ℤ) → total ≡ int_sum x (λ y. best_entry g (J y)) → new ≡ total +ℤ gone
              → new ≡ int_sum (x + 1) (λ y. best_entry g (J y))
          gone_next total new et en =
              en ∙ (λ k. et k +ℤ gone_is k) ∙ ap (λ (n : ℕ). int_sum n (λ y. best_entry g (J y))) (sym (add-one x))

          pub come_fits : (total : ℤ) → total ≡ int_sum x (λ y. best_entry (with_own_choice g i c o) (J y))
              → unsigned_abs (total +ℤ come) < 2 ^ 127
          come_fits total et = rw (et, come_is) (sum_small_after (suc x) (omega arith))

          pub come_next : (total new : ℤ) → total ≡ int_sum x (λ y. best_entry (with_own_choice g i c o) (J y))
              → new ≡ total +ℤ come → new ≡ int_sum (x + 1) (λ y. best_entry (with_own_choice g i c o) (J y))
          come_next total new et en =
              en ∙ (λ k. et k +ℤ come_is k) ∙ ap (λ (n : ℕ). int_sum n
              (λ y. best_entry (with_own_choice g i c o) (J y))) (sym (add-one x))

        pub walk_next : (new : List ℕ) → new ≡ set numbers j (get_or numbers j 0 - down + up)
            → IsChanging g i c o (x + 1) new
        walk_next new en =
            subst (λ l. IsChanging g i c o (x + 1) l) (sym (en ∙ ap (λ (z : ℕ). set numbers z
            (get_or numbers j 0 - down + up)) at))
            (changing_next g i c o hi hc x hx numbers u _ becomes)

-- ---- the bound after it

module _ (g : KeptGame) (i c : ℕ) (o : Option ℕ) (hi : i < length g.choices)
    (hc : c < length (get_or g.choices i [])) (before : IsOfSomeFront g)
    (after : IsOfSomeFront (with_own_choice g i c o)) (sum gone come : ℤ) (is : sum ≡ game_bound g)
    (eg : gone ≡ int_sum (product (without i (own_counts g.choices)))
    (λ y. best_entry g (placed_number i (own_counts g.choices) c y)))
    (ec : come ≡ int_sum (product (without i (own_counts g.choices)))
    (λ y. best_entry (with_own_choice g i c o) (placed_number i (own_counts g.choices) c y))) where
  abbrev ms : List ℕ
  ms = own_counts g.choices

  split : sum ≡ g.earned +ℤ (other_sum i ms (hi' g i c o hi hc) (best_entry g) c +ℤ class_sum i ms
      (hi' g i c o hi hc) (best_entry g) c)
  split = is ∙ ap (λ x. g.earned +ℤ x) (sum_splits i ms (hi' g i c o hi hc) (best_entry g) c
      (class_in g i c o hi hc))

  pub less_fits : unsigned_abs (sum -ℤ gone) < 2 ^ 127
  less_fits =
      let small = other_sum_small i ms (hi' g i c o hi hc) (best_entry g) c in
      let both = abs_add g.earned (other_sum i ms (hi' g i c o hi hc) (best_entry g) c) in
      let all = all_small g before in
      rw (less_is g.earned (other_sum i ms (hi' g i c o hi hc) (best_entry g) c) _ sum gone split eg)
      (omega arith)

  kept : other_sum i ms (hi' g i c o hi hc) (best_entry g) c ≡ other_sum i ms (hi' g i c o hi hc)
      (best_entry (with_own_choice g i c o)) c
  kept =
      other_sum_kept i ms (hi' g i c o hi hc) (best_entry g) (best_entry (with_own_choice g i c o)) c
      (λ b y hb hy ne.
      sym (best_elsewhere g i c o hi hc (placed_number i ms b y)
      (λ e. ne (sym (part_there i ms (hi' g i c o hi hc) b y hb hy) ∙ e))))

  pub bound_after : (sum -ℤ gone) +ℤ come ≡ game_bound (with_own_choice g i c o)
  bound_after =
      let f' = best_entry (with_own_choice g i c o) in
      moved_is g.earned (other_sum i ms (hi' g i c o hi hc) (best_entry g) c) _ _ sum gone come split eg ec
      ∙ ap (λ x. g.earned +ℤ (x +ℤ class_sum i ms (hi' g i c o hi hc) f' c)) kept
      ∙ ap (λ x. g.earned +ℤ x) (sym (sum_splits i ms (hi' g i c o hi hc) f' c (class_in g i c o hi hc)))
      ∙ ap (λ (l : List ℕ). g.earned +ℤ int_sum (product l) f') (sym (same_counts g i c o hi hc))

  pub after_fits : unsigned_abs ((sum -ℤ gone) +ℤ come) < 2 ^ 127
  after_fits =
      let all = all_small (with_own_choice g i c o) after in
      let most = bound_size (with_own_choice g i c o) after in rw bound_after (omega arith)

-- ---- what is kept, as the code hands it over

-- a list that was written through a slice of it
pub written : {X : Type 0} (n : ℕ) (new old : List X) → n ≡ length new
    → take n (new ++ drop (length new) old) ≡ new
written n new old e =
    ap (λ (k : ℕ). take k (new ++ drop (length new) old)) e ∙ take-append-le (length new) new
    (drop (length new) old) (omega arith) ∙ take_all (length new) new (omega arith)

-- the game of the parts after a choice
pub game_after : (bs : List ℕ) (oss oss' : List (List (Option ℕ))) (best : List ℤ) (earned : ℤ) (i c : ℕ)
    (o : Option ℕ) → oss' ≡ set oss i (set (get_or oss i []) c o)
    → with_own_choice (game_kept bs oss best earned) i c o ≡ game_kept bs oss' best earned
game_after bs oss oss' best earned i c o is =
    ap (λ (n : ℕ). game_with bs (set oss i (set (get_or oss i []) c o)) (whole_table bs n best) earned)
    (ap product (sym (counts_kept oss i c o)))
    ∙ ap (λ l. game_kept bs l best earned) (sym is)

pub kept_after : (bs bs' : List ℕ) (oss oss' oss'' : List (List (Option ℕ))) (best : List ℤ) (earned : ℤ) (i c : ℕ)
    (o : Option ℕ) (numbers numbers' : List ℕ) (bound : ℤ)
    → IsOfSomeFront (with_own_choice (game_kept bs oss best earned) i c o)
    → best ≡ greatest_table bs (whole_table bs (product (own_counts oss)) best) (product (own_counts oss))
    → bs' ≡ bs → oss'' ≡ oss → oss' ≡ set oss i (set (get_or oss i []) c o)
    → AreNumbersOf bs' (set oss'' i (set (get_or oss'' i []) c o)) numbers → numbers' ≡ numbers
    → bound ≡ game_bound (with_own_choice (game_kept bs oss best earned) i c o)
    → IsKeptBy (game_kept bs oss' best earned) best numbers' bound
kept_after bs bs' oss oss' oss'' best earned i c o numbers numbers' bound after eb ea eo eo' are en is =
    let counts = ap product (counts_kept oss i c o) in
    let here : IsKeptBy (with_own_choice (game_kept bs oss best earned) i c o) best numbers bound = record {
      of_front = after;
      entries = eb ∙ ap (greatest_table bs (whole_table bs (product (own_counts oss)) best)) (sym counts);
      classes = subst (λ (l : List (List (Option ℕ))). AreNumbersOf bs
          (set l i (set (get_or l i []) c o)) numbers) eo
          (subst (λ (l : List ℕ). AreNumbersOf l (set oss'' i (set (get_or oss'' i []) c o)) numbers) ea are);
      is_bound = is;
    } in
    subst (λ l. IsKeptBy l best numbers' bound) (game_after bs oss oss' best earned i c o eo')
    (subst (λ l. IsKeptBy (with_own_choice (game_kept bs oss best earned) i c o) best l bound) (sym en) here)
