-- The game that is made of a front.
use Rattle.std.proofs.Common.{◌≡◌, ℕ, zero, suc, ◌+◌, ◌-◌, ◌*◌, ◌^◌, ◌<◌, ◌≤◌, true, false, eqb, ℤ, pos, ◌+ℤ◌}
use Rattle.std.proofs.Common.{unsigned_abs, List, map, length, get_or, drop, take, Option, None, Some, inl, inr, sym}
use Rattle.std.proofs.Common.{ap, ◌∙◌, subst, arith}
use Rattle.std.specs.Prelude.{nat_le, ◌||◌}
use Rattle.std.specs.List.{range_with_len}
use Rattle.std.proofs.lemmas.Bool.{and_parts, cases_lt}
use Rattle.std.proofs.lemmas.Bool.Decides.{nat_tests}
use Rattle.std.proofs.lemmas.List.{get_or_past}
use Rattle.std.proofs.lemmas.List.FromFn.{length-map-range_with_len}
use Rattle.dp_spec.specs.declared.span.Span.{Span}
use Rattle.dp_base.specs.Sums.{greatest as greatest_value, int_sum, numbers_below}
use Rattle.dp_base.proofs.GreatestValues.{greatest_ext}
use Rattle.dp_base.proofs.Members.{below-IsIn, filter-IsIn}
use Rattle.dp_base.proofs.Sums.{int_sum_ext}
use Rattle.dp_spec.specs.Arithmetic.{Arithmetic, arithmetic}
use Rattle.dp_spec.specs.Front.{AgentFront, Front, class_counts, fixed_joint_action}
use Rattle.dp_spec.specs.JointNumbers.{parts_of, product}
use Rattle.dp_spec.specs.Mode.{is_exact_mode}
use Rattle.dp_spec.specs.Model.{Model, joint_actions, joint_observations}
use Rattle.dp_spec.specs.Quantities.{action_look_ahead_in, class_weight_in, earned_reward_in}
use Rattle.dp_spec.specs.WellFormed.{AreAgentFronts}
use Rattle.dp_spec.specs.WellFormed.AreAgentFronts.{and_agent, no_agents}
use Rattle.dp_spec.specs.Wide.{has_room, is_room}
use Rattle.dp_spec.proofs.JointNumberLaws.{length-parts_of, positive_left, positive_right}
use Rattle.dp_laws.proofs.FrontRoom.{apart_within_cells}
use Rattle.dp_laws.proofs.SizeSums.{abs_add, int_sum_part}
use Rattle.dp_cluster.specs.KeptFronts.{IsFrontOf, KeptFront, choice_at}
use Rattle.dp_cluster.proofs.ChosenActions.{agents_of}
use Rattle.dp_cluster.proofs.FrontParts.{count_most}
use Rattle.dp_cluster.proofs.OwnParts.{made_at, same_map}
use Rattle.dp_game.specs.Bounders.{IsBounderOf, KeptBounder}
use Rattle.dp_game.specs.Games.{IsGameOf, KeptGame, allowed_actions, best_entry, choices_in, game_bound}
use Rattle.dp_game.specs.Games.{each_agrees, joint_classes, own_counts}
use Rattle.dp_game.specs.Extended.{AreNumbersOf, IsKeptBy, extended_number, game_kept, greatest_table, whole_table}
use Rattle.dp_game.specs.Kept.{IsOfSomeFront, game_with, greatest_in, greatest_look_in, look_ahead_row, rows_of}
use Rattle.dp_game.proofs.Bounds.{agents_are, all_small, few_classes, some_classes}
use Rattle.dp_game.proofs.Changes.{row_is}
use Rattle.dp_game.proofs.Extended.{best_kept, best_place, whole_is}
use Rattle.dp_game.proofs.LookAheadRows.{same_mode}
use Rattle.dp_game.proofs.OwnChoices.{as_many_choices, as_many_own, choices_of, counts_of, length-choices_for}
use Rattle.dp_game.proofs.Rows.{rows_at, rows_length}
use Rattle.dp_game.proofs.Walks.{row_room}

-- ---- what room allows

from_test : (a b : ℕ) → nat_le a b ≡ true → a ≤ b
from_test a b e = grind (arith, nat_tests)

room_actions : (m : Model) (n : ℕ) → is_room m n ≡ true → joint_actions m * n ≤ 2 ^ 24
unfolding is_room
room_actions m n e = from_test (joint_actions m * n) (2 ^ 24)
    (and_parts (nat_le (m.states * n) (2 ^ 22)) (nat_le (joint_actions m * n) (2 ^ 24)) e).1

other_stage : (f h : ℕ) → f < h → eqb f h ≡ false
other_stage f h lt = grind (arith, nat_tests)

room_entries : (m : Model) (h : ℕ) (F : Front) → F.stage < h → has_room m h F ≡ true → product
    (class_counts F.agents) * joint_actions m ≤ 2 ^ 24
unfolding has_room
room_entries m h F lt e =
    let room = ap (λ b. b || is_room m (product (class_counts F.agents))) (sym (other_stage F.stage h lt))
    ∙ e in
    let le = room_actions m (product (class_counts F.agents)) room in omega arith

-- ---- actions that are chosen fit in a byte

has_place : (os : List (Option ℕ)) (c a : ℕ) → get_or os c None ≡ Some a → c < length os
has_place os c a e =
    elim (cases_lt c (length os)) [
      | inl lt ↦ lt
      | inr le ↦ absurd (let no : None ≡ Some a = sym (get_or_past os c None le) ∙ e in cc)
    ]

choice_small : {f : ℕ} {bs ns : List ℕ} {ds : List AgentFront} → AreAgentFronts f bs ns ds → 0 < product bs →
    product bs ≤ 256
    → (i c a : ℕ) → choice_at ds i c ≡ Some a → a < 256
choice_small no_agents some few i c a e = absurd (let no : None ≡ Some a = e in cc)
choice_small (and_agent {b = b} {bs = bs} {d = d} k ks) some few zero c a e =
    let lt = k.chosen_below c a (has_place d.chosen c a e) e in
    let le = count_most b (product bs) 256 (positive_right b (product bs) 0 some) few in omega arith
choice_small (and_agent {b = b} {bs = bs} k ks) some few (suc i) c a e =
    let one = positive_left b (product bs) 0 some in
    let swapped : product bs * b ≤ 256 = omega arith in
    choice_small ks (positive_right b (product bs) 0 some) (count_most (product bs) b 256 one swapped) i c a e

pub choices_small : (m : Model) (k : KeptFront) → IsFrontOf m k → (i c a : ℕ)
    → choice_at k.front.agents i c ≡ Some
    a → a < 256
unfolding joint_actions
choices_small m k is i c a e = choice_small is.front.agents is.model.sizes.some_action
    is.model.sizes.joint_actions_limit i c a e

-- ---- how long the lists are

pub table_rows : (A : Arithmetic) (m : Model) (r look count : ℕ) (F : Front) (actions : List ℕ)
    (table : List ℤ) →
    actions ≡ m.actions
    → table ≡ rows_of (look_ahead_row A m r F look) count → length table ≡ count * product actions
unfolding joint_actions
table_rows A m r look count F actions table ea et =
    ap (λ (l : List ℤ). length l) et
    ∙ rows_length (look_ahead_row A m r F look) (product m.actions) count
    (λ C p. length-map-range_with_len _ 0 (product m.actions))
    ∙ ap (λ (l : List ℕ). count * product l) (sym ea)

pub same_length : (m : Model) (k : KeptFront) → IsFrontOf m k → (actions : List ℕ) (choices : List (List (Option ℕ)))
    → actions ≡ m.actions → choices ≡ choices_of k.front.agents → length actions ≡ length choices
same_length m k is actions choices ea eo =
    ap (λ (l : List ℕ). length l) ea ∙ sym (agents_of is.front.agents)
    ∙ sym (as_many_choices k.front.agents) ∙ ap (λ oss. length oss) (sym eo)

pub wanted_rows : (m : Model) (k : KeptFront) → IsFrontOf m k → (actions : List ℕ)
    (choices : List (List (Option ℕ))) (wanted : List (Option ℕ)) (count : ℕ)
    → actions ≡ m.actions → choices ≡ choices_of k.front.agents → wanted ≡ rows_of (choices_in choices) count
    → length wanted ≡ count * length actions
wanted_rows m k is actions choices wanted count ea eo ew =
    let many : length choices ≡ length actions = sym (same_length m k is actions choices ea eo) in
    ap (λ (l : List (Option ℕ)). length l) ew
    ∙ rows_length (choices_in choices) (length choices) count
    (λ C p. length-choices_for choices (parts_of (own_counts choices) C)
    (length-parts_of (own_counts choices) C ∙ as_many_own choices))
    ∙ ap (λ (n : ℕ). count * n) many

-- ---- the game

module _ (m : Model) (k : KeptFront) (b : KeptBounder) (is : IsFrontOf m k) (bo : IsBounderOf m b)
    (same : k.horizon ≡ b.horizon) (lt : k.front.stage < k.horizon)
    (room : has_room m k.horizon k.front ≡ true) where
  pub cells : k.is_exact ≡ false → m.states * joint_observations m ^ k.front.stage ≤ 2 ^ 22
  cells e = apart_within_cells m k.horizon k.front is.front lt (is.apart e) room

  pub few_front : product (class_counts k.front.agents) ≤ 2 ^ 24
  few_front = count_most _ (joint_actions m) (2 ^ 24) is.model.sizes.some_action
      (room_entries m k.horizon k.front lt room)

  module _ (look : ℕ) (actions : List ℕ) (choices : List (List (Option ℕ))) (count : ℕ) (table : List ℤ)
      (earned : Span) (ea : actions ≡ m.actions) (eo : choices ≡ choices_of k.front.agents)
      (ec : count ≡ product (own_counts choices)) (et : table ≡ rows_of
      (look_ahead_row (arithmetic b.is_exact m.scales) m (b.horizon - k.front.stage - 1) k.front look) count)
      (ee : earned ≡ earned_reward_in (arithmetic k.is_exact m.scales) m (fixed_joint_action m k.front)
      k.horizon
      k.front.stage) where
    abbrev pub g : KeptGame
    g = game_with actions choices table earned.high

    counts : product (own_counts choices) ≡ product (class_counts k.front.agents)
    counts = ap (λ oss. product (own_counts oss)) eo ∙ ap product (counts_of k.front.agents)

    pub many : count ≡ product (class_counts k.front.agents)
    many = ec ∙ counts

    modes : b.is_exact ≡ is_exact_mode m k.horizon
    modes = sym (same_mode m k b is bo same) ∙ is.mode

    row_long : (C : ℕ) → C < count → length (look_ahead_row (arithmetic b.is_exact m.scales) m
        (b.horizon - k.front.stage - 1) k.front look C) ≡ joint_actions m
    row_long C p = length-map-range_with_len _ 0 (joint_actions m)

    entry_is : (C a : ℕ) → C < count → a < joint_actions m → get_or table (C * joint_actions m + a) (pos 0)
        ≡ action_look_ahead_in (arithmetic b.is_exact m.scales) m (b.horizon - k.front.stage - 1)
        (class_weight_in (arithmetic b.is_exact m.scales) m k.front C) a look
    entry_is C a hC ha =
        ap (λ l. get_or l (C * joint_actions m + a) (pos 0)) et
        ∙ rows_at (look_ahead_row (arithmetic b.is_exact m.scales) m (b.horizon - k.front.stage - 1)
        k.front look)
        (joint_actions m) count C a (pos 0) row_long hC ha
        ∙ made_at (joint_actions m) a (pos 0) _ ha

    actions_are : product actions ≡ joint_actions m
    unfolding joint_actions
    actions_are = ap product ea

    -- the greatest look-aheads are the greatest entries of the table
    pub looks_are : (wanted : List (Option ℕ)) → map (greatest_look_in (arithmetic b.is_exact m.scales) m
        (b.horizon - k.front.stage - 1) k.front look actions wanted) (range_with_len 0 count)
        ≡ map (greatest_in actions table wanted) (range_with_len 0 count)
    looks_are wanted =
        same_map count (pos 0) _ _ (λ C hC.
        let os = take (length actions) (drop (C * length actions) wanted) in
        greatest_ext _ _ (allowed_actions actions os) (λ a i.
        let below = below-IsIn (product actions) a (filter-IsIn (λ a. each_agrees os (parts_of actions a)) a
        (numbers_below (product actions)) i).0 in
        sym (ap (λ (n : ℕ). get_or table (C * n + a) (pos 0)) actions_are
        ∙ entry_is C a hC (omega (arith, below, actions_are)))))

    pub game : IsGameOf m k.horizon look k.front g
    game = record {
      model = is.model;
      some_step = is.some_step;
      horizon = is.horizon;
      front = is.front;
      early = lt;
      game_cells = room_entries m k.horizon k.front lt room;
      stage_cells = λ e. cells (is.mode ∙ e);
      actions = ea;
      choices = eo;
      long =
          ap (λ (l : List ℤ). length l) et
          ∙ rows_length (look_ahead_row (arithmetic b.is_exact m.scales) m (b.horizon - k.front.stage - 1)
          k.front
          look) (joint_actions m) count row_long
          ∙ ap (λ (n : ℕ). n * joint_actions m) many;
      entries = λ C a hC ha.
          ap (λ (n : ℕ). get_or table (C * n + a) (pos 0)) actions_are ∙ entry_is C a (rw many hC) ha
          ∙ (λ j. action_look_ahead_in (arithmetic (modes j) m.scales) m (sym same j - k.front.stage - 1)
          (class_weight_in (arithmetic (modes j) m.scales) m k.front C) a look);
      earned = ap (λ (w : Span). w.high) ee ∙ ap (λ e.
          (earned_reward_in (arithmetic e m.scales) m (fixed_joint_action m k.front)
          k.horizon k.front.stage).high)
          is.mode;
    }

    pub some_front : IsOfSomeFront g
    some_front = (m, k.horizon, look, k.front, game)

    pub count_some : 0 < count
    count_some = rw ec (some_classes m k.horizon look k.front g game)

    pub count_few : count ≤ 2 ^ 24
    count_few = rw ec (few_classes m k.horizon look k.front g game)

    -- ---- what is kept besides

    module _ (wanted : List (Option ℕ)) (ew : wanted ≡ rows_of (choices_in choices) count) where
      in_row : (C : ℕ) → C < count → length (choices_in choices C) ≡ length choices
      in_row C p = length-choices_for choices (parts_of (own_counts choices) C)
          (length-parts_of (own_counts choices) C ∙ as_many_own choices)

      pub wanted_long : length wanted ≡ count * length choices
      wanted_long = ap (λ (l : List (Option ℕ)). length l) ew
          ∙ rows_length (choices_in choices) (length choices)
          count in_row

      wanted_at : (C j : ℕ) → C < count → j < length choices
          → get_or wanted (C * length choices + j) None ≡ get_or
          (choices_in choices C) j None
      wanted_at C j hC hj =
          ap (λ (l : List (Option ℕ)). get_or l (C * length choices + j) None) ew ∙ rows_at (choices_in choices)
          (length choices) count C j None in_row hC hj

      agents : length actions ≡ length choices
      agents = agents_are m k.horizon look k.front g game

      module _ (greatest : List ℤ) (bound : ℤ) (eg : greatest ≡ map (greatest_in actions table wanted)
          (range_with_len 0 count)) where
        best_at : (C : ℕ) → C < count → get_or greatest C (pos 0) ≡ best_entry g C
        best_at C hC =
            let room : C * length choices + length choices ≤ length wanted = let le = row_room C count
            (length choices) hC in let long = wanted_long in omega arith in
            let row = row_is choices wanted C room (λ j hj. wanted_at C j hC hj) in
            ap (λ l. get_or l C (pos 0)) eg ∙ made_at count C (pos 0) (greatest_in actions table wanted) hC
            ∙ ap (λ os. greatest_value (λ a. get_or table (C * product actions + a) (pos 0))
            (allowed_actions actions os)) ((λ j. take (agents j) (drop (C * agents j) wanted)) ∙ row)

        pub greatest_long : length greatest ≡ count
        greatest_long = ap (λ (l : List ℤ). length l) eg ∙ length-map-range_with_len
            (greatest_in actions table wanted) 0 count

        part_is : (n : ℕ) → n ≤ length greatest → int_sum n (λ C. get_or greatest C (pos 0)) ≡ int_sum n
            (best_entry g)
        part_is n le = int_sum_ext n _ _ (λ C p. best_at C (let long = greatest_long in omega arith))

        pub parts_fit : (n : ℕ) → n ≤ length greatest → unsigned_abs
            (earned.high +ℤ int_sum n (λ C. get_or greatest C (pos 0))) < 2 ^ 127
        parts_fit n le =
            let all = all_small g some_front in
            let within : n ≤ joint_classes g = let long = greatest_long in omega (arith, ec) in
            let part = int_sum_part n (joint_classes g) (best_entry g) within in
            let both = abs_add earned.high (int_sum n (best_entry g)) in
            rw (part_is n le) (omega arith)

        pub summed : bound ≡ earned.high +ℤ int_sum (length greatest) (λ C. get_or greatest C (pos 0))
            → bound ≡ game_bound g
        summed eb =
            eb ∙ ap (λ x. earned.high +ℤ x) (part_is (length greatest) (omega arith) ∙ ap
            (λ (n : ℕ). int_sum n (best_entry g)) (greatest_long ∙ ec))

    -- ---- what is kept of the game

    module _ (best : List ℤ) (numbers : List ℕ) (eb : best ≡ greatest_table actions table count)
        (en : AreNumbersOf actions choices numbers) where
      best_is : best ≡ greatest_table actions table (joint_classes g)
      best_is = eb ∙ ap (greatest_table actions table) ec

      whole : whole_table actions (product (own_counts choices)) best ≡ table
      whole =
          (λ j. whole_table actions (sym ec j) (eb j))
          ∙ whole_is actions (λ C a. action_look_ahead_in (arithmetic b.is_exact m.scales) m
          (b.horizon - k.front.stage - 1) (class_weight_in (arithmetic b.is_exact m.scales) m k.front C) a look)
          count table (et ∙ ap (λ (n : ℕ). rows_of (λ C. map (λ a. action_look_ahead_in
          (arithmetic b.is_exact m.scales) m (b.horizon - k.front.stage - 1)
          (class_weight_in (arithmetic b.is_exact m.scales) m k.front C) a look) (range_with_len 0 n)) count)
          (sym actions_are))

      place_of : (C n N : ℕ) → C < joint_classes g → n ≡ extended_number actions (choices_in choices C)
          → N ≡ joint_classes g → (n * N + C < length best) × (get_or best (n * N + C) (pos 0) ≡ best_entry g C)
      place_of C n N lt is many = (
        rw (is, many) (best_place g some_front C lt best best_is),
        (λ j. get_or best (is j * many j + C) (pos 0)) ∙ best_kept g some_front C lt best best_is,
      )

      number_place : (C : ℕ) → C < length numbers →
          (get_or numbers C 0 * length numbers + C < length best)
          × (get_or best (get_or numbers C 0 * length numbers + C) (pos 0) ≡ best_entry g C)
      number_place C lt =
          let lt' : C < joint_classes g = rw (sym en.one_each) lt in
          place_of C _ _ lt' (en.at C lt') en.one_each

      pub places : (C : ℕ) → C < length numbers → get_or numbers C 0 * length numbers + C < length best
      places C lt = (number_place C lt).0

      sum_is : (n : ℕ) → n ≤ length numbers →
          int_sum n (λ C. get_or best (get_or numbers C 0 * length numbers + C) (pos 0)) ≡ int_sum n (best_entry g)
      sum_is n le = int_sum_ext n _ _ (λ C p. (number_place C (omega arith)).1)

      pub sums_fit : (n : ℕ) → n ≤ length numbers → unsigned_abs (earned.high +ℤ int_sum n
          (λ C. get_or best (get_or numbers C 0 * length numbers + C) (pos 0))) < 2 ^ 127
      sums_fit n le =
          let all = all_small g some_front in
          let within : n ≤ joint_classes g = rw (sym en.one_each) le in
          let part = int_sum_part n (joint_classes g) (best_entry g) within in
          let both = abs_add earned.high (int_sum n (best_entry g)) in
          rw (sum_is n le) (omega arith)

      same_game : g ≡ game_kept actions choices best earned.high
      same_game = ap (λ t. game_with actions choices t earned.high) (sym whole)

      pub kept_game : IsGameOf m k.horizon look k.front (game_kept actions choices best earned.high)
      kept_game = subst (IsGameOf m k.horizon look k.front) same_game game

      pub kept_bound : (bound : ℤ) → bound ≡ earned.high +ℤ int_sum (length numbers)
          (λ C. get_or best (get_or numbers C 0 * length numbers + C) (pos 0))
          → IsKeptBy (game_kept actions choices best earned.high) best numbers bound
      kept_bound bound is =
          let here : IsKeptBy g best numbers bound = record {
            of_front = some_front;
            entries = best_is;
            classes = en;
            is_bound =
                is ∙ ap (λ x. earned.high +ℤ x) (sum_is (length numbers) (omega arith) ∙ ap
                (λ (n : ℕ). int_sum n (best_entry g)) en.one_each);
          } in
          subst (λ l. IsKeptBy l best numbers bound) same_game here
