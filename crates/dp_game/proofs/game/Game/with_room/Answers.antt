use Rattle.std.proofs.Common.{◌≡◌, ◌<◌, ◌≤◌, ◌^◌, ◌+◌, ◌*◌, ◌+ℤ◌, ℕ, ℤ, pos, List, [], Option, None, Some, length}
use Rattle.std.proofs.Common.{get_or}
use Rattle.std.proofs.Common.{ap, sym, subst, ◌∙◌, rules, arith, unsigned_abs, to_z, of_z}
use Rattle.std.specs.Int.{w128}
use Rattle.std.proofs.lemmas.Int.{to_z-of_z}
use mir.Val.{SFits}
use Rattle.dp_base.specs.Sums.{int_sum}
use Rattle.dp_spec.specs.JointNumbers.{product}
use Rattle.dp_cluster.proofs.AdvancedParts.{some_class}
use Rattle.dp_cluster.proofs.ChosenActions.{agents_of}
use Rattle.dp_game.specs.Extended.{AreNumbersOf, IsKeptBy, game_kept, greatest_table}
use Rattle.dp_game.specs.Games.{BoundsKeepers, IsGameOf, game_bound, own_counts}
use Rattle.dp_game.proofs.Bounds.{bounds_keepers}
use Rattle.dp_game.proofs.Callers.{front_choice_below}
use Rattle.dp_game.proofs.Made.{cells, choices_small, few_front, kept_bound, kept_game, places, same_length, sums_fit}
use Rattle.dp_game.proofs.Made.{table_rows}
use Rattle.dp_game.proofs.OwnChoices.{counts_of}
use Rattle.dp_game.proofs.game.Game.with_room.Goals as goal

pub choices_of-requires-clause-agents : goal.choices_of-requires-clause-agents
choices_of-requires-clause-agents c = c.agents.ensures.is ∙ sym (agents_of c.requires.of_model.front.agents)

pub choices_of-requires-clause-small : goal.choices_of-requires-clause-small
choices_of-requires-clause-small c = choices_small c.args.model.now.model c.args.front.now c.requires.of_model

pub joint_count-count-requires-clause-some : goal.joint_count-count-requires-clause-some
joint_count-count-requires-clause-some c =
    let counts = ap (λ oss. product (own_counts oss)) (c.deref.ensures.value ∙ c.in_ok-choices.ensures)
    ∙ ap product
    (counts_of c.args.front.now.front.agents) in
    rw counts (some_class c.args.model.now.model c.args.front.now.horizon c.args.front.now.front
    c.requires.of_model.model c.requires.of_model.front)

pub joint_count-count-requires-clause-few : goal.joint_count-count-requires-clause-few
joint_count-count-requires-clause-few c =
    let counts = ap (λ oss. product (own_counts oss)) (c.deref.ensures.value ∙ c.in_ok-choices.ensures)
    ∙ ap product
    (counts_of c.args.front.now.front.agents) in
    rw counts (few_front c.args.model.now.model c.args.front.now c.args.bounder.now c.requires.of_model
    c.requires.bounder c.requires.horizon c.requires.stage c.requires.room)

pub look_ahead_table-requires-clause-cells : goal.look_ahead_table-requires-clause-cells
look_ahead_table-requires-clause-cells c = cells c.args.model.now.model c.args.front.now c.args.bounder.now
    c.requires.of_model c.requires.bounder c.requires.horizon c.requires.stage c.requires.room

pub look_ahead_table-requires-clause-count : goal.look_ahead_table-requires-clause-count
look_ahead_table-requires-clause-count c =
    c.joint_count-count.ensures ∙ ap (λ oss. product (own_counts oss))
    (c.deref.ensures.value ∙ c.in_ok-choices.ensures) ∙ ap product (counts_of c.args.front.now.front.agents)

few_of : (n m : ℕ) → n ≡ m → m ≤ 2 ^ 24 → n ≤ 2 ^ 24
few_of n m e le = omega arith

pub greatest_table-requires-clause-few : goal.greatest_table-requires-clause-few
greatest_table-requires-clause-few c =
    few_of _ _ (c.joint_count-count.ensures ∙ ap (λ oss. product (own_counts oss))
    (c.deref.ensures.value ∙ c.in_ok-choices.ensures) ∙ ap product (counts_of c.args.front.now.front.agents))
    (few_front c.args.model.now.model c.args.front.now c.args.bounder.now c.requires.of_model c.requires.bounder
    c.requires.horizon c.requires.stage c.requires.room)

pub greatest_table-requires-clause-table : goal.greatest_table-requires-clause-table
greatest_table-requires-clause-table c =
    ap (λ (l : List ℤ). length l) c.deref-2.ensures.value
    ∙ table_rows _ c.args.model.now.model _ _ c.joint_count-count.result _ c.in_ok-actions.actions
    c.in_ok-table.table.items c.in_ok-actions.ensures c.in_ok-table.ensures.rows

pub class_numbers-requires-clause-agents : goal.class_numbers-requires-clause-agents
class_numbers-requires-clause-agents c =
    same_length c.args.model.now.model c.args.front.now c.requires.of_model c.in_ok-actions.actions _
    c.in_ok-actions.ensures (c.deref-3.ensures.value ∙ c.in_ok-choices.ensures)

pub class_numbers-requires-clause-below : goal.class_numbers-requires-clause-below
class_numbers-requires-clause-below c = λ i k a lt e.
    let m = c.args.model.now.model in
    let front = c.args.front.now in
    let are = c.deref-3.ensures.value ∙ c.in_ok-choices.ensures in
    subst (λ (l : List ℕ). a < get_or l i 0) (sym c.in_ok-actions.ensures)
    (front_choice_below m front.horizon front.front c.requires.of_model.front i k a
    (subst (λ (l : List (List (Option ℕ))). i < length l) are lt)
    (subst (λ (l : List (List (Option ℕ))). get_or (get_or l i []) k None ≡ Some a) are e))

pub bound_of-bound-requires-clause-places : goal.bound_of-bound-requires-clause-places
bound_of-bound-requires-clause-places c = λ C lt.
    let numbers = c.deref-5.ensures.value in
    let best = c.deref-4.ensures.value in
    let inside : C < length c.in_ok-numbers.numbers.items = subst (λ (l : List ℕ). C < length l) numbers lt in
    rw (numbers, best) (places c.args.model.now.model c.args.front.now c.args.bounder.now c.requires.of_model
    c.requires.bounder
    c.requires.horizon c.requires.stage c.requires.room c.args.bounder.now.look
    c.in_ok-actions.actions c.in_ok-choices.choices.items c.joint_count-count.result c.in_ok-table.table.items
    c.earned-earned.result c.in_ok-actions.ensures c.in_ok-choices.ensures
    (c.joint_count-count.ensures ∙ ap (λ oss. product (own_counts oss)) c.deref.ensures.value)
    c.in_ok-table.ensures.rows (c.earned-earned.ensures.is c.args.model.now.model c.requires.of_model)
    c.in_ok-best.best.items c.in_ok-numbers.numbers.items
    (c.in_ok-best.ensures ∙ ap (λ l. greatest_table c.in_ok-actions.actions l c.joint_count-count.result)
    c.deref-2.ensures.value)
    (subst (λ l. AreNumbersOf c.in_ok-actions.actions l c.in_ok-numbers.numbers.items) c.deref-3.ensures.value
    c.in_ok-numbers.ensures) C inside)

pub bound_of-bound-requires-clause-fits : goal.bound_of-bound-requires-clause-fits
bound_of-bound-requires-clause-fits c = λ n le.
    let fits-earned : SFits w128 c.earned-earned.result.high = search rules in
    let numbers = c.deref-5.ensures.value in
    let best = c.deref-4.ensures.value in
    let within : n ≤ length c.in_ok-numbers.numbers.items = subst (λ (l : List ℕ). n ≤ length l) numbers le in
    subst (λ (x : ℤ). unsigned_abs x < 2 ^ 127) (λ j. sym (to_z-of_z w128 _ fits-earned) j +ℤ int_sum n
    (λ C. get_or (sym best j) (get_or (sym numbers j) C 0 * length (sym numbers j) + C) (pos 0)))
    (sums_fit c.args.model.now.model c.args.front.now c.args.bounder.now c.requires.of_model c.requires.bounder
    c.requires.horizon c.requires.stage c.requires.room c.args.bounder.now.look
    c.in_ok-actions.actions c.in_ok-choices.choices.items c.joint_count-count.result c.in_ok-table.table.items
    c.earned-earned.result c.in_ok-actions.ensures c.in_ok-choices.ensures
    (c.joint_count-count.ensures ∙ ap (λ oss. product (own_counts oss)) c.deref.ensures.value)
    c.in_ok-table.ensures.rows (c.earned-earned.ensures.is c.args.model.now.model c.requires.of_model)
    c.in_ok-best.best.items c.in_ok-numbers.numbers.items
    (c.in_ok-best.ensures ∙ ap (λ l. greatest_table c.in_ok-actions.actions l c.joint_count-count.result)
    c.deref-2.ensures.value)
    (subst (λ l. AreNumbersOf c.in_ok-actions.actions l c.in_ok-numbers.numbers.items) c.deref-3.ensures.value
    c.in_ok-numbers.ensures) n within)

pub invariant_of-result : goal.invariant_of-result
invariant_of-result c =
    let fits-earned : SFits w128 c.earned-earned.result.high = search rules in
    let fits-bound : SFits w128 c.bound_of-bound.result = search rules in
    let numbers = c.deref-5.ensures.value in
    let best = c.deref-4.ensures.value in
    let bound = to_z-of_z w128 _ fits-bound ∙ c.bound_of-bound.ensures
    ∙ (λ j. to_z-of_z w128 _ fits-earned j +ℤ int_sum (length (numbers j))
    (λ C. get_or (best j) (get_or (numbers j) C 0 * length (numbers j) + C) (pos 0))) in
    let kept = kept_bound c.args.model.now.model c.args.front.now c.args.bounder.now c.requires.of_model
    c.requires.bounder
    c.requires.horizon c.requires.stage c.requires.room c.args.bounder.now.look
    c.in_ok-actions.actions c.in_ok-choices.choices.items c.joint_count-count.result c.in_ok-table.table.items
    c.earned-earned.result c.in_ok-actions.ensures c.in_ok-choices.ensures
    (c.joint_count-count.ensures ∙ ap (λ oss. product (own_counts oss)) c.deref.ensures.value)
    c.in_ok-table.ensures.rows (c.earned-earned.ensures.is c.args.model.now.model c.requires.of_model)
    c.in_ok-best.best.items c.in_ok-numbers.numbers.items
    (c.in_ok-best.ensures ∙ ap (λ l. greatest_table c.in_ok-actions.actions l c.joint_count-count.result)
    c.deref-2.ensures.value)
    (subst (λ l. AreNumbersOf c.in_ok-actions.actions l c.in_ok-numbers.numbers.items) c.deref-3.ensures.value
    c.in_ok-numbers.ensures) _ bound in
    subst (λ (x : ℤ). IsKeptBy (game_kept c.in_ok-new.field-0.value c.in_ok-choices.choices.items
    c.in_ok-new-2.field-0.value.items x) c.in_ok-new-2.field-0.value.items c.in_ok-numbers.numbers.items
    (to_z w128 (of_z w128 c.bound_of-bound.result))) (sym (to_z-of_z w128 _ fits-earned))
    (subst (λ l. IsKeptBy (game_kept c.in_ok-new.field-0.value c.in_ok-choices.choices.items l
    c.earned-earned.result.high) l c.in_ok-numbers.numbers.items (to_z w128 (of_z w128 c.bound_of-bound.result)))
    (sym (ap (λ t. t.items) c.in_ok-new-2.ensures.ok))
    (subst (λ l. IsKeptBy (game_kept l c.in_ok-choices.choices.items c.in_ok-best.best.items
    c.earned-earned.result.high) c.in_ok-best.best.items c.in_ok-numbers.numbers.items
    (to_z w128 (of_z w128 c.bound_of-bound.result))) (sym c.in_ok-new.ensures.ok) kept))

pub returns-clause-is : goal.returns-clause-is
returns-clause-is c =
    let fits-earned : SFits w128 c.earned-earned.result.high = search rules in
    let same : game_kept c.in_ok-actions.actions c.in_ok-choices.choices.items c.in_ok-best.best.items
    c.earned-earned.result.high ≡ game_kept c.in_ok-new.field-0.value c.in_ok-choices.choices.items
    c.in_ok-new-2.field-0.value.items (to_z w128 (of_z w128 c.earned-earned.result.high)) =
    (λ j. game_kept (sym c.in_ok-new.ensures.ok j) c.in_ok-choices.choices.items
    (ap (λ t. t.items) (sym c.in_ok-new-2.ensures.ok) j) (sym (to_z-of_z w128 _ fits-earned) j)) in
    subst (IsGameOf c.args.model.now.model c.args.front.now.horizon c.args.bounder.now.look c.args.front.now.front)
    same
    (kept_game c.args.model.now.model c.args.front.now c.args.bounder.now c.requires.of_model c.requires.bounder
    c.requires.horizon c.requires.stage c.requires.room c.args.bounder.now.look
    c.in_ok-actions.actions c.in_ok-choices.choices.items c.joint_count-count.result c.in_ok-table.table.items
    c.earned-earned.result c.in_ok-actions.ensures c.in_ok-choices.ensures
    (c.joint_count-count.ensures ∙ ap (λ oss. product (own_counts oss)) c.deref.ensures.value)
    c.in_ok-table.ensures.rows (c.earned-earned.ensures.is c.args.model.now.model c.requires.of_model)
    c.in_ok-best.best.items c.in_ok-numbers.numbers.items
    (c.in_ok-best.ensures ∙ ap (λ l. greatest_table c.in_ok-actions.actions l c.joint_count-count.result)
    c.deref-2.ensures.value)
    (subst (λ l. AreNumbersOf c.in_ok-actions.actions l c.in_ok-numbers.numbers.items) c.deref-3.ensures.value
    c.in_ok-numbers.ensures))

pub returns-clause-sound : goal.returns-clause-sound
returns-clause-sound c =
    let fits-earned : SFits w128 c.earned-earned.result.high = search rules in
    let same : game_kept c.in_ok-actions.actions c.in_ok-choices.choices.items c.in_ok-best.best.items
    c.earned-earned.result.high ≡ game_kept c.in_ok-new.field-0.value c.in_ok-choices.choices.items
    c.in_ok-new-2.field-0.value.items (to_z w128 (of_z w128 c.earned-earned.result.high)) =
    (λ j. game_kept (sym c.in_ok-new.ensures.ok j) c.in_ok-choices.choices.items
    (ap (λ t. t.items) (sym c.in_ok-new-2.ensures.ok) j) (sym (to_z-of_z w128 _ fits-earned) j)) in
    subst (λ g. BoundsKeepers c.args.model.now.model c.args.front.now.horizon c.args.front.now.front (game_bound g))
    same
    (bounds_keepers c.args.model.now.model c.args.front.now.horizon c.args.bounder.now.look
    c.args.front.now.front _ (kept_game c.args.model.now.model c.args.front.now c.args.bounder.now c.requires.of_model
    c.requires.bounder
    c.requires.horizon c.requires.stage c.requires.room c.args.bounder.now.look
    c.in_ok-actions.actions c.in_ok-choices.choices.items c.joint_count-count.result c.in_ok-table.table.items
    c.earned-earned.result c.in_ok-actions.ensures c.in_ok-choices.ensures
    (c.joint_count-count.ensures ∙ ap (λ oss. product (own_counts oss)) c.deref.ensures.value)
    c.in_ok-table.ensures.rows (c.earned-earned.ensures.is c.args.model.now.model c.requires.of_model)
    c.in_ok-best.best.items c.in_ok-numbers.numbers.items
    (c.in_ok-best.ensures ∙ ap (λ l. greatest_table c.in_ok-actions.actions l c.joint_count-count.result)
    c.deref-2.ensures.value)
    (subst (λ l. AreNumbersOf c.in_ok-actions.actions l c.in_ok-numbers.numbers.items) c.deref-3.ensures.value
    c.in_ok-numbers.ensures)))
