use Rattle.std.proofs.Common.{◌≡◌, ◌<◌, ◌≤◌, ◌^◌, ◌-◌, ◌+ℤ◌, ℕ, ℤ, pos, List, Option, map, length, get_or, ap, sym}
use Rattle.std.proofs.Common.{subst, refl, ◌∙◌, rules, arith, unsigned_abs}
use Rattle.std.specs.Int.{w128}
use Rattle.std.specs.List.{range_with_len}
use Rattle.std.proofs.lemmas.Int.{to_z-of_z}
use mir.Val.{SFits}
use Rattle.dp_base.specs.Sums.{int_sum}
use Rattle.dp_spec.specs.Arithmetic.{arithmetic}
use Rattle.dp_spec.specs.JointNumbers.{product}
use Rattle.dp_cluster.proofs.AdvancedParts.{some_class}
use Rattle.dp_cluster.proofs.ChosenActions.{agents_of}
use Rattle.dp_game.specs.Games.{choices_in, own_counts}
use Rattle.dp_game.specs.Kept.{game_with, greatest_look_in, look_ahead_row, rows_of}
use Rattle.dp_game.proofs.Bounds.{bound_is}
use Rattle.dp_game.proofs.Made.{cells, choices_small, few_front, game, looks_are, parts_fit, summed, wanted_rows}
use Rattle.dp_game.proofs.OwnChoices.{counts_of}
use Rattle.dp_game.proofs.deeper.bound_of.Goals as goal

pub choices_of-requires-clause-agents : goal.choices_of-requires-clause-agents
choices_of-requires-clause-agents c = c.agents.ensures.is ∙ sym (agents_of c.requires.of_model.front.agents)

pub choices_of-requires-clause-small : goal.choices_of-requires-clause-small
choices_of-requires-clause-small c = choices_small c.args.model.now.model c.args.front.now c.requires.of_model

pub joint_count-count-requires-clause-some : goal.joint_count-count-requires-clause-some
joint_count-count-requires-clause-some c =
    let counts = ap (λ oss. product (own_counts oss)) (c.deref.ensures.value ∙ c.in_ok-choices.ensures)
    ∙ ap product
    (counts_of c.args.front.now.front.agents) in
    rw counts (some_class c.args.model.now.model c.args.front.now.horizon c.args.front.now.front
    c.requires.of_model.model c.requires.of_model.front)

pub joint_count-count-requires-clause-few : goal.joint_count-count-requires-clause-few
joint_count-count-requires-clause-few c =
    let counts = ap (λ oss. product (own_counts oss)) (c.deref.ensures.value ∙ c.in_ok-choices.ensures)
    ∙ ap product
    (counts_of c.args.front.now.front.agents) in
    rw counts (few_front c.args.model.now.model c.args.front.now c.args.bounder.now c.requires.of_model
    c.requires.bounder c.requires.horizon c.requires.stage c.requires.room)

pub greatest_looks-requires-clause-cells : goal.greatest_looks-requires-clause-cells
greatest_looks-requires-clause-cells c = cells c.args.model.now.model c.args.front.now c.args.bounder.now
    c.requires.of_model c.requires.bounder c.requires.horizon c.requires.stage c.requires.room

pub greatest_looks-requires-clause-count : goal.greatest_looks-requires-clause-count
greatest_looks-requires-clause-count c =
    c.joint_count-count.ensures ∙ ap (λ oss. product (own_counts oss))
    (c.deref.ensures.value ∙ c.in_ok-choices.ensures) ∙ ap product (counts_of c.args.front.now.front.agents)

few_of : (n m : ℕ) → n ≡ m → m ≤ 2 ^ 24 → n ≤ 2 ^ 24
few_of n m e le = omega arith

pub wanted_choices-requires-clause-few : goal.wanted_choices-requires-clause-few
wanted_choices-requires-clause-few c =
    few_of _ _ (c.joint_count-count.ensures ∙ ap (λ oss. product (own_counts oss))
    (c.deref.ensures.value ∙ c.in_ok-choices.ensures) ∙ ap product (counts_of c.args.front.now.front.agents))
    (few_front c.args.model.now.model c.args.front.now c.args.bounder.now c.requires.of_model c.requires.bounder
    c.requires.horizon c.requires.stage c.requires.room)

pub greatest_looks-requires-clause-few : goal.greatest_looks-requires-clause-few
greatest_looks-requires-clause-few c =
    few_of _ _ (c.joint_count-count.ensures ∙ ap (λ oss. product (own_counts oss))
    (c.deref.ensures.value ∙ c.in_ok-choices.ensures) ∙ ap product (counts_of c.args.front.now.front.agents))
    (few_front c.args.model.now.model c.args.front.now c.args.bounder.now c.requires.of_model c.requires.bounder
    c.requires.horizon c.requires.stage c.requires.room)

pub greatest_looks-requires-clause-wanted : goal.greatest_looks-requires-clause-wanted
greatest_looks-requires-clause-wanted c =
    ap (λ (l : List (Option ℕ)). length l) c.deref-3.ensures.value
    ∙ wanted_rows c.args.model.now.model c.args.front.now c.requires.of_model c.in_ok-actions.actions
    c.in_ok-choices.choices.items c.in_ok-wanted.wanted.items c.joint_count-count.result
    c.in_ok-actions.ensures c.in_ok-choices.ensures
    (c.in_ok-wanted.ensures ∙ ap (λ oss. rows_of (choices_in oss) c.joint_count-count.result)
    c.deref-2.ensures.value)

pub bound_with-bound-requires : goal.bound_with-bound-requires
bound_with-bound-requires c = λ n le.
    let m = c.args.model.now.model in
    let k = c.args.front.now in
    let b = c.args.bounder.now in
    let count = c.joint_count-count.result in
    let r = b.horizon - k.front.stage - 1 in
    let actions = c.in_ok-actions.actions in
    let choices = c.in_ok-choices.choices.items in
    let wanted = c.in_ok-wanted.wanted.items in
    let table = rows_of (look_ahead_row (arithmetic b.is_exact m.scales) m r k.front c.args.look) count in
    let counted = c.joint_count-count.ensures ∙ ap (λ oss. product (own_counts oss)) c.deref.ensures.value in
    let wants = c.in_ok-wanted.ensures ∙ ap (λ oss. rows_of (choices_in oss) count) c.deref-2.ensures.value in
    let earned = c.earned.ensures.is m c.requires.of_model in
    let greatest = c.in_ok-greatest.ensures.is
    ∙ ap (λ l. map (greatest_look_in (arithmetic b.is_exact m.scales) m r k.front c.args.look actions l)
    (range_with_len 0 count)) c.deref-3.ensures.value
    ∙ looks_are m k b c.requires.of_model c.requires.bounder c.requires.horizon c.requires.stage c.requires.room
    c.args.look actions choices count table c.earned.result c.in_ok-actions.ensures c.in_ok-choices.ensures counted
    refl earned wanted in
    let fits-earned : SFits w128 c.earned.result.high = search rules in
    let e = c.deref-4.ensures.value in
    let within : n ≤ length c.in_ok-greatest.greatest.items = subst (λ (l : List ℤ). n ≤ length l) e le in
    subst (λ (x : ℤ). unsigned_abs x < 2 ^ 127) (λ j. sym (to_z-of_z w128 _ fits-earned) j +ℤ int_sum n
    (λ C. get_or (sym e j) C (pos 0)))
    (parts_fit m k b c.requires.of_model c.requires.bounder c.requires.horizon c.requires.stage c.requires.room
    c.args.look actions choices count table c.earned.result c.in_ok-actions.ensures c.in_ok-choices.ensures counted
    refl earned wanted wants c.in_ok-greatest.greatest.items (pos 0) greatest n within)

pub returns-clause-is : goal.returns-clause-is
returns-clause-is c =
    let m = c.args.model.now.model in
    let k = c.args.front.now in
    let b = c.args.bounder.now in
    let count = c.joint_count-count.result in
    let r = b.horizon - k.front.stage - 1 in
    let actions = c.in_ok-actions.actions in
    let choices = c.in_ok-choices.choices.items in
    let wanted = c.in_ok-wanted.wanted.items in
    let table = rows_of (look_ahead_row (arithmetic b.is_exact m.scales) m r k.front c.args.look) count in
    let counted = c.joint_count-count.ensures ∙ ap (λ oss. product (own_counts oss)) c.deref.ensures.value in
    let wants = c.in_ok-wanted.ensures ∙ ap (λ oss. rows_of (choices_in oss) count) c.deref-2.ensures.value in
    let earned = c.earned.ensures.is m c.requires.of_model in
    let greatest = c.in_ok-greatest.ensures.is
    ∙ ap (λ l. map (greatest_look_in (arithmetic b.is_exact m.scales) m r k.front c.args.look actions l)
    (range_with_len 0 count)) c.deref-3.ensures.value
    ∙ looks_are m k b c.requires.of_model c.requires.bounder c.requires.horizon c.requires.stage c.requires.room
    c.args.look actions choices count table c.earned.result c.in_ok-actions.ensures c.in_ok-choices.ensures counted
    refl earned wanted in
    let fits-earned : SFits w128 c.earned.result.high = search rules in
    let e = c.deref-4.ensures.value in
    let fits-bound : SFits w128 c.bound_with-bound.result = search rules in
    let bound = to_z-of_z w128 _ fits-bound ∙ c.bound_with-bound.ensures
    ∙ (λ j. to_z-of_z w128 _ fits-earned j +ℤ int_sum (length (e j)) (λ C. get_or (e j) C (pos 0))) in
    let is = game m k b c.requires.of_model c.requires.bounder c.requires.horizon c.requires.stage c.requires.room
    c.args.look actions choices count table c.earned.result c.in_ok-actions.ensures c.in_ok-choices.ensures counted
    refl earned in
    let keeps = summed m k b c.requires.of_model c.requires.bounder c.requires.horizon c.requires.stage
    c.requires.room c.args.look actions choices count table c.earned.result c.in_ok-actions.ensures
    c.in_ok-choices.ensures counted refl earned wanted wants c.in_ok-greatest.greatest.items _ greatest bound in
    keeps ∙ bound_is m k.horizon c.args.look k.front (game_with actions choices table c.earned.result.high)
    is
