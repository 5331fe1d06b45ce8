use Rattle.std.proofs.Common.{◌≡◌, ◌*◌, ◌<◌, ◌≤◌, ℕ, [], None, pos, suc, drop, get_or, length, ap, subst, ◌∙◌, refl}
use Rattle.std.proofs.Common.{arith}
use Rattle.std.proofs.lemmas.List.{get_or_default}
use Rattle.dp_base.specs.Sums.{int_sum}
use Rattle.dp_spec.specs.JointNumbers.{product}
use Rattle.dp_spec.specs.Merge.{placed_number, without}
use Rattle.dp_game.specs.Extended.{choice_counts, choice_number, game_kept}
use Rattle.dp_game.specs.Games.{best_entry, own_counts, with_own_choice}
use Rattle.dp_game.proofs.Bounds.{classes_few, classes_some, same_agents}
use Rattle.dp_game.proofs.Changes.{changing_end, changing_start}
use Rattle.dp_game.proofs.TakenApart.{count_at}
use Rattle.dp_game.proofs.Walks.{as_many, come_fits, come_next, come_place, enough, gone_fits, gone_next, gone_place}
use Rattle.dp_game.proofs.Walks.{in_numbers, joint_room, new_small, places_are, some_width, walk_next}
use Rattle.dp_game.proofs.change.change_class.Goals as goal

pub width_from-width-requires-clause-some : goal.width_from-width-requires-clause-some
width_from-width-requires-clause-some c = classes_some _ c.requires.of_front.1

pub width_from-width-requires-clause-few : goal.width_from-width-requires-clause-few
width_from-width-requires-clause-few c = classes_few _ c.requires.of_front.1

pub step_of-step-requires : goal.step_of-step-requires
step_of-step-requires c = record { agent = rw (same_agents _ c.requires.of_front.1) c.requires.agent }

pub loop-other-init : goal.loop-other-init
loop-other-init c = (
  changing_start (game_kept c.args.actions.now c.args.choices.now c.args.best.now (pos 0)) c.args.agent
      c.args.class c.args.choice c.requires.agent c.requires.class c.args.numbers.now c.requires.before,
  refl,
  refl,
)

pub place_of-joint-requires-clause-some : goal.place_of-joint-requires-clause-some
place_of-joint-requires-clause-some c =
    some_width (game_kept c.args.actions.now c.args.choices.now c.args.best.now (pos 0))
    c.args.agent c.args.class c.args.choice c.requires.agent c.requires.class c.requires.of_front c.requires.after
    c.count-count.result c.width_from-width.result
    (c.count-count.ensures ∙ count_at c.args.choices.now c.args.agent c.index-choices-agent.result c.requires.agent
    c.index-choices-agent.is) c.width_from-width.ensures

pub place_of-joint-requires-clause-room : goal.place_of-joint-requires-clause-room
place_of-joint-requires-clause-room c =
    let hx : c.loop-other.other < product (without c.args.agent (own_counts c.args.choices.now)) =
    subst (λ (n : ℕ). c.loop-other.other < n) (places_are (game_kept c.args.actions.now c.args.choices.now
    c.args.best.now (pos 0))
    c.args.agent c.args.class c.args.choice c.requires.agent c.requires.class c.requires.of_front c.requires.after
    c.count-count.result c.width_from-width.result
    (c.count-count.ensures ∙ count_at c.args.choices.now c.args.agent c.index-choices-agent.result c.requires.agent
    c.index-choices-agent.is) c.width_from-width.ensures
    (length c.args.numbers.now) c.requires.before.one_each) c.loop-other-test.true in
    joint_room (game_kept c.args.actions.now c.args.choices.now c.args.best.now (pos 0))
    c.args.agent c.args.class c.args.choice c.requires.agent c.requires.class c.requires.of_front c.requires.after
    c.count-count.result c.width_from-width.result
    (c.count-count.ensures ∙ count_at c.args.choices.now c.args.agent c.index-choices-agent.result c.requires.agent
    c.index-choices-agent.is) c.width_from-width.ensures
    c.loop-other.other hx

pub change_place-requires-clause-joint : goal.change_place-requires-clause-joint
change_place-requires-clause-joint c =
    let hx : c.loop-other.other < product (without c.args.agent (own_counts c.args.choices.now)) =
    subst (λ (n : ℕ). c.loop-other.other < n) (places_are (game_kept c.args.actions.now c.args.choices.now
    c.args.best.now (pos 0))
    c.args.agent c.args.class c.args.choice c.requires.agent c.requires.class c.requires.of_front c.requires.after
    c.count-count.result c.width_from-width.result
    (c.count-count.ensures ∙ count_at c.args.choices.now c.args.agent c.index-choices-agent.result c.requires.agent
    c.index-choices-agent.is) c.width_from-width.ensures
    (length c.args.numbers.now) c.requires.before.one_each) c.loop-other-test.true in
    let was = c.at.ensures ∙ ap (λ os. get_or os c.args.class None)
    (c.index-choices-agent-2.is ∙ get_or_default c.args.choices.now c.args.agent _ [] c.requires.agent) in
    let down = c.step_of-step.ensures.down
    ∙ ap (λ o. choice_number o * product (drop (suc c.args.agent) (choice_counts c.args.actions.now))) was in
    in_numbers (game_kept c.args.actions.now c.args.choices.now c.args.best.now (pos 0))
    c.args.agent c.args.class c.args.choice c.requires.agent c.requires.class c.requires.of_front c.requires.after
    c.count-count.result c.width_from-width.result
    (c.count-count.ensures ∙ count_at c.args.choices.now c.args.agent c.index-choices-agent.result c.requires.agent
    c.index-choices-agent.is) c.width_from-width.ensures
    c.loop-other.other hx c.place_of-joint.result c.place_of-joint.ensures c.args.best.now c.requires.best
    c.loop-other.numbers c.loop-other.invariant.0 c.step_of-step.result.up c.step_of-step.result.down
    c.step_of-step.ensures.up down

pub change_place-requires-clause-few : goal.change_place-requires-clause-few
change_place-requires-clause-few c =
    let hx : c.loop-other.other < product (without c.args.agent (own_counts c.args.choices.now)) =
    subst (λ (n : ℕ). c.loop-other.other < n) (places_are (game_kept c.args.actions.now c.args.choices.now
    c.args.best.now (pos 0))
    c.args.agent c.args.class c.args.choice c.requires.agent c.requires.class c.requires.of_front c.requires.after
    c.count-count.result c.width_from-width.result
    (c.count-count.ensures ∙ count_at c.args.choices.now c.args.agent c.index-choices-agent.result c.requires.agent
    c.index-choices-agent.is) c.width_from-width.ensures
    (length c.args.numbers.now) c.requires.before.one_each) c.loop-other-test.true in
    let was = c.at.ensures ∙ ap (λ os. get_or os c.args.class None)
    (c.index-choices-agent-2.is ∙ get_or_default c.args.choices.now c.args.agent _ [] c.requires.agent) in
    let down = c.step_of-step.ensures.down
    ∙ ap (λ o. choice_number o * product (drop (suc c.args.agent) (choice_counts c.args.actions.now))) was in
    as_many (game_kept c.args.actions.now c.args.choices.now c.args.best.now (pos 0))
    c.args.agent c.args.class c.args.choice c.requires.agent c.requires.class c.requires.of_front c.requires.after
    c.count-count.result c.width_from-width.result
    (c.count-count.ensures ∙ count_at c.args.choices.now c.args.agent c.index-choices-agent.result c.requires.agent
    c.index-choices-agent.is) c.width_from-width.ensures
    c.loop-other.other hx c.place_of-joint.result c.place_of-joint.ensures c.args.best.now c.requires.best
    c.loop-other.numbers c.loop-other.invariant.0 c.step_of-step.result.up c.step_of-step.result.down
    c.step_of-step.ensures.up down

pub change_place-requires-clause-down : goal.change_place-requires-clause-down
change_place-requires-clause-down c =
    let hx : c.loop-other.other < product (without c.args.agent (own_counts c.args.choices.now)) =
    subst (λ (n : ℕ). c.loop-other.other < n) (places_are (game_kept c.args.actions.now c.args.choices.now
    c.args.best.now (pos 0))
    c.args.agent c.args.class c.args.choice c.requires.agent c.requires.class c.requires.of_front c.requires.after
    c.count-count.result c.width_from-width.result
    (c.count-count.ensures ∙ count_at c.args.choices.now c.args.agent c.index-choices-agent.result c.requires.agent
    c.index-choices-agent.is) c.width_from-width.ensures
    (length c.args.numbers.now) c.requires.before.one_each) c.loop-other-test.true in
    let was = c.at.ensures ∙ ap (λ os. get_or os c.args.class None)
    (c.index-choices-agent-2.is ∙ get_or_default c.args.choices.now c.args.agent _ [] c.requires.agent) in
    let down = c.step_of-step.ensures.down
    ∙ ap (λ o. choice_number o * product (drop (suc c.args.agent) (choice_counts c.args.actions.now))) was in
    enough (game_kept c.args.actions.now c.args.choices.now c.args.best.now (pos 0))
    c.args.agent c.args.class c.args.choice c.requires.agent c.requires.class c.requires.of_front c.requires.after
    c.count-count.result c.width_from-width.result
    (c.count-count.ensures ∙ count_at c.args.choices.now c.args.agent c.index-choices-agent.result c.requires.agent
    c.index-choices-agent.is) c.width_from-width.ensures
    c.loop-other.other hx c.place_of-joint.result c.place_of-joint.ensures c.args.best.now c.requires.best
    c.loop-other.numbers c.loop-other.invariant.0 c.step_of-step.result.up c.step_of-step.result.down
    c.step_of-step.ensures.up down

pub change_place-requires-clause-up : goal.change_place-requires-clause-up
change_place-requires-clause-up c =
    let hx : c.loop-other.other < product (without c.args.agent (own_counts c.args.choices.now)) =
    subst (λ (n : ℕ). c.loop-other.other < n) (places_are (game_kept c.args.actions.now c.args.choices.now
    c.args.best.now (pos 0))
    c.args.agent c.args.class c.args.choice c.requires.agent c.requires.class c.requires.of_front c.requires.after
    c.count-count.result c.width_from-width.result
    (c.count-count.ensures ∙ count_at c.args.choices.now c.args.agent c.index-choices-agent.result c.requires.agent
    c.index-choices-agent.is) c.width_from-width.ensures
    (length c.args.numbers.now) c.requires.before.one_each) c.loop-other-test.true in
    let was = c.at.ensures ∙ ap (λ os. get_or os c.args.class None)
    (c.index-choices-agent-2.is ∙ get_or_default c.args.choices.now c.args.agent _ [] c.requires.agent) in
    let down = c.step_of-step.ensures.down
    ∙ ap (λ o. choice_number o * product (drop (suc c.args.agent) (choice_counts c.args.actions.now))) was in
    new_small (game_kept c.args.actions.now c.args.choices.now c.args.best.now (pos 0))
    c.args.agent c.args.class c.args.choice c.requires.agent c.requires.class c.requires.of_front c.requires.after
    c.count-count.result c.width_from-width.result
    (c.count-count.ensures ∙ count_at c.args.choices.now c.args.agent c.index-choices-agent.result c.requires.agent
    c.index-choices-agent.is) c.width_from-width.ensures
    c.loop-other.other hx c.place_of-joint.result c.place_of-joint.ensures c.args.best.now c.requires.best
    c.loop-other.numbers c.loop-other.invariant.0 c.step_of-step.result.up c.step_of-step.result.down
    c.step_of-step.ensures.up down

pub change_place-requires-clause-gone : goal.change_place-requires-clause-gone
change_place-requires-clause-gone c =
    let hx : c.loop-other.other < product (without c.args.agent (own_counts c.args.choices.now)) =
    subst (λ (n : ℕ). c.loop-other.other < n) (places_are (game_kept c.args.actions.now c.args.choices.now
    c.args.best.now (pos 0))
    c.args.agent c.args.class c.args.choice c.requires.agent c.requires.class c.requires.of_front c.requires.after
    c.count-count.result c.width_from-width.result
    (c.count-count.ensures ∙ count_at c.args.choices.now c.args.agent c.index-choices-agent.result c.requires.agent
    c.index-choices-agent.is) c.width_from-width.ensures
    (length c.args.numbers.now) c.requires.before.one_each) c.loop-other-test.true in
    let was = c.at.ensures ∙ ap (λ os. get_or os c.args.class None)
    (c.index-choices-agent-2.is ∙ get_or_default c.args.choices.now c.args.agent _ [] c.requires.agent) in
    let down = c.step_of-step.ensures.down
    ∙ ap (λ o. choice_number o * product (drop (suc c.args.agent) (choice_counts c.args.actions.now))) was in
    gone_place (game_kept c.args.actions.now c.args.choices.now c.args.best.now (pos 0))
    c.args.agent c.args.class c.args.choice c.requires.agent c.requires.class c.requires.of_front c.requires.after
    c.count-count.result c.width_from-width.result
    (c.count-count.ensures ∙ count_at c.args.choices.now c.args.agent c.index-choices-agent.result c.requires.agent
    c.index-choices-agent.is) c.width_from-width.ensures
    c.loop-other.other hx c.place_of-joint.result c.place_of-joint.ensures c.args.best.now c.requires.best
    c.loop-other.numbers c.loop-other.invariant.0 c.step_of-step.result.up c.step_of-step.result.down
    c.step_of-step.ensures.up down

pub change_place-requires-clause-come : goal.change_place-requires-clause-come
change_place-requires-clause-come c =
    let hx : c.loop-other.other < product (without c.args.agent (own_counts c.args.choices.now)) =
    subst (λ (n : ℕ). c.loop-other.other < n) (places_are (game_kept c.args.actions.now c.args.choices.now
    c.args.best.now (pos 0))
    c.args.agent c.args.class c.args.choice c.requires.agent c.requires.class c.requires.of_front c.requires.after
    c.count-count.result c.width_from-width.result
    (c.count-count.ensures ∙ count_at c.args.choices.now c.args.agent c.index-choices-agent.result c.requires.agent
    c.index-choices-agent.is) c.width_from-width.ensures
    (length c.args.numbers.now) c.requires.before.one_each) c.loop-other-test.true in
    let was = c.at.ensures ∙ ap (λ os. get_or os c.args.class None)
    (c.index-choices-agent-2.is ∙ get_or_default c.args.choices.now c.args.agent _ [] c.requires.agent) in
    let down = c.step_of-step.ensures.down
    ∙ ap (λ o. choice_number o * product (drop (suc c.args.agent) (choice_counts c.args.actions.now))) was in
    come_place (game_kept c.args.actions.now c.args.choices.now c.args.best.now (pos 0))
    c.args.agent c.args.class c.args.choice c.requires.agent c.requires.class c.requires.of_front c.requires.after
    c.count-count.result c.width_from-width.result
    (c.count-count.ensures ∙ count_at c.args.choices.now c.args.agent c.index-choices-agent.result c.requires.agent
    c.index-choices-agent.is) c.width_from-width.ensures
    c.loop-other.other hx c.place_of-joint.result c.place_of-joint.ensures c.args.best.now c.requires.best
    c.loop-other.numbers c.loop-other.invariant.0 c.step_of-step.result.up c.step_of-step.result.down
    c.step_of-step.ensures.up down

pub added-change-requires-clause-gone : goal.added-change-requires-clause-gone
added-change-requires-clause-gone c =
    let hx : c.loop-other.other < product (without c.args.agent (own_counts c.args.choices.now)) =
    subst (λ (n : ℕ). c.loop-other.other < n) (places_are (game_kept c.args.actions.now c.args.choices.now
    c.args.best.now (pos 0))
    c.args.agent c.args.class c.args.choice c.requires.agent c.requires.class c.requires.of_front c.requires.after
    c.count-count.result c.width_from-width.result
    (c.count-count.ensures ∙ count_at c.args.choices.now c.args.agent c.index-choices-agent.result c.requires.agent
    c.index-choices-agent.is) c.width_from-width.ensures
    (length c.args.numbers.now) c.requires.before.one_each) c.loop-other-test.true in
    let was = c.at.ensures ∙ ap (λ os. get_or os c.args.class None)
    (c.index-choices-agent-2.is ∙ get_or_default c.args.choices.now c.args.agent _ [] c.requires.agent) in
    let down = c.step_of-step.ensures.down
    ∙ ap (λ o. choice_number o * product (drop (suc c.args.agent) (choice_counts c.args.actions.now))) was in
    gone_fits (game_kept c.args.actions.now c.args.choices.now c.args.best.now (pos 0))
    c.args.agent c.args.class c.args.choice c.requires.agent c.requires.class c.requires.of_front c.requires.after
    c.count-count.result c.width_from-width.result
    (c.count-count.ensures ∙ count_at c.args.choices.now c.args.agent c.index-choices-agent.result c.requires.agent
    c.index-choices-agent.is) c.width_from-width.ensures
    c.loop-other.other hx c.place_of-joint.result c.place_of-joint.ensures c.args.best.now c.requires.best
    c.loop-other.numbers c.loop-other.invariant.0 c.step_of-step.result.up c.step_of-step.result.down
    c.step_of-step.ensures.up down
    c.change_place.result.gone c.change_place.result.come c.change_place.ensures.gone c.change_place.ensures.come
    _ c.loop-other.invariant.1

pub added-change-requires-clause-come : goal.added-change-requires-clause-come
added-change-requires-clause-come c =
    let hx : c.loop-other.other < product (without c.args.agent (own_counts c.args.choices.now)) =
    subst (λ (n : ℕ). c.loop-other.other < n) (places_are (game_kept c.args.actions.now c.args.choices.now
    c.args.best.now (pos 0))
    c.args.agent c.args.class c.args.choice c.requires.agent c.requires.class c.requires.of_front c.requires.after
    c.count-count.result c.width_from-width.result
    (c.count-count.ensures ∙ count_at c.args.choices.now c.args.agent c.index-choices-agent.result c.requires.agent
    c.index-choices-agent.is) c.width_from-width.ensures
    (length c.args.numbers.now) c.requires.before.one_each) c.loop-other-test.true in
    let was = c.at.ensures ∙ ap (λ os. get_or os c.args.class None)
    (c.index-choices-agent-2.is ∙ get_or_default c.args.choices.now c.args.agent _ [] c.requires.agent) in
    let down = c.step_of-step.ensures.down
    ∙ ap (λ o. choice_number o * product (drop (suc c.args.agent) (choice_counts c.args.actions.now))) was in
    come_fits (game_kept c.args.actions.now c.args.choices.now c.args.best.now (pos 0))
    c.args.agent c.args.class c.args.choice c.requires.agent c.requires.class c.requires.of_front c.requires.after
    c.count-count.result c.width_from-width.result
    (c.count-count.ensures ∙ count_at c.args.choices.now c.args.agent c.index-choices-agent.result c.requires.agent
    c.index-choices-agent.is) c.width_from-width.ensures
    c.loop-other.other hx c.place_of-joint.result c.place_of-joint.ensures c.args.best.now c.requires.best
    c.loop-other.numbers c.loop-other.invariant.0 c.step_of-step.result.up c.step_of-step.result.down
    c.step_of-step.ensures.up down
    c.change_place.result.gone c.change_place.result.come c.change_place.ensures.gone c.change_place.ensures.come
    _ c.loop-other.invariant.2

pub loop-other-preserved : goal.loop-other-preserved
loop-other-preserved c =
    let hx : c.loop-other.other < product (without c.args.agent (own_counts c.args.choices.now)) =
    subst (λ (n : ℕ). c.loop-other.other < n) (places_are (game_kept c.args.actions.now c.args.choices.now
    c.args.best.now (pos 0))
    c.args.agent c.args.class c.args.choice c.requires.agent c.requires.class c.requires.of_front c.requires.after
    c.count-count.result c.width_from-width.result
    (c.count-count.ensures ∙ count_at c.args.choices.now c.args.agent c.index-choices-agent.result c.requires.agent
    c.index-choices-agent.is) c.width_from-width.ensures
    (length c.args.numbers.now) c.requires.before.one_each) c.loop-other-test.true in
    let was = c.at.ensures ∙ ap (λ os. get_or os c.args.class None)
    (c.index-choices-agent-2.is ∙ get_or_default c.args.choices.now c.args.agent _ [] c.requires.agent) in
    let down = c.step_of-step.ensures.down
    ∙ ap (λ o. choice_number o * product (drop (suc c.args.agent) (choice_counts c.args.actions.now))) was in (
      walk_next (game_kept c.args.actions.now c.args.choices.now c.args.best.now (pos 0))
          c.args.agent c.args.class c.args.choice c.requires.agent c.requires.class c.requires.of_front
          c.requires.after
          c.count-count.result c.width_from-width.result
          (c.count-count.ensures ∙ count_at c.args.choices.now c.args.agent c.index-choices-agent.result
          c.requires.agent
          c.index-choices-agent.is) c.width_from-width.ensures
          c.loop-other.other hx c.place_of-joint.result c.place_of-joint.ensures c.args.best.now c.requires.best
          c.loop-other.numbers c.loop-other.invariant.0 c.step_of-step.result.up c.step_of-step.result.down
          c.step_of-step.ensures.up down _ c.change_place.ensures.numbers,
      gone_next (game_kept c.args.actions.now c.args.choices.now c.args.best.now (pos 0))
          c.args.agent c.args.class c.args.choice c.requires.agent c.requires.class c.requires.of_front
          c.requires.after
          c.count-count.result c.width_from-width.result
          (c.count-count.ensures ∙ count_at c.args.choices.now c.args.agent c.index-choices-agent.result
          c.requires.agent
          c.index-choices-agent.is) c.width_from-width.ensures
          c.loop-other.other hx c.place_of-joint.result c.place_of-joint.ensures c.args.best.now c.requires.best
          c.loop-other.numbers c.loop-other.invariant.0 c.step_of-step.result.up c.step_of-step.result.down
          c.step_of-step.ensures.up down
          c.change_place.result.gone c.change_place.result.come c.change_place.ensures.gone
          c.change_place.ensures.come _ _ c.loop-other.invariant.1 c.added-change.ensures.gone,
      come_next (game_kept c.args.actions.now c.args.choices.now c.args.best.now (pos 0))
          c.args.agent c.args.class c.args.choice c.requires.agent c.requires.class c.requires.of_front
          c.requires.after
          c.count-count.result c.width_from-width.result
          (c.count-count.ensures ∙ count_at c.args.choices.now c.args.agent c.index-choices-agent.result
          c.requires.agent
          c.index-choices-agent.is) c.width_from-width.ensures
          c.loop-other.other hx c.place_of-joint.result c.place_of-joint.ensures c.args.best.now c.requires.best
          c.loop-other.numbers c.loop-other.invariant.0 c.step_of-step.result.up c.step_of-step.result.down
          c.step_of-step.ensures.up down
          c.change_place.result.gone c.change_place.result.come c.change_place.ensures.gone
          c.change_place.ensures.come _ _ c.loop-other.invariant.2 c.added-change.ensures.come,
    )

pub returns-clause-after : goal.returns-clause-after
returns-clause-after c =
    let le : product (without c.args.agent (own_counts c.args.choices.now)) ≤ c.loop-other.other =
    subst (λ (n : ℕ). n ≤ c.loop-other.other) (places_are (game_kept c.args.actions.now c.args.choices.now
    c.args.best.now (pos 0))
    c.args.agent c.args.class c.args.choice c.requires.agent c.requires.class c.requires.of_front c.requires.after
    c.count-count.result c.width_from-width.result
    (c.count-count.ensures ∙ count_at c.args.choices.now c.args.agent c.index-choices-agent.result c.requires.agent
    c.index-choices-agent.is) c.width_from-width.ensures
    (length c.args.numbers.now) c.requires.before.one_each) c.loop-other-test.false in
    changing_end (game_kept c.args.actions.now c.args.choices.now c.args.best.now (pos 0)) c.args.agent
    c.args.class c.args.choice c.requires.agent c.requires.class c.loop-other.other c.loop-other.numbers le
    c.loop-other.invariant.0

pub returns-clause-gone : goal.returns-clause-gone
returns-clause-gone c =
    let le : product (without c.args.agent (own_counts c.args.choices.now)) ≤ c.loop-other.other =
    subst (λ (n : ℕ). n ≤ c.loop-other.other) (places_are (game_kept c.args.actions.now c.args.choices.now
    c.args.best.now (pos 0))
    c.args.agent c.args.class c.args.choice c.requires.agent c.requires.class c.requires.of_front c.requires.after
    c.count-count.result c.width_from-width.result
    (c.count-count.ensures ∙ count_at c.args.choices.now c.args.agent c.index-choices-agent.result c.requires.agent
    c.index-choices-agent.is) c.width_from-width.ensures
    (length c.args.numbers.now) c.requires.before.one_each) c.loop-other-test.false in
    let ge : c.loop-other.other ≤ product (without c.args.agent (own_counts c.args.choices.now)) =
    subst (λ (n : ℕ). c.loop-other.other ≤ n) (places_are (game_kept c.args.actions.now c.args.choices.now
    c.args.best.now (pos 0))
    c.args.agent c.args.class c.args.choice c.requires.agent c.requires.class c.requires.of_front c.requires.after
    c.count-count.result c.width_from-width.result
    (c.count-count.ensures ∙ count_at c.args.choices.now c.args.agent c.index-choices-agent.result c.requires.agent
    c.index-choices-agent.is) c.width_from-width.ensures
    (length c.args.numbers.now) c.requires.before.one_each) c.loop-other.auto.other-end in
    let all : c.loop-other.other ≡ product (without c.args.agent (own_counts c.args.choices.now)) =
    omega arith in
    c.loop-other.invariant.1 ∙ ap (λ n. int_sum n (λ x. best_entry
    (game_kept c.args.actions.now c.args.choices.now c.args.best.now (pos 0))
    (placed_number c.args.agent (own_counts c.args.choices.now) c.args.class x))) all

pub returns-clause-come : goal.returns-clause-come
returns-clause-come c =
    let le : product (without c.args.agent (own_counts c.args.choices.now)) ≤ c.loop-other.other =
    subst (λ (n : ℕ). n ≤ c.loop-other.other) (places_are (game_kept c.args.actions.now c.args.choices.now
    c.args.best.now (pos 0))
    c.args.agent c.args.class c.args.choice c.requires.agent c.requires.class c.requires.of_front c.requires.after
    c.count-count.result c.width_from-width.result
    (c.count-count.ensures ∙ count_at c.args.choices.now c.args.agent c.index-choices-agent.result c.requires.agent
    c.index-choices-agent.is) c.width_from-width.ensures
    (length c.args.numbers.now) c.requires.before.one_each) c.loop-other-test.false in
    let ge : c.loop-other.other ≤ product (without c.args.agent (own_counts c.args.choices.now)) =
    subst (λ (n : ℕ). c.loop-other.other ≤ n) (places_are (game_kept c.args.actions.now c.args.choices.now
    c.args.best.now (pos 0))
    c.args.agent c.args.class c.args.choice c.requires.agent c.requires.class c.requires.of_front c.requires.after
    c.count-count.result c.width_from-width.result
    (c.count-count.ensures ∙ count_at c.args.choices.now c.args.agent c.index-choices-agent.result c.requires.agent
    c.index-choices-agent.is) c.width_from-width.ensures
    (length c.args.numbers.now) c.requires.before.one_each) c.loop-other.auto.other-end in
    let all : c.loop-other.other ≡ product (without c.args.agent (own_counts c.args.choices.now)) =
    omega arith in
    c.loop-other.invariant.2 ∙ ap (λ n. int_sum n (λ x. best_entry
    (with_own_choice (game_kept c.args.actions.now c.args.choices.now c.args.best.now (pos 0)) c.args.agent
    c.args.class c.args.choice) (placed_number c.args.agent (own_counts c.args.choices.now) c.args.class x)))
    all
