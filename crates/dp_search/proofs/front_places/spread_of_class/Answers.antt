use Rattle.std.proofs.Common.{◌≡◌, ◌+ℤ◌, neg_ℤ, None, add-one, sym, ap, subst, ◌∙◌, arith, rules}
use Rattle.std.specs.Int.{int_min, w128}
use Rattle.std.proofs.lemmas.Int.{to_z-of_z}
use Rattle.dp_spec.specs.Arithmetic.{arithmetic}
use Rattle.dp_spec.specs.Fitting.{front_bound}
use Rattle.dp_spec.specs.Steps.{chosen_front}
use Rattle.dp_cluster.proofs.ChosenActions.{agents_of}
use Rattle.dp_game.specs.Games.{IsGameOf, with_own_choice}
use Rattle.dp_search.proofs.PlaceLists.{agent_in, choice_in, class_in, unassigned}
use Rattle.dp_search.proofs.SpreadSteps.{choice_made, class_kept, least_bound, least_of_at_most, spread_is}
use Rattle.dp_search.proofs.SpreadSteps.{taken_back}
use Rattle.dp_search.proofs.front_places.spread_of_class.Goals as goal

pub actions-action-end-requires : goal.actions-action-end-requires
actions-action-end-requires c =
    let agents = agents_of c.requires.of_model.front.agents in
    omega (arith, agents, c.requires.agent)

pub choose-requires-clause-class : goal.choose-requires-clause-class
choose-requires-clause-class c =
    let m = c.args.model.now.model in
    let k = c.args.front.now in
    let is = subst (IsGameOf m k.horizon c.args.look k.front) (sym c.loop-action.invariant.0) c.requires.game in
    class_in m k.horizon c.args.look k.front c.loop-action.game is c.args.agent c.args.class c.requires.agent
    c.requires.class

pub choose-requires-clause-unassigned : goal.choose-requires-clause-unassigned
choose-requires-clause-unassigned c =
    let m = c.args.model.now.model in
    let k = c.args.front.now in
    let is = subst (IsGameOf m k.horizon c.args.look k.front) (sym c.loop-action.invariant.0) c.requires.game in
    choice_in m k.horizon c.args.look k.front c.loop-action.game is c.args.agent c.args.class c.requires.agent
    ∙ c.requires.unassigned

pub unchoose-requires-clause-class : goal.unchoose-requires-clause-class
unchoose-requires-clause-class c =
    let m = c.args.model.now.model in
    let k = c.args.front.now in
    let g = c.loop-action.game in
    let is = subst (IsGameOf m k.horizon c.args.look k.front) (sym c.loop-action.invariant.0) c.requires.game in
    let hi = agent_in m k.horizon c.args.look k.front g is c.args.agent c.args.class c.requires.agent in
    let hc = class_in m k.horizon c.args.look k.front g is c.args.agent c.args.class c.requires.agent
    c.requires.class in
    rw c.choose.ensures.is (class_kept g c.args.agent c.args.class c.loop-action.action hi hc)

pub unchoose-requires-clause-chosen : goal.unchoose-requires-clause-chosen
unchoose-requires-clause-chosen c =
    let m = c.args.model.now.model in
    let k = c.args.front.now in
    let g = c.loop-action.game in
    let is = subst (IsGameOf m k.horizon c.args.look k.front) (sym c.loop-action.invariant.0) c.requires.game in
    let hi = agent_in m k.horizon c.args.look k.front g is c.args.agent c.args.class c.requires.agent in
    let hc = class_in m k.horizon c.args.look k.front g is c.args.agent c.args.class c.requires.agent
    c.requires.class in (
      c.loop-action.action,
      rw c.choose.ensures.is (choice_made g c.args.agent c.args.class
          c.loop-action.action hi hc),
    )

pub loop-action-preserved : goal.loop-action-preserved
loop-action-preserved c =
    let m = c.args.model.now.model in
    let k = c.args.front.now in
    let h = k.horizon in
    let look = c.args.look in
    let F = k.front in
    let i = c.args.agent in
    let cl = c.args.class in
    let a = c.loop-action.action in
    let g = c.loop-action.game in
    let is = subst (IsGameOf m h look F) (sym c.loop-action.invariant.0) c.requires.game in
    let hi = agent_in m h look F g is i cl c.requires.agent in
    let hc = class_in m h look F g is i cl c.requires.agent c.requires.class in
    let none = choice_in m h look F g is i cl c.requires.agent ∙ c.requires.unassigned in
    let bound = to_z-of_z w128 c.bound.result (search (rules, c.bound.type_inv))
    ∙ c.bound.ensures.of_front m h look (chosen_front F i cl a) (c.choose.ensures.of_front m h look F is)
    ∙ ap (λ e. front_bound (arithmetic e m.scales) m h look (chosen_front F i cl a)) (sym
    c.requires.of_model.mode) in (
      c.unchoose.ensures.is ∙ ap (λ g. with_own_choice g i cl None) c.choose.ensures.is
          ∙ taken_back g i cl a hi hc none
          ∙ c.loop-action.invariant.0,
      to_z-of_z w128 c.lesser-least.result (search (rules, c.lesser-least.type_inv)) ∙ c.lesser-least.ensures
          ∙ (λ j. int_min (c.loop-action.invariant.1 j) (bound j))
          ∙ ap (λ n. least_bound m k look i cl n) (sym (add-one a)),
    )

pub distance-requires : goal.distance-requires
distance-requires c =
    let m = c.args.model.now.model in
    let k = c.args.front.now in
    let look = c.args.look in
    let B = front_bound (arithmetic k.is_exact m.scales) m k.horizon look k.front in
    let bound = to_z-of_z w128 c.bound-bound.result (search (rules, c.bound-bound.type_inv))
    ∙ c.bound-bound.ensures.of_front m k.horizon look k.front c.requires.game
    ∙ ap (λ e. front_bound (arithmetic e m.scales) m k.horizon look k.front) (sym c.requires.of_model.mode) in
    rw (bound, c.loop-action.invariant.1) (least_of_at_most B
    (λ a. front_bound (arithmetic k.is_exact m.scales) m k.horizon look (chosen_front k.front c.args.agent
    c.args.class a))
    c.loop-action.action)

pub returns-clause-is : goal.returns-clause-is
returns-clause-is c =
    let m = c.args.model.now.model in
    let k = c.args.front.now in
    let look = c.args.look in
    let bound = to_z-of_z w128 c.bound-bound.result (search (rules, c.bound-bound.type_inv))
    ∙ c.bound-bound.ensures.of_front m k.horizon look k.front c.requires.game
    ∙ ap (λ e. front_bound (arithmetic e m.scales) m k.horizon look k.front) (sym c.requires.of_model.mode) in
    let free = unassigned k.front.agents c.args.agent c.args.class c.requires.agent c.requires.class
    c.requires.unassigned in
    let all : c.loop-action.action ≡ c.actions-action-end.result =
    omega (arith, c.loop-action-test.false, c.loop-action.auto.action-end) in
    c.distance.ensures ∙ (λ j. bound j +ℤ neg_ℤ (c.loop-action.invariant.1 j))
    ∙ spread_is m k c.requires.of_model c.requires.stage look c.args.agent c.args.class c.loop-action.action
    free
    (all ∙ c.actions-action-end.ensures)
