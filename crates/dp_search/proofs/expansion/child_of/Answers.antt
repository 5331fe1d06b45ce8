use Rattle.std.proofs.Common.{ap, ◌∙◌, rules}
use Rattle.std.specs.Int.{w128}
use Rattle.std.proofs.lemmas.Int.{to_z-of_z}
use Rattle.dp_game.proofs.Callers.{unassigned_in_game}
use Rattle.dp_search.specs.Expansions.{mode_bound}
use Rattle.dp_search.proofs.Expansions.{chosen_is_next, next_is_child, next_of_planner, own_mode}
use Rattle.dp_search.proofs.expansion.child_of.Goals as goal

pub chosen_bound-bound-requires-clause-agent : goal.chosen_bound-bound-requires-clause-agent
chosen_bound-bound-requires-clause-agent c =
    (unassigned_in_game c.args.model.now.model c.args.bounder.now.horizon c.args.bounder.now.look
    c.args.front.now.front c.args.game.now c.requires.game c.args.agent c.args.class
    c.requires.unassigned).agent

pub chosen_bound-bound-requires-clause-class : goal.chosen_bound-bound-requires-clause-class
chosen_bound-bound-requires-clause-class c =
    (unassigned_in_game c.args.model.now.model c.args.bounder.now.horizon c.args.bounder.now.look
    c.args.front.now.front c.args.game.now c.requires.game c.args.agent c.args.class
    c.requires.unassigned).class

pub chosen_bound-bound-requires-clause-unassigned : goal.chosen_bound-bound-requires-clause-unassigned
chosen_bound-bound-requires-clause-unassigned c =
    (unassigned_in_game c.args.model.now.model c.args.bounder.now.horizon c.args.bounder.now.look
    c.args.front.now.front c.args.game.now c.requires.game c.args.agent c.args.class c.requires.unassigned).is

pub returns-then-stage-clause-child : goal.returns-then-stage-clause-child
returns-then-stage-clause-child c =
    let m = c.args.model.now.model in
    let h = c.args.bounder.now.horizon in
    let look = c.args.bounder.now.look in
    let k = c.args.front.now in
    let next = c.in_ok-next.next in
    next_is_child m h look k c.requires.front c.requires.stage c.args.agent c.args.class c.args.action next
    c.in_ok-next.ensures.front c.in_ok-next.ensures.of_planner _
    (to_z-of_z w128 c.chosen_bound-bound.result (search (rules, c.chosen_bound-bound.type_inv))
    ∙ c.chosen_bound-bound.ensures.bound m h look k.front c.requires.game
    ∙ ap (mode_bound m h look) (chosen_is_next m h look k c.requires.front c.requires.stage c.args.agent
    c.args.class c.args.action next c.in_ok-next.ensures.front c.in_ok-next.ensures.of_planner
    (search (rules, c.stage.ensures, c.stage-2.ensures, c.if-stage.true))))

pub returns-in_ok-bound-clause-child : goal.returns-in_ok-bound-clause-child
returns-in_ok-bound-clause-child c =
    let m = c.args.model.now.model in
    let h = c.args.bounder.now.horizon in
    let look = c.args.bounder.now.look in
    let k = c.args.front.now in
    let next = c.in_ok-next.next in
    let is = next_of_planner m h look k c.requires.front c.requires.stage c.args.agent c.args.class
    c.args.action
    next c.in_ok-next.ensures.front c.in_ok-next.ensures.of_planner in
    next_is_child m h look k c.requires.front c.requires.stage c.args.agent c.args.class c.args.action next
    c.in_ok-next.ensures.front c.in_ok-next.ensures.of_planner _
    (to_z-of_z w128 c.in_ok-bound.bound (search (rules, c.own_bound.type_inv))
    ∙ c.in_ok-bound.ensures.is ∙ own_mode m h look next is)
