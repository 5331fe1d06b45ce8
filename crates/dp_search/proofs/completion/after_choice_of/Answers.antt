use Rattle.std.proofs.Common.{refl}
use Rattle.dp_cluster.proofs.FrontParts.{unassigned_in}
use Rattle.dp_search.proofs.UnderwayFronts.{agent_of, choice_leaves_fewer, choice_underway, class_of, narrow_is}
use Rattle.dp_search.proofs.completion.after_choice_of.Goals as goal

pub choice-requires-clause-agent : goal.choice-requires-clause-agent
choice-requires-clause-agent c =
    let k = c.args.front.now in
    let place = c.in-Some.place in
    let within = unassigned_in k.front.agents place.agent place.class c.in-Some.ensures in
    agent_of c.args.model.now.model k c.args.game.now c.requires.classes place.agent within.0

pub choice-requires-clause-class : goal.choice-requires-clause-class
choice-requires-clause-class c =
    let k = c.args.front.now in
    let place = c.in-Some.place in
    let within = unassigned_in k.front.agents place.agent place.class c.in-Some.ensures in
    class_of c.args.model.now.model k c.args.game.now c.requires.classes place.agent place.class within.0 within.1

pub after_choice-requires-clause-narrow : goal.after_choice-requires-clause-narrow
after_choice-requires-clause-narrow c =
    let k = c.args.front.now in
    (0, narrow_is c.args.model.now.model k.horizon k.front (c.requires.underway.narrow refl))

pub returns-in_ok-next-in-Some-choice-clause-underway : goal.returns-in_ok-next-in-Some-choice-clause-underway
returns-in_ok-next-in-Some-choice-clause-underway c =
    let place = c.in-Some.place in
    let next = c.in_ok-next-in-Some-choice in
    choice_underway c.args.model.now.model c.args.front.now place.agent place.class c.in-Some-choice.action
    c.in-Some.ensures next.next next.ensures.of_planner next.ensures.front (c.requires.underway.narrow refl)

pub returns-in_ok-next-in-Some-choice-clause-fewer : goal.returns-in_ok-next-in-Some-choice-clause-fewer
returns-in_ok-next-in-Some-choice-clause-fewer c =
    let place = c.in-Some.place in
    let next = c.in_ok-next-in-Some-choice in
    choice_leaves_fewer c.args.model.now.model c.args.front.now place.agent place.class c.in-Some-choice.action
    c.in-Some.ensures next.next next.ensures.of_planner next.ensures.front c.args.game.now c.requires.classes
