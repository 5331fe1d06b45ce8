use Rattle.dp_search.proofs.FrontSteps.{advance_room, advanced_is, advanced_of_planner, chosen_is, chosen_of_planner}
use Rattle.dp_search.proofs.bounding.after_choice.Goals as goal

pub advance-requires-clause-room : goal.advance-requires-clause-room
advance-requires-clause-room c =
    advance_room c.args.model.now.model c.args.front.now c.requires.front c.args.agent c.args.class
    c.args.action
    c.requires.stage c.requires.unassigned c.requires.narrow.0 c.requires.narrow.1 c.in_ok-chosen.chosen
    c.in_ok-chosen.ensures.is _ c.complete.ensures c.if-complete.true

pub returns-in_ok-next-clause-of_planner : goal.returns-in_ok-next-clause-of_planner
returns-in_ok-next-clause-of_planner c =
    advanced_of_planner c.args.model.now.model c.args.front.now c.requires.front c.args.agent c.args.class
    c.args.action c.requires.stage c.requires.unassigned c.requires.narrow.0 c.requires.narrow.1
    c.in_ok-chosen.chosen c.in_ok-chosen.ensures.is _ c.complete.ensures c.if-complete.true c.in_ok-next.next
    c.in_ok-next.ensures.front c.in_ok-next.ensures.of_model c.in_ok-next.ensures.horizon

pub returns-in_ok-next-clause-front : goal.returns-in_ok-next-clause-front
returns-in_ok-next-clause-front c =
    advanced_is c.args.model.now.model c.args.front.now c.requires.front c.args.agent c.args.class c.args.action
    c.requires.stage c.requires.unassigned c.requires.narrow.0 c.requires.narrow.1 c.in_ok-chosen.chosen
    c.in_ok-chosen.ensures.is _ c.complete.ensures c.if-complete.true c.in_ok-next.next
    c.in_ok-next.ensures.front

pub returns-else-complete-clause-of_planner : goal.returns-else-complete-clause-of_planner
returns-else-complete-clause-of_planner c =
    chosen_of_planner c.args.model.now.model c.args.front.now c.requires.front c.args.agent c.args.class
    c.args.action c.requires.stage c.requires.unassigned c.requires.narrow.0 c.requires.narrow.1
    c.in_ok-chosen.chosen c.in_ok-chosen.ensures.is _ c.complete.ensures c.if-complete.false
    (c.in_ok-chosen.ensures.of_model c.args.model.now.model c.requires.front.of_model c.requires.action)

pub returns-else-complete-clause-front : goal.returns-else-complete-clause-front
returns-else-complete-clause-front c =
    chosen_is c.args.model.now.model c.args.front.now c.requires.front c.args.agent c.args.class c.args.action
    c.requires.stage c.requires.unassigned c.requires.narrow.0 c.requires.narrow.1 c.in_ok-chosen.chosen
    c.in_ok-chosen.ensures.is _ c.complete.ensures c.if-complete.false
