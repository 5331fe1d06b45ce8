use Rattle.dp_cluster.proofs.AdvancedParts.{some_class}
use Rattle.dp_cluster.proofs.OwnPlaces.{few_at, searched_is}
use Rattle.dp_cluster.proofs.front.Front.first_unequal.Goals as goal

pub places-requires-clause-some_class : goal.places-requires-clause-some_class
places-requires-clause-some_class c =
    let m = c.requires.of_model.0 in
    let is = c.requires.of_model.1 in
    some_class m c.args.self.now.horizon c.args.self.now.front is.model is.front

pub first_difference-requires-clause-first_room : goal.first_difference-requires-clause-first_room
first_difference-requires-clause-first_room c =
    few_at c.requires.of_model.0 c.args.self.now c.requires.of_model.1 c.requires.exact c.requires.stage
    c.args.agent
    c.requires.agent c.args.first c.requires.first _ _ _ c.places.ensures.rows c.places.ensures.classes
    c.places.ensures.width

pub first_difference-requires-clause-second_room : goal.first_difference-requires-clause-second_room
first_difference-requires-clause-second_room c =
    few_at c.requires.of_model.0 c.args.self.now c.requires.of_model.1 c.requires.exact c.requires.stage
    c.args.agent
    c.requires.agent c.args.second c.requires.second _ _ _ c.places.ensures.rows c.places.ensures.classes
    c.places.ensures.width

pub returns : goal.returns
returns c = λ m is.
    searched_is m c.args.self.now is c.requires.exact c.requires.stage c.args.agent c.requires.agent
    c.args.first c.args.second c.requires.first c.requires.second c.first_difference.result _ _ _
    c.places.ensures.rows c.places.ensures.classes c.places.ensures.width c.first_difference.ensures
