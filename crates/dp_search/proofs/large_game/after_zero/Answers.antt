use Rattle.dp_laws.proofs.Leaves.{some_action}
use Rattle.dp_search.proofs.large_game.after_zero.Goals as goal

pub after_choice-requires-clause-action : goal.after_choice-requires-clause-action
after_choice-requires-clause-action c =
    let m = c.args.model.now.model in
    let k = c.args.front.now in
    some_action m k.horizon k.front c.args.agent c.args.class c.requires.front.of_model.model
    c.requires.front.of_model.front c.requires.unassigned
