use Rattle.dp_search.proofs.UnderwayFronts.{game_has_classes}
use Rattle.dp_search.proofs.completion.all_chosen.Goals as goal

pub choose_well-requires-clause-classes : goal.choose_well-requires-clause-classes
choose_well-requires-clause-classes c =
    let k = c.args.front.now in
    game_has_classes c.args.model.now.model k.horizon c.args.bounder.now.look k c.in_ok-game.game
    c.in_ok-game.ensures.is
