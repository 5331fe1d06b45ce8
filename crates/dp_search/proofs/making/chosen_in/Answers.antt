use Rattle.dp_game.specs.Games.{IsGameOf}
use Rattle.dp_search.proofs.Expansions.{of_some}
use Rattle.dp_search.proofs.making.chosen_in.Goals as goal

pub returns-in-Some : goal.returns-in-Some
returns-in-Some c m h look F is =
    c.choose.ensures.of_front m h look F (of_some (IsGameOf m h look F) c.args.game c.in-Some.game c.in-Some.is is)
