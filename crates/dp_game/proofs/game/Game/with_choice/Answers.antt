use Rattle.std.proofs.Common.{sym, subst}
use Rattle.dp_game.specs.Games.{IsGameOf}
use Rattle.dp_game.proofs.game.Game.with_choice.Goals as goal

pub returns-clause-of_front : goal.returns-clause-of_front
returns-clause-of_front c = λ m h look F is.
    c.choose.ensures.of_front m h look F (subst (IsGameOf m h look F) (sym c.in_ok-game.ensures) is)
