use Rattle.std.proofs.Common.{subst, sym}
use Rattle.dp_game.specs.Games.{IsGameOf}
use Rattle.dp_search.proofs.Expansions.{of_some}
use Rattle.dp_search.proofs.making.game_after.Goals as goal

pub returns-in_ok-next-in-Some : goal.returns-in_ok-next-in-Some
returns-in_ok-next-in-Some c m h look F is =
    let game = of_some (λ g. IsGameOf m h look F g.value) c.args.made.now.game c.in-Some.game c.in-Some.is is in
    c.in_ok-next-in-Some.ensures.of_front m h look F (subst (IsGameOf m h look F) (sym c.as_ref.ensures) game)
