use Rattle.std.proofs.Common.{sym, subst}
use Rattle.dp_spec.specs.Steps.{unchosen_front}
use Rattle.dp_game.specs.Games.{IsGameOf}
use Rattle.dp_game.proofs.Choosing.{unchosen_game}
use Rattle.dp_game.proofs.game.Game.unchoose.Goals as goal

pub put-requires-clause-after : goal.put-requires-clause-after
put-requires-clause-after c =
    let o = c.invariant.ensures in (
      o.0,
      o.1,
      o.2,
      unchosen_front o.3 c.args.agent c.args.class,
      unchosen_game o.0 o.1 o.2 o.3 c.args.self.now o.4 c.args.agent c.args.class c.requires.agent
          c.requires.chosen.0 c.requires.chosen.1,
    )

pub returns-clause-of_front : goal.returns-clause-of_front
returns-clause-of_front c = λ m h look F is.
    subst (IsGameOf m h look (unchosen_front F c.args.agent c.args.class)) (sym c.put.ensures)
    (unchosen_game m h look F c.args.self.now is c.args.agent c.args.class c.requires.agent c.requires.chosen.0
    c.requires.chosen.1)
