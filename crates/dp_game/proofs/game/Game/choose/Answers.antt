use Rattle.std.proofs.Common.{sym, subst, arith}
use Rattle.dp_spec.specs.Steps.{chosen_front}
use Rattle.dp_game.specs.Games.{IsGameOf}
use Rattle.dp_game.proofs.Bounds.{action_small}
use Rattle.dp_game.proofs.Choosing.{chosen_game}
use Rattle.dp_game.proofs.game.Game.choose.Goals as goal

pub overflow_cast-action : goal.overflow_cast-action
overflow_cast-action c =
    let lt = action_small c.args.self.now c.args.agent c.args.action c.invariant.ensures c.requires.agent
    c.requires.action in omega arith

pub put-requires-clause-after : goal.put-requires-clause-after
put-requires-clause-after c =
    let o = c.invariant.ensures in (
      o.0,
      o.1,
      o.2,
      chosen_front o.3 c.args.agent c.args.class c.args.action,
      chosen_game o.0 o.1 o.2 o.3 c.args.self.now o.4 c.args.agent c.args.class c.requires.agent c.args.action
          c.requires.class c.requires.unassigned c.requires.action,
    )

pub returns-clause-of_front : goal.returns-clause-of_front
returns-clause-of_front c = λ m h look F is.
    subst (IsGameOf m h look (chosen_front F c.args.agent c.args.class c.args.action)) (sym c.put.ensures)
    (chosen_game m h look F c.args.self.now is c.args.agent c.args.class c.requires.agent c.args.action
    c.requires.class c.requires.unassigned c.requires.action)
