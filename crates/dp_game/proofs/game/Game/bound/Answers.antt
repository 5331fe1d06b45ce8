use Rattle.std.proofs.Common.{ap, ◌∙◌, rules}
use Rattle.std.specs.Int.{w128}
use Rattle.std.proofs.lemmas.Int.{to_z-of_z}
use mir.Val.{SFits}
use Rattle.dp_game.specs.Games.{game_bound}
use Rattle.dp_game.proofs.Bounds.{bound_is}
use Rattle.dp_game.proofs.game.Game.bound.Goals as goal

pub returns-clause-of_front : goal.returns-clause-of_front
returns-clause-of_front c = λ m h look F is.
    let fits : SFits w128 c.self.inside.bound = search rules in
    to_z-of_z w128 _ fits ∙ c.self.invariant.is_bound ∙ ap game_bound c.self.view_is ∙ bound_is m h look F
    c.args.self.now is
