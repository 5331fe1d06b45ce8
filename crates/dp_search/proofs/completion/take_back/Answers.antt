use Rattle.std.proofs.Common.{None, ap, ◌∙◌}
use Rattle.dp_game.specs.Games.{KeptGame, own_counts}
use Rattle.dp_game.proofs.OwnChoices.{counts_kept}
use Rattle.dp_search.proofs.completion.take_back.Goals as goal

pub returns-then-is_some-clause-counts : goal.returns-then-is_some-clause-counts
returns-then-is_some-clause-counts c =
    ap (λ (g : KeptGame). own_counts g.choices) c.unchoose.ensures.is
    ∙ counts_kept c.args.game.now.choices c.args.agent c.args.class None
