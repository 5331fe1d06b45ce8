use Rattle.std.proofs.Common.{◌<◌, [], length, get_or, Some, sym, ap, subst, ◌∙◌}
use Rattle.dp_game.specs.Games.{KeptGame, own_counts}
use Rattle.dp_game.proofs.OwnChoices.{counts_kept}
use Rattle.dp_search.proofs.UnderwayFronts.{class_stays}
use Rattle.dp_search.proofs.completion.choose_best.Goals as goal

pub best_action-action-requires-clause-class : goal.best_action-action-requires-clause-class
best_action-action-requires-clause-class c =
    class_stays c.args.game.now c.take_back.new.game c.args.agent c.args.class c.take_back.ensures.counts
    c.requires.agent c.requires.class

pub choose-requires-clause-class : goal.choose-requires-clause-class
choose-requires-clause-class c =
    subst (λ (g : KeptGame). c.args.class < length (get_or g.choices c.args.agent []))
    (sym c.best_action-action.ensures.game)
    (class_stays c.args.game.now c.take_back.new.game c.args.agent c.args.class c.take_back.ensures.counts
    c.requires.agent c.requires.class)

pub returns-clause-counts : goal.returns-clause-counts
returns-clause-counts c =
    let counts = λ (g : KeptGame). own_counts g.choices in
    ap counts c.choose.ensures.is
    ∙ counts_kept c.best_action-action.new.game.choices c.args.agent c.args.class (Some c.best_action-action.result)
    ∙ ap counts c.best_action-action.ensures.game ∙ c.take_back.ensures.counts
