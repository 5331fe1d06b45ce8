use Rattle.std.proofs.Common.{◌∙◌, ap, rules}
use Rattle.std.specs.Int.{w128}
use Rattle.std.proofs.lemmas.Int.{to_z-of_z}
use Rattle.dp_game.specs.Games.{KeptGame}
use Rattle.dp_search.specs.Completions.{bound_after}
use Rattle.dp_search.proofs.completion.best_action.Goals as goal

pub loop-action-preserved : goal.loop-action-preserved
loop-action-preserved c =
    let i = c.args.agent in
    let cl = c.args.class in
    let worth = bound_after c.args.game.now i cl in
    let same = to_z-of_z w128 c.chosen_bound-worth.result (search (rules, c.chosen_bound-worth.type_inv))
    ∙ c.chosen_bound-worth.ensures.is
    ∙ ap (λ (g : KeptGame). bound_after g i cl c.loop-action.action) c.loop-action.invariant.2 in
    let kept = c.better-best.ensures.best worth c.loop-action.invariant.0 c.loop-action.invariant.1 same in
    (kept.0, kept.1, c.chosen_bound-worth.ensures.game ∙ c.loop-action.invariant.2)
