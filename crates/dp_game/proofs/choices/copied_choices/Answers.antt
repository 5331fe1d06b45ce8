use Rattle.std.proofs.Common.{◌<◌, length, ◌∙◌, arith}
use Rattle.dp_game.proofs.Rows.{pushed_first}
use Rattle.dp_game.proofs.choices.copied_choices.Goals as goal

pub loop-own-preserved : goal.loop-own-preserved
loop-own-preserved c =
    let lt : c.loop-own.own-index < length c.args.choices.now = omega arith in
    pushed_first _ _ c.args.choices.now c.loop-own.own-index c.own-item.result _ lt
    (c.in_ok-copy.ensures ∙ c.own-item.is) c.loop-own.invariant c.in_ok-push.ensures.items
