use Rattle.std.proofs.Common.{◌+◌, get_or, refl}
use Rattle.dp_game.proofs.ClassNumbers.{pushed_map}
use Rattle.dp_game.proofs.numbers.push_from.Goals as goal

pub loop-joint-preserved : goal.loop-joint-preserved
loop-joint-preserved c =
    pushed_map (λ C. c.args.first + get_or c.args.later.now C 0) _ _ _ c.loop-joint.joint _ refl
    c.loop-joint.invariant c.in_ok-push.ensures.items
