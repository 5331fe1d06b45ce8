use Rattle.std.proofs.Common.{refl}
use Rattle.dp_spec.specs.Zeros.{nothing}
use Rattle.dp_base.proofs.MadeLists.{next_after}
use Rattle.dp_cluster.proofs.advance.push_nothing.Goals as goal

pub loop-preserved : goal.loop-preserved
loop-preserved c =
    next_after (λ s. nothing) c.args.weights.now.items c.loop.weights.items _ c.loop.counter _ refl
    c.in_ok-push.ensures.items c.loop.invariant
