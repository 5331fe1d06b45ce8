use Rattle.std.proofs.Common.{◌-◌}
use Rattle.dp_spec.specs.Arithmetic.{arithmetic}
use Rattle.dp_cluster.proofs.OwnParts.{next_made}
use Rattle.dp_game.specs.DeeperLooks.{chosen_look_in}
use Rattle.dp_game.proofs.deeper_looks.chosen_looks.Goals as goal

pub loop-joint-preserved : goal.loop-joint-preserved
loop-joint-preserved c =
    let m = c.args.model.now.model in
    let b = c.args.bounder.now in
    let front = c.args.front.now.front in (
      next_made (chosen_look_in (arithmetic b.is_exact m.scales) m (b.horizon - front.stage - 1) front
          c.args.look c.args.actions.now c.args.wanted.now)
          c.loop-joint.looks.items c.push.new.self.items c.loop-joint.joint _
          c.in_ok-value.ensures.is c.in_ok-push.ensures.items
          c.loop-joint.invariant.0,
      c.chosen_look.ensures.room,
    )
