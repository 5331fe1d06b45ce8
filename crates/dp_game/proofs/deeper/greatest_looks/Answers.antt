use Rattle.std.proofs.Common.{◌-◌, ◌∙◌, rules}
use Rattle.std.specs.Int.{w128}
use Rattle.std.proofs.lemmas.Int.{to_z-of_z}
use mir.Val.{SFits}
use Rattle.dp_spec.specs.Arithmetic.{arithmetic}
use Rattle.dp_cluster.proofs.OwnParts.{next_made}
use Rattle.dp_game.specs.Kept.{greatest_look_in}
use Rattle.dp_game.proofs.deeper.greatest_looks.Goals as goal

pub loop-joint-preserved : goal.loop-joint-preserved
loop-joint-preserved c =
    let m = c.args.model.now.model in
    let b = c.args.bounder.now in
    let front = c.args.front.now.front in
    let fits : SFits w128 c.in_ok-value.value = search (rules, c.look_at.type_inv) in (
      next_made (greatest_look_in (arithmetic b.is_exact m.scales) m (b.horizon - front.stage - 1) front
          c.args.look c.args.actions.now c.args.wanted.now)
          c.loop-joint.greatest.items c.push.new.self.items c.loop-joint.joint _
          (to_z-of_z w128 _ fits ∙ c.in_ok-value.ensures.is) c.in_ok-push.ensures.items
          c.loop-joint.invariant.0,
      c.look_at.ensures.room,
    )
