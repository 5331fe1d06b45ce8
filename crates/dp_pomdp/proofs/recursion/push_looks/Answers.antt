use Rattle.std.proofs.Common.{◌∙◌, rules}
use Rattle.std.specs.Int.{w128}
use Rattle.std.proofs.lemmas.Int.{to_z-of_z}
use mir.Val.{SFits}
use Rattle.dp_spec.specs.Quantities.{action_look_ahead_in}
use Rattle.dp_pomdp.specs.Looking.{weights_of}
use Rattle.dp_base.proofs.MadeLists.{next_after}
use Rattle.dp_pomdp.proofs.recursion.push_looks.Goals as goal

pub loop-action-preserved : goal.loop-action-preserved
loop-action-preserved g c =
    let fits : SFits w128 c.action_look_ahead-value.result = search rules in record {
      row = next_after (λ a. action_look_ahead_in (g.A.Arith.operations c.args.arith.now) c.args.model.now.model
          c.args.rest (weights_of c.args.weights.now) a c.args.look) c.args.row.now.items c.loop-action.row.items
          c.push.new.self.items c.loop-action.action _
          (to_z-of_z w128 _ fits ∙ c.action_look_ahead-value.ensures.is) c.in_ok-push.ensures.items
          c.loop-action.invariant.row;
      kept = c.action_look_ahead-value.ensures.memo;
    }
