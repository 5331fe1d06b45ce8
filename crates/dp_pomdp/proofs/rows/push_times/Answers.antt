use Rattle.std.proofs.Common.{◌∙◌, pos, rules}
use Rattle.std.specs.Int.{w128}
use Rattle.std.proofs.lemmas.Int.{to_z-of_z}
use mir.Val.{SFits}
use Rattle.dp_pomdp.proofs.PushedRows.{next_mapped}
use Rattle.dp_pomdp.proofs.rows.push_times.Goals as goal

pub loop-at-preserved : goal.loop-at-preserved
loop-at-preserved c =
    let fits : SFits w128 c.product_of.result = search rules in
    next_mapped _ c.args.values.now c.args.row.now.items c.loop-at.row.items
    c.push.new.self.items c.loop-at.at (pos 0) _ c.loop-at-test.true
    (to_z-of_z w128 _ fits ∙ c.product_of.ensures) c.in_ok-push.ensures.items c.loop-at.invariant
