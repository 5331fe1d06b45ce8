use Rattle.std.proofs.Common.{◌∙◌, sym, subst, rules}
use Rattle.std.specs.Int.{w128}
use Rattle.std.proofs.lemmas.Int.{to_z-of_z}
use mir.Val.{SFits}
use Rattle.dp_pomdp.specs.Bounding.{BoundsEarnings}
use Rattle.dp_pomdp.specs.Looking.{weights_of}
use Rattle.dp_pomdp.proofs.Sound.{look_ahead_bounds}
use Rattle.dp_pomdp.proofs.bounds.LookRoom.tail_bound.Goals as goal

pub returns-clause-sound : goal.returns-clause-sound
returns-clause-sound c =
    let m = c.args.model.now.model in
    let fit = c.args.fit in
    let ws = weights_of c.args.weights.now in
    let fits : SFits w128 c.look_in_mode.result = search rules in
    let is = to_z-of_z w128 _ fits ∙ c.look_in_mode.ensures.is in
    subst (BoundsEarnings fit.exact m fit.horizon fit.unit c.args.t ws) (sym is)
    (look_ahead_bounds fit.exact m c.invariant.ensures.model fit.horizon c.args.t c.args.look fit.unit
    c.requires.fit c.requires.time ws)
