use Rattle.std.proofs.Common.{◌∙◌, sym, subst, rules}
use Rattle.std.specs.Int.{w128}
use Rattle.std.proofs.lemmas.Int.{to_z-of_z}
use mir.Val.{SFits}
use Rattle.dp_pomdp.specs.Bounding.{BoundsEarningsOf}
use Rattle.dp_pomdp.specs.Looking.{weights_of}
use Rattle.dp_pomdp.proofs.Sound.{action_look_ahead_bounds}
use Rattle.dp_pomdp.proofs.bounds.LookRoom.action_bound.Goals as goal

pub returns-clause-sound : goal.returns-clause-sound
returns-clause-sound c =
    let m = c.args.model.now.model in
    let fit = c.args.fit in
    let ws = weights_of c.args.weights.now in
    let fits : SFits w128 c.action_in_mode.result = search rules in
    let is = to_z-of_z w128 _ fits ∙ c.action_in_mode.ensures.is in
    subst (BoundsEarningsOf fit.exact m fit.horizon fit.unit c.args.t ws c.args.a) (sym is)
    (action_look_ahead_bounds fit.exact m c.invariant.ensures.model fit.horizon c.args.t c.args.a c.args.look
    fit.unit c.requires.fit c.requires.time ws)
