use Rattle.std.proofs.Common.{sym, subst, rules}
use Rattle.std.specs.Int.{w128}
use Rattle.std.proofs.lemmas.Int.{to_z-of_z}
use mir.Val.{SFits}
use Rattle.dp_pomdp.specs.Bounding.{BoundsEarnings}
use Rattle.dp_pomdp.specs.Looking.{weights_of}
use Rattle.dp_pomdp.proofs.bounds.tail_bound.Goals as goal

pub returns-clause-sound : goal.returns-clause-sound
returns-clause-sound c =
    let fit = c.args.fit in
    let fits : SFits w128 c.tail_bound.result = search rules in
    subst (BoundsEarnings fit.exact c.args.model.now.model fit.horizon fit.unit c.args.t
    (weights_of c.args.weights.now)) (sym (to_z-of_z w128 _ fits)) c.tail_bound.ensures.sound
