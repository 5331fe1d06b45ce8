use Rattle.std.proofs.Common.{◌+◌, ◌*◌, get_or, length, pos, suc, ◌∙◌, arith, rules}
use Rattle.std.specs.Int.{w128}
use Rattle.std.proofs.lemmas.Int.{to_z-of_z}
use mir.Val.{SFits}
use Rattle.dp_pomdp.proofs.Steps.{offset_fits, offset_next}
use Rattle.dp_game.proofs.change.bound_of.Goals as goal

pub overflow_add-bound : goal.overflow_add-bound
overflow_add-bound c =
    let fits : SFits w128 c.entry_at-bound.result = search rules in
    let earned-fits : SFits w128 c.args.earned = search rules in
    offset_fits _ c.loop-joint.joint
    (λ C. get_or c.args.best.now (get_or c.args.numbers.now C 0 * length c.args.numbers.now + C) (pos 0)) _ _
    c.loop-joint.invariant (to_z-of_z w128 _ fits ∙ c.entry_at-bound.ensures)
    (rw (to_z-of_z w128 _ earned-fits) (c.requires.fits (suc c.loop-joint.joint) (omega arith)))

pub loop-joint-preserved : goal.loop-joint-preserved
loop-joint-preserved c =
    let fits : SFits w128 c.entry_at-bound.result = search rules in
    let earned-fits : SFits w128 c.args.earned = search rules in
    offset_next _ c.loop-joint.joint
    (λ C. get_or c.args.best.now (get_or c.args.numbers.now C 0 * length c.args.numbers.now + C) (pos 0)) _ _
    c.loop-joint.invariant (to_z-of_z w128 _ fits ∙ c.entry_at-bound.ensures)
    (rw (to_z-of_z w128 _ earned-fits) (c.requires.fits (suc c.loop-joint.joint) (omega arith)))
