use Rattle.std.proofs.lemmas.Int.{to_z-of_z}
use mir.Syntax.{w128}
use mir.Val.{SFits}
use Rattle.dp_base.proofs.Ring.{zle_trans}
use Rattle.dp_num.proofs.Parts.{part_down_most}
use Rattle.dp_num.proofs.outward.part_down.Goals as goal

pub returns-clause-to : goal.returns-clause-to
returns-clause-to c =
    let fits_w : SFits w128 c.args.weight = c.ranges.weight in
    let fits_p : SFits w128 c.from.result = record { sfits = c.from.type_inv } in
    let fits_d : SFits w128 c.from-2.result = record { sfits = c.from-2.type_inv } in
    let fits_r : SFits w128 c.mul_down.result = record { sfits = c.mul_down.type_inv } in
    let is = simp to_z-of_z at c.mul_down.ensures.floor in
    let most = part_down_most c.args.weight c.args.part c.args.whole c.from.result c.from-2.result
    c.mul_down.result c.requires.from c.requires.some c.requires.part c.from.ensures c.from-2.ensures is in
    simp to_z-of_z (zle_trans _ _ _ most c.requires.to)
