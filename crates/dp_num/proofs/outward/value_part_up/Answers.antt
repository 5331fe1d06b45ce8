use Rattle.std.proofs.Common.{arith}
use Rattle.std.proofs.lemmas.Int.{to_z-of_z}
use mir.Syntax.{w128}
use mir.Val.{SFits}
use Rattle.dp_num.proofs.Parts.{value_part_most}
use Rattle.dp_num.proofs.outward.value_part_up.Goals as goal

pub returns-clause-size : goal.returns-clause-size
returns-clause-size c =
    let fits_v : SFits w128 c.args.value = c.ranges.value in
    let fits_p : SFits w128 c.from.result = record { sfits = c.from.type_inv } in
    let fits_d : SFits w128 c.from-2.result = record { sfits = c.from-2.type_inv } in
    let fits_r : SFits w128 c.mul_up.result = record { sfits = c.mul_up.type_inv } in
    let is = simp to_z-of_z at c.mul_up.ensures.ceiling in
    let most = value_part_most c.args.value c.args.part c.args.whole c.from.result c.from-2.result
    c.mul_up.result
    c.requires.some c.requires.part c.from.ensures c.from-2.ensures is in
    simp to_z-of_z (omega arith)
