use Rattle.std.proofs.Common.{◌∙◌}
use Rattle.std.proofs.lemmas.Int.{to_z-of_z}
use mir.Syntax.{w128}
use mir.Val.{SFits}
use Rattle.dp_num.proofs.ExactSteps.{carry_fits, carry_all_fits, carry_is}
use Rattle.dp_num.proofs.exact.carried.Goals as goal

pub scaled-requires : goal.scaled-requires
scaled-requires c =
    let fits_v : SFits w128 c.args.v = c.ranges.v in
    simp to_z-of_z (record {
      room = carry_fits c.args.v c.args.p c.args.obs c.args.gain c.product.result
          c.requires.some c.product.ensures c.requires.room;
    })

pub times-requires : goal.times-requires
times-requires c =
    let fits_v : SFits w128 c.args.v = c.ranges.v in
    let fits_s : SFits w128 c.scaled.result = record { sfits = c.scaled.type_inv } in
    let fits_f : SFits w128 c.from.result = record { sfits = c.from.type_inv } in
    let part = simp to_z-of_z at c.scaled.ensures in
    simp to_z-of_z (record {
      room = carry_all_fits c.args.v c.args.p c.args.obs c.args.gain c.product.result
          c.scaled.result c.from.result part c.product.ensures c.from.ensures c.requires.room;
    })

pub returns : goal.returns
returns c =
    let fits_v : SFits w128 c.args.v = c.ranges.v in
    let fits_s : SFits w128 c.scaled.result = record { sfits = c.scaled.type_inv } in
    let fits_f : SFits w128 c.from.result = record { sfits = c.from.type_inv } in
    let fits_t : SFits w128 c.times.result = record { sfits = c.times.type_inv } in
    let part = simp to_z-of_z at c.scaled.ensures in
    let whole = simp to_z-of_z at c.times.ensures in
    simp to_z-of_z (whole ∙ carry_is c.args.v c.args.p c.args.obs c.args.gain c.product.result c.scaled.result
    c.from.result part c.product.ensures c.from.ensures)
