use Rattle.std.proofs.Common.{ℤ, pos, ◌*ℤ◌, ap, ◌∙◌}
use Rattle.std.proofs.lemmas.Int.{to_z-of_z}
use mir.Syntax.{w128}
use mir.Val.{SFits}
use Rattle.dp_num.proofs.ExactSteps.{gain_fits, part_fits}
use Rattle.dp_num.proofs.exact.gained.Goals as goal
use Rattle.dp_base.proofs.Ring.{zmul_assoc}

pub times-requires : goal.times-requires
times-requires c =
    let fits_c : SFits w128 c.args.c = c.ranges.c in
    let fits_r : SFits w128 c.args.r = c.ranges.r in
    simp to_z-of_z (record { room = part_fits c.args.c c.args.r c.args.factor c.requires.some c.requires.room })

pub scaled-requires : goal.scaled-requires
scaled-requires c =
    let fits_c : SFits w128 c.args.c = c.ranges.c in
    let fits_r : SFits w128 c.args.r = c.ranges.r in
    let fits_t : SFits w128 c.times.result = record { sfits = c.times.type_inv } in
    let part = simp to_z-of_z at c.times.ensures in
    simp to_z-of_z (record {
      room = gain_fits c.args.c c.args.r c.args.factor c.times.result part
          c.requires.room;
    })

pub returns : goal.returns
returns c =
    let fits_c : SFits w128 c.args.c = c.ranges.c in
    let fits_r : SFits w128 c.args.r = c.ranges.r in
    let fits_t : SFits w128 c.times.result = record { sfits = c.times.type_inv } in
    let fits_s : SFits w128 c.scaled.result = record { sfits = c.scaled.type_inv } in
    let part = simp to_z-of_z at c.times.ensures in
    let whole = simp to_z-of_z at c.scaled.ensures in
    simp to_z-of_z (whole ∙ ap (λ (x : ℤ). x *ℤ pos c.args.factor) part
    ∙ zmul_assoc c.args.c c.args.r (pos c.args.factor))
