use Rattle.std.proofs.Common.{◌∙◌, pos, get_or, rules}
use Rattle.std.specs.Int.{w128}
use Rattle.std.proofs.lemmas.Int.{to_z-of_z}
use mir.Val.{SFits}
use Rattle.dp_mdp.proofs.StepParts.{carried_is}
use Rattle.dp_mdp.proofs.build.carried.Goals as goal

pub carry-requires : goal.carry-requires
carry-requires g c =
    let fits : SFits w128 (get_or c.args.row.now c.args.next (pos 0)) = search rules in
    record {
      allowed = simp to_z-of_z (rw (c.requires.row.values c.args.next c.requires.next, c.requires.chance)
          (c.requires.sizes.carry _ _ _ c.requires.action c.requires.state c.requires.next));
    }

pub returns : goal.returns
returns g c =
    let fits : SFits w128 (get_or c.args.row.now c.args.next (pos 0)) = search rules in
    let carried = simp to_z-of_z at c.carry.ensures in
    let fits-result : SFits w128 c.carry.result = search rules in
    to_z-of_z w128 c.carry.result fits-result ∙ carried_is (g.A.Arith.operations c.args.arith.now)
    _ _ _ _ _ carried (c.requires.row.values c.args.next c.requires.next) c.requires.chance
