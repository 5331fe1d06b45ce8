use Rattle.std.proofs.Common.{◌≡◌, ◌+◌, ◌*◌, ◌<◌, ◌≤◌, suc, drop, get_or, length, arith}
use Rattle.dp_spec.specs.JointNumbers.{joint_number, product}
use Rattle.dp_model.specs.Parts.{AreParts}
use Rattle.dp_model.proofs.JointNumberLemmas.{are_below}
use Rattle.dp_model.proofs.numbering.Numbering.number_of.Goals as goal
use Rattle.dp_spec.proofs.JointNumberLaws.{joint_number-drop, joint_number_below}

pub overflow_mul-number : goal.overflow_mul-number
overflow_mul-number c =
    let ns = c.self.inside.sizes in
    let ps = c.args.parts.now in
    let i = c.loop-i.i in
    let parts : AreParts ns ps = rw c.self.view_is c.requires in
    let alike = parts.alike in
    let there : i < length ns = omega arith in
    let split : joint_number (drop i ns) (drop i ps) ≡ get_or ps i 0 * product (drop (suc i) ns)
    + joint_number (drop (suc i) ns) (drop (suc i) ps) = joint_number-drop ns ps i alike there in
    let below : joint_number ns ps < product ns = joint_number_below ns ps (are_below ns ps parts) in
    let limit : product ns ≤ 256 = c.self.invariant.limit in
    let step : get_or c.self.inside.steps i 0 ≡ product (drop (suc i) ns) =
    c.self.invariant.counts.stepped i (omega arith) there in
    rw step (omega arith)

pub overflow_add-number : goal.overflow_add-number
overflow_add-number c =
    let ns = c.self.inside.sizes in
    let ps = c.args.parts.now in
    let i = c.loop-i.i in
    let parts : AreParts ns ps = rw c.self.view_is c.requires in
    let alike = parts.alike in
    let there : i < length ns = omega arith in
    let split : joint_number (drop i ns) (drop i ps) ≡ get_or ps i 0 * product (drop (suc i) ns)
    + joint_number (drop (suc i) ns) (drop (suc i) ps) = joint_number-drop ns ps i alike there in
    let below : joint_number ns ps < product ns = joint_number_below ns ps (are_below ns ps parts) in
    let limit : product ns ≤ 256 = c.self.invariant.limit in
    let step : get_or c.self.inside.steps i 0 ≡ product (drop (suc i) ns) =
    c.self.invariant.counts.stepped i (omega arith) there in
    rw step (omega arith)
