use Rattle.std.proofs.Common.{◌≡◌, ◌*◌, ◌-◌, ◌<◌, ◌≤◌, suc, drop, get_or, length, arith}
use Rattle.dp_spec.specs.JointNumbers.{product}
use Rattle.dp_model.proofs.JointNumberLemmas.{back-count, back-steps}
use Rattle.dp_model.proofs.numbering.Numbering.new.Goals as goal
use Rattle.dp_spec.proofs.JointNumberLaws.{product-drop_le}

pub overflow_mul-count : goal.overflow_mul-count
overflow_mul-count c =
    let ns = c.args.sizes in
    let back : c.loop-agent.agent ≡ suc (c.loop-agent.agent - 1) = omega arith in
    let there : c.loop-agent.agent - 1 < length ns = omega arith in
    let is : c.loop-agent.count * get_or ns (c.loop-agent.agent - 1) 0 ≡ product (drop (c.loop-agent.agent - 1) ns) =
    back-count ns (c.loop-agent.agent - 1) c.loop-agent.agent c.loop-agent.count back there
    c.loop-agent.invariant.counted in
    let limit : product (drop (c.loop-agent.agent - 1) ns) ≤ product ns =
    product-drop_le ns (c.loop-agent.agent - 1) c.requires.some in
    rw c.as_slice.ensures (omega arith)

pub loop-agent-preserved : goal.loop-agent-preserved
loop-agent-preserved c =
    let ns = c.args.sizes in
    let back : c.loop-agent.agent ≡ suc (c.loop-agent.agent - 1) = omega arith in
    let there : c.loop-agent.agent - 1 < length ns = omega arith in
    rw c.as_slice.ensures (back-steps ns (c.loop-agent.agent - 1) c.loop-agent.agent c.loop-agent.count
    c.loop-agent.steps back there c.loop-agent.invariant)
