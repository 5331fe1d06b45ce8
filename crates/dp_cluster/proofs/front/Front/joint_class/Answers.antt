use Rattle.std.proofs.Common.{◌<◌, ◌≤◌, ◌+◌, ◌*◌, ◌^◌, length, get_or, drop, sym, ◌∙◌, add-one, arith}
use Rattle.dp_spec.specs.Front.{class_counts}
use Rattle.dp_spec.specs.JointNumbers.{joint_number, product}
use Rattle.dp_model.proofs.JointNumberLemmas.{are_below}
use Rattle.dp_cluster.proofs.FrontParts.{as_many_counts, count_most, joint_end, joint_next, joint_room}
use Rattle.dp_cluster.proofs.front.Front.joint_class.Goals as goal

-- the number so far and the agent's part have room
pub overflow_mul-joint : goal.overflow_mul-joint
overflow_mul-joint c =
    let ns = class_counts c.args.self.now.front.agents in
    let lt : c.loop-agent.agent < length ns = omega (
      arith,
      c.agents-agent-end.ensures,
      c.loop-agent-test.true,
      as_many_counts c.args.self.now.front.agents,
    ) in
    let room = joint_room ns c.args.classes.now c.loop-agent.agent c.loop-agent.joint
    (are_below _ _ c.requires.classes) lt c.loop-agent.invariant in
    let few = count_most (product ns) c.args.self.now.states (2 ^ 22) c.requires.some
    (c.invariant.ensures.room c.requires.stage) in
    rw c.classes-count.ensures (omega arith)

pub overflow_add-joint : goal.overflow_add-joint
overflow_add-joint c =
    let ns = class_counts c.args.self.now.front.agents in
    let lt : c.loop-agent.agent < length ns = omega (
      arith,
      c.agents-agent-end.ensures,
      c.loop-agent-test.true,
      as_many_counts c.args.self.now.front.agents,
    ) in
    let room = joint_room ns c.args.classes.now c.loop-agent.agent c.loop-agent.joint
    (are_below _ _ c.requires.classes) lt c.loop-agent.invariant in
    let few = count_most (product ns) c.args.self.now.states (2 ^ 22) c.requires.some
    (c.invariant.ensures.room c.requires.stage) in
    rw c.classes-count.ensures (omega arith)

pub loop-agent-preserved : goal.loop-agent-preserved
loop-agent-preserved c =
    let ns = class_counts c.args.self.now.front.agents in
    let ps = c.args.classes.now in
    let lt : c.loop-agent.agent < length ns = omega (
      arith,
      c.agents-agent-end.ensures,
      c.loop-agent-test.true,
      as_many_counts c.args.self.now.front.agents,
    ) in
    (λ j. (c.loop-agent.joint * c.classes-count.ensures j + get_or ps c.loop-agent.agent 0) * product
    (drop (add-one c.loop-agent.agent j) ns) + joint_number (drop (add-one c.loop-agent.agent j) ns)
    (drop (add-one c.loop-agent.agent j) ps))
    ∙ sym (joint_next ns ps c.loop-agent.agent c.loop-agent.joint c.requires.classes.alike lt)
    ∙ c.loop-agent.invariant

pub returns : goal.returns
returns c =
    let ns = class_counts c.args.self.now.front.agents in
    let le : length ns ≤ c.loop-agent.agent = omega (
      arith,
      c.agents-agent-end.ensures,
      c.loop-agent-test.false,
      as_many_counts c.args.self.now.front.agents,
    ) in
    joint_end ns c.args.classes.now c.loop-agent.agent c.loop-agent.joint _ le c.loop-agent.invariant
