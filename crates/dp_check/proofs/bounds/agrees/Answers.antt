use Rattle.std.proofs.Common.{◌≡◌, ◌<◌, ◌≤◌, length, sym, ◌∙◌, arith, rules}
use Rattle.dp_spec.specs.Front.{class_counts}
use Rattle.dp_spec.specs.JointNumbers.{parts_of}
use Rattle.dp_spec.proofs.JointNumberLaws.{length-parts_of}
use Rattle.dp_cluster.proofs.ChosenActions.{agents_of}
use Rattle.dp_cluster.proofs.FrontParts.{as_many_counts}
use Rattle.dp_check.proofs.Choices.{agree_end, agree_next, agree_not}
use Rattle.dp_check.proofs.bounds.agrees.Goals as goal

pub returns-then-not-agrees_with : goal.returns-then-not-agrees_with
returns-then-not-agrees_with c =
    let ds = c.args.front.now.front.agents in
    let bs = c.args.m.now.model.actions in
    let agents = agents_of c.requires.front.agents in
    let lt : c.loop-agent.agent < length ds = omega (
      arith,
      c.agents-agent-end.ensures.is,
      c.loop-agent-test.true,
    ) in
    let classes : length (parts_of (class_counts ds) c.args.class)
    ≡ length ds = length-parts_of (class_counts ds) c.args.class ∙ as_many_counts ds in
    let actions : length (parts_of bs c.args.action) ≡ length ds = length-parts_of bs c.args.action
    ∙ sym agents in
    agree_not ds _ _ c.loop-agent.agent _ _ lt classes actions (c.requires.choices c.loop-agent.agent lt)
    c.local_action.ensures (search rules) ∙ c.loop-agent.invariant

pub loop-agent-preserved : goal.loop-agent-preserved
loop-agent-preserved c =
    let ds = c.args.front.now.front.agents in
    let bs = c.args.m.now.model.actions in
    let agents = agents_of c.requires.front.agents in
    let lt : c.loop-agent.agent < length ds = omega (
      arith,
      c.agents-agent-end.ensures.is,
      c.loop-agent-test.true,
    ) in
    let classes : length (parts_of (class_counts ds) c.args.class)
    ≡ length ds = length-parts_of (class_counts ds) c.args.class ∙ as_many_counts ds in
    let actions : length (parts_of bs c.args.action) ≡ length ds = length-parts_of bs c.args.action
    ∙ sym agents in
    sym (agree_next ds _ _ c.loop-agent.agent _ _ lt classes actions (c.requires.choices c.loop-agent.agent lt)
    c.local_action.ensures (search rules)) ∙ c.loop-agent.invariant

pub returns : goal.returns
returns c =
    let ds = c.args.front.now.front.agents in
    let agents = agents_of c.requires.front.agents in
    let le : length ds ≤ c.loop-agent.agent = omega (
      arith,
      c.agents-agent-end.ensures.is,
      c.loop-agent-test.false,
    ) in
    agree_end ds _ _ c.loop-agent.agent le ∙ c.loop-agent.invariant
