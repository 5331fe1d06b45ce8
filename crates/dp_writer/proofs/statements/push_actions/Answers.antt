use Rattle.std.proofs.Common.{false, map, ap, ◌∙◌, arith}
use Rattle.std.specs.Fmt.{decimal}
use Rattle.std.proofs.lemmas.List.{take_all}
use Rattle.dp_spec.specs.JointNumbers.{parts_of}
use Rattle.dp_spec.proofs.JointNumberLaws.{length-parts_of}
use Rattle.dp_writer.specs.WrittenLines.{words_text}
use Rattle.dp_writer.proofs.Appending.{spelled}
use Rattle.dp_writer.proofs.WordTexts.{item_written}
use Rattle.dp_writer.proofs.statements.push_actions.Goals as goal

pub loop-agent-preserved : goal.loop-agent-preserved
loop-agent-preserved c =
    let ns = c.args.model.now.model.actions in
    let a = c.args.action in
    item_written false decimal (parts_of ns a) c.loop-agent.agent 0 c.from.result c.args.text.now c.loop-agent.text
    c.push.new.self c.push_number.new.text
    (omega (arith, c.loop-agent-test.true, c.agents-agent-end.ensures.is, length-parts_of ns a))
    (c.from.ensures ∙ c.local_action.ensures) c.loop-agent.invariant c.in_ok-push.ensures c.in_ok-push_number.ensures

pub returns : goal.returns
returns c =
    let ns = c.args.model.now.model.actions in
    let a = c.args.action in
    spelled c.args.text.now c.loop-agent.text _ _
    (ap (λ ps. words_text false (map decimal ps)) (take_all _ (parts_of ns a)
    (omega (arith, c.loop-agent-test.false, c.agents-agent-end.ensures.is, length-parts_of ns a))))
    c.loop-agent.invariant
