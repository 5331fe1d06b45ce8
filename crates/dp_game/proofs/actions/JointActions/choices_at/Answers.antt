use Rattle.std.proofs.Common.{◌<◌, ◌≤◌, length, None, suc, sym, ap, ◌∙◌, arith}
use Rattle.std.proofs.lemmas.List.{get_or-map, length-map}
use Rattle.dp_spec.specs.JointNumbers.{parts_of}
use Rattle.dp_spec.proofs.JointNumberLaws.{length-parts_of}
use Rattle.dp_game.specs.Extended.{choice_counts, choice_of, choices_at}
use Rattle.dp_game.proofs.Rows.{pushed_first}
use Rattle.std.proofs.lemmas.List.{take_all}
use Rattle.dp_game.proofs.actions.JointActions.choices_at.Goals as goal

pub loop-agent-preserved : goal.loop-agent-preserved
loop-agent-preserved c =
    let bs = c.args.self.now in
    let parts = parts_of (choice_counts bs) c.args.extended in
    let long = length-parts_of (choice_counts bs) c.args.extended ∙ length-map bs (λ b. suc b) in
    let lt : c.loop-agent.agent < length parts = omega
    (arith, long, c.agents-agent-end.ensures.is, c.loop-agent-test.true) in
    pushed_first _ _ (choices_at bs c.args.extended) c.loop-agent.agent None _
    (omega (arith, length-map parts choice_of, lt))
    (c.choice_of.ensures ∙ ap choice_of c.part.ensures.is
    ∙ sym (get_or-map choice_of parts c.loop-agent.agent 0 None lt))
    c.loop-agent.invariant c.in_ok-push.ensures.items

pub returns : goal.returns
returns c =
    let bs = c.args.self.now in
    let parts = parts_of (choice_counts bs) c.args.extended in
    let long = length-parts_of (choice_counts bs) c.args.extended ∙ length-map bs (λ b. suc b) in
    let le : length (choices_at bs c.args.extended) ≤ c.loop-agent.agent = omega
    (arith, length-map parts choice_of, long, c.agents-agent-end.ensures.is, c.loop-agent-test.false) in
    c.loop-agent.invariant ∙ take_all c.loop-agent.agent (choices_at bs c.args.extended) le
