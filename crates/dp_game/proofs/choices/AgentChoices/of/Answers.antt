use Rattle.std.proofs.Common.{◌<◌, ◌≤◌, length, get_or, None, sym, ◌∙◌, arith}
use Rattle.std.proofs.lemmas.List.{get_or_default, take_all}
use Rattle.dp_spec.specs.Front.{AgentFront}
use Rattle.dp_spec.specs.Steps.{root_agent}
use Rattle.dp_cluster.proofs.FrontParts.{choice_read, count_read}
use Rattle.dp_game.proofs.Rows.{pushed_first}
use Rattle.dp_game.proofs.choices.AgentChoices.of.Goals as goal

pub loop-class-preserved : goal.loop-class-preserved
loop-class-preserved c =
    let ds = c.args.front.now.front.agents in
    let i = c.args.agent in
    let d : AgentFront = get_or ds i root_agent in
    let same = get_or_default ds i d root_agent c.requires.agent in
    let count = count_read ds i d c.requires.agent same in
    let lt : c.loop-class.class < length d.chosen = omega
    (arith, count, c.classes-class-end.ensures, c.loop-class-test.true) in
    pushed_first _ _ d.chosen c.loop-class.class None _ lt
    (c.as_byte.ensures ∙ c.action.ensures ∙ sym (choice_read ds i c.loop-class.class d c.requires.agent same))
    c.loop-class.invariant c.in_ok-push.ensures.items

pub returns : goal.returns
returns c =
    let ds = c.args.front.now.front.agents in
    let i = c.args.agent in
    let d : AgentFront = get_or ds i root_agent in
    let same = get_or_default ds i d root_agent c.requires.agent in
    let count = count_read ds i d c.requires.agent same in
    let le : length d.chosen ≤ c.loop-class.class = omega
    (arith, count, c.classes-class-end.ensures, c.loop-class-test.false) in
    c.loop-class.invariant ∙ take_all c.loop-class.class d.chosen le
