use Rattle.std.proofs.Common.{◌<◌, ◌≤◌, length, ◌∙◌, arith}
use Rattle.dp_game.specs.Games.{own_counts}
use Rattle.dp_game.proofs.TakenApart.{as_many_counts, count_at, width_end, width_fits, width_next}
use Rattle.dp_game.proofs.places.width_from.Goals as goal

pub overflow_mul-width : goal.overflow_mul-width
overflow_mul-width c =
    let ns = own_counts c.args.choices.now in
    let j = c.loop-agent.agent in
    let lt : j < length ns = omega (arith, as_many_counts c.args.choices.now, c.loop-agent-test.true) in
    let is = c.count-width.ensures ∙ count_at c.args.choices.now j c.index-choices-agent.result
    c.loop-agent-test.true c.index-choices-agent.is in
    let le = width_fits ns c.args.first j c.loop-agent.width c.count-width.result lt is c.requires.some
    c.requires.few c.loop-agent.invariant in
    omega arith

pub loop-agent-preserved : goal.loop-agent-preserved
loop-agent-preserved c =
    let ns = own_counts c.args.choices.now in
    let j = c.loop-agent.agent in
    let lt : j < length ns = omega (arith, as_many_counts c.args.choices.now, c.loop-agent-test.true) in
    let is = c.count-width.ensures ∙ count_at c.args.choices.now j c.index-choices-agent.result
    c.loop-agent-test.true c.index-choices-agent.is in
    width_next ns c.args.first j c.loop-agent.width c.count-width.result lt is c.requires.some c.requires.few
    c.loop-agent.invariant

pub returns : goal.returns
returns c =
    let ns = own_counts c.args.choices.now in
    let le : length ns ≤ c.loop-agent.agent = omega
    (arith, as_many_counts c.args.choices.now, c.loop-agent-test.false) in
    width_end ns c.args.first c.loop-agent.agent c.loop-agent.width le c.loop-agent.invariant
