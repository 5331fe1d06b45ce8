use Rattle.std.proofs.Common.{◌<◌, ◌≤◌, ◌/◌, length, get_or, sym, ap, ◌∙◌, arith}
use Rattle.dp_cluster.specs.Keys.{without_last}
use Rattle.dp_cluster.proofs.AdvancedParts.{seen_positive, taken_whole}
use Rattle.dp_cluster.proofs.KeyPairs.{shorter_long, shorter_read, taken_next}
use Rattle.dp_cluster.proofs.key.without_last.Goals as goal

pub nonzero_div-own : goal.nonzero_div-own
nonzero_div-own c =
    let m = c.args.m.now.model in
    let lt : c.loop-agent.agent < length m.observations =
    omega (arith, c.agents-agent-end.ensures.is, c.loop-agent-test.true, c.invariant.ensures.model.sizes.alike) in
    omega (arith, seen_positive m c.invariant.ensures.model c.loop-agent.agent lt, c.observations.ensures)

pub loop-agent-preserved : goal.loop-agent-preserved
loop-agent-preserved c =
    let m = c.args.m.now.model in
    let own = c.args.own.now in
    let lt : c.loop-agent.agent < length m.observations =
    omega (arith, c.agents-agent-end.ensures.is, c.loop-agent-test.true, c.invariant.ensures.model.sizes.alike) in
    taken_next (without_last m.observations own) c.loop-agent.before.items c.push.new.self.items
    (get_or own c.loop-agent.agent 0 / c.observations.result) c.loop-agent.agent
    (omega (arith, shorter_long m.observations own c.requires))
    (ap (λ n. get_or own c.loop-agent.agent 0 / n) c.observations.ensures
    ∙ sym (shorter_read m.observations own c.loop-agent.agent _ c.requires lt))
    c.in_ok-push.ensures.items c.loop-agent.invariant

pub returns : goal.returns
returns c =
    let m = c.args.m.now.model in
    let own = c.args.own.now in
    let le : length m.observations ≤ c.loop-agent.agent =
    omega (arith, c.agents-agent-end.ensures.is, c.loop-agent-test.false, c.invariant.ensures.model.sizes.alike) in
    c.loop-agent.invariant ∙ taken_whole (without_last m.observations own)
    c.loop-agent.agent (omega (arith, shorter_long m.observations own c.requires))
