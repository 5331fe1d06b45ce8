use Rattle.std.proofs.Common.{◌<◌, ◌≤◌, ◌%◌, length, get_or, sym, ap, subst, ◌∙◌, arith}
use Rattle.dp_spec.specs.JointNumbers.{joint_number}
use Rattle.dp_model.specs.Parts.{AreParts}
use Rattle.dp_cluster.specs.Keys.{last_seen}
use Rattle.dp_cluster.proofs.AdvancedParts.{seen_positive, taken_whole}
use Rattle.dp_cluster.proofs.KeyPairs.{seen_long, seen_parts, seen_read, taken_next}
use Rattle.dp_cluster.proofs.key.last_seen.Goals as goal

pub nonzero_rem-own : goal.nonzero_rem-own
nonzero_rem-own c =
    let m = c.args.m.now.model in
    let lt : c.loop-agent.agent < length m.observations =
    omega (arith, c.agents-agent-end.ensures.is, c.loop-agent-test.true, c.invariant.ensures.model.sizes.alike) in
    omega (arith, seen_positive m c.invariant.ensures.model c.loop-agent.agent lt, c.observations.ensures)

pub loop-agent-preserved : goal.loop-agent-preserved
loop-agent-preserved c =
    let m = c.args.m.now.model in
    let own = c.args.own.now in
    let lt : c.loop-agent.agent < length m.observations =
    omega (arith, c.agents-agent-end.ensures.is, c.loop-agent-test.true, c.invariant.ensures.model.sizes.alike) in
    taken_next (last_seen m.observations own) c.loop-agent.seen.items c.push.new.self.items
    (get_or own c.loop-agent.agent 0 % c.observations.result) c.loop-agent.agent
    (omega (arith, seen_long m.observations own c.requires))
    (ap (λ n. get_or own c.loop-agent.agent 0 % n) c.observations.ensures
    ∙ sym (seen_read m.observations own c.loop-agent.agent _ c.requires lt))
    c.in_ok-push.ensures.items c.loop-agent.invariant

pub joint_obs_of-requires : goal.joint_obs_of-requires
joint_obs_of-requires c =
    let m = c.args.m.now.model in
    let own = c.args.own.now in
    let le : length m.observations ≤ c.loop-agent.agent =
    omega (arith, c.agents-agent-end.ensures.is, c.loop-agent-test.false, c.invariant.ensures.model.sizes.alike) in
    let made = c.deref.ensures.value ∙ c.loop-agent.invariant ∙ taken_whole (last_seen m.observations own)
    c.loop-agent.agent (omega (arith, seen_long m.observations own c.requires)) in
    subst (AreParts m.observations) (sym made) (seen_parts m own c.invariant.ensures.model c.requires)

pub returns : goal.returns
returns c =
    let m = c.args.m.now.model in
    let own = c.args.own.now in
    let le : length m.observations ≤ c.loop-agent.agent =
    omega (arith, c.agents-agent-end.ensures.is, c.loop-agent-test.false, c.invariant.ensures.model.sizes.alike) in
    let made = c.deref.ensures.value ∙ c.loop-agent.invariant ∙ taken_whole (last_seen m.observations own)
    c.loop-agent.agent (omega (arith, seen_long m.observations own c.requires)) in
    c.joint_obs_of.ensures ∙ ap (joint_number m.observations) made
