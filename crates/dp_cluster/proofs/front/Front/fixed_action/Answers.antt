use Rattle.std.proofs.Common.{◌<◌, ◌≤◌, [], length, get_or, sym, ap, subst, ◌∙◌, arith}
use Rattle.dp_spec.specs.Front.{AgentFront, fixed_actions}
use Rattle.dp_spec.specs.JointNumbers.{joint_number}
use Rattle.dp_spec.specs.Steps.{root_agent}
use Rattle.dp_model.specs.Parts.{AreParts}
use Rattle.dp_cluster.proofs.AdvancedParts.{read_front, taken_whole}
use Rattle.dp_cluster.proofs.ChosenActions.{seen_of}
use Rattle.dp_cluster.proofs.KeyPairs.{action_parts, actions_long, actions_read, history_long, history_within}
use Rattle.dp_cluster.proofs.KeyPairs.{own_class, taken_next, within_at}
use Rattle.dp_cluster.proofs.front.Front.fixed_action.Goals as goal

pub bounds-own-agent : goal.bounds-own-agent
bounds-own-agent c =
    let m = c.args.m.now.model in
    let long = history_long m c.args.time c.args.own.now c.requires.history in
    let seen = seen_of c.requires.of_model.front.agents in
    omega (arith, c.agents-agent-end.ensures, c.loop-agent-test.true)

pub fixed-requires-clause-stage : goal.fixed-requires-clause-stage
fixed-requires-clause-stage c =
    let inside : c.loop-agent.agent < length c.args.self.now.front.agents = omega
    (arith, c.agents-agent-end.ensures, c.loop-agent-test.true) in
    let own = read_front c.args.m.now.model c.args.self.now c.requires.of_model c.loop-agent.agent inside
    c.part.result.now c.part.ensures.front c.part.ensures.observations in
    omega (arith, own.of_stage, c.requires.time)

pub fixed-requires-clause-class : goal.fixed-requires-clause-class
fixed-requires-clause-class c =
    let m = c.args.m.now.model in
    let i = c.loop-agent.agent in
    let own = c.args.own.now in
    let inside : i < length c.args.self.now.front.agents = omega
    (arith, c.agents-agent-end.ensures, c.loop-agent-test.true) in
    let seen = seen_of c.requires.of_model.front.agents in
    let below = within_at m.observations c.args.time own i (history_within m c.args.time own c.requires.history)
    (omega arith) in
    let class = own_class m c.args.self.now c.requires.of_model i inside c.part.result.now c.part.ensures.front
    c.part.ensures.observations c.part.ensures.past (c.requires.numbers i inside) c.args.time (get_or own i 0)
    c.requires.time below in
    (get_or own i 0, class.0, class.1)

pub loop-agent-preserved : goal.loop-agent-preserved
loop-agent-preserved c =
    let m = c.args.m.now.model in
    let i = c.loop-agent.agent in
    let own = c.args.own.now in
    let ds = c.args.self.now.front.agents in
    let inside : i < length ds = omega (arith, c.agents-agent-end.ensures, c.loop-agent-test.true) in
    let seen = seen_of c.requires.of_model.front.agents in
    let long = history_long m c.args.time own c.requires.history in
    let below = within_at m.observations c.args.time own i (history_within m c.args.time own c.requires.history)
    (omega arith) in
    let class = own_class m c.args.self.now c.requires.of_model i inside c.part.result.now c.part.ensures.front
    c.part.ensures.observations c.part.ensures.past (c.requires.numbers i inside) c.args.time (get_or own i 0)
    c.requires.time below in
    let action = c.fixed.ensures (get_or own i 0) class.0 class.1 in
    taken_next (fixed_actions ds c.args.time own) c.loop-agent.actions.items c.push.new.self.items c.fixed.result i
    (omega (arith, actions_long ds c.args.time own (omega arith)))
    (action
    ∙ ap (λ (d : AgentFront). get_or (get_or d.fixed c.args.time []) (get_or own i 0) 0)
    (sym (c.part.ensures.front root_agent))
    ∙ sym (actions_read ds c.args.time own i _ (omega arith) inside))
    c.in_ok-push.ensures.items c.loop-agent.invariant

pub joint_action_of-requires : goal.joint_action_of-requires
joint_action_of-requires c =
    let m = c.args.m.now.model in
    let own = c.args.own.now in
    let ds = c.args.self.now.front.agents in
    let seen = seen_of c.requires.of_model.front.agents in
    let long = history_long m c.args.time own c.requires.history in
    let le : length ds ≤ c.loop-agent.agent = omega
    (arith, c.agents-agent-end.ensures, c.loop-agent-test.false) in
    let made = c.deref.ensures.value ∙ c.loop-agent.invariant ∙ taken_whole (fixed_actions ds c.args.time own)
    c.loop-agent.agent (omega (arith, actions_long ds c.args.time own (omega arith))) in
    subst (AreParts m.actions) (sym made) (action_parts m c.args.self.now c.args.time own c.requires.of_model
    c.requires.time (history_within m c.args.time own c.requires.history))

pub returns : goal.returns
returns c =
    let m = c.args.m.now.model in
    let own = c.args.own.now in
    let ds = c.args.self.now.front.agents in
    let seen = seen_of c.requires.of_model.front.agents in
    let long = history_long m c.args.time own c.requires.history in
    let le : length ds ≤ c.loop-agent.agent = omega
    (arith, c.agents-agent-end.ensures, c.loop-agent-test.false) in
    let made = c.deref.ensures.value ∙ c.loop-agent.invariant ∙ taken_whole (fixed_actions ds c.args.time own)
    c.loop-agent.agent (omega (arith, actions_long ds c.args.time own (omega arith))) in
    c.joint_action_of.ensures ∙ ap (joint_number m.actions) made
