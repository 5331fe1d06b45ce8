use Rattle.std.proofs.Common.{◌<◌, ◌≤◌, ◌^◌, length, ap, arith, eqb, rules}
use Rattle.dp_spec.specs.Wide.{unassigned_count}
use Rattle.dp_cluster.proofs.WideFronts.{counted_agent, counted_agents}
use Rattle.dp_cluster.proofs.front.Front.has_last_choice.Goals as goal

pub loop-agent-preserved : goal.loop-agent-preserved
loop-agent-preserved c =
    let ds = c.args.self.now.front.agents in
    let lt : c.loop-agent.agent < length ds = omega (
      arith,
      c.agents-agent-end.ensures,
      c.loop-agent-test.true,
    ) in (
      counted_agent ds c.loop-agent.agent c.loop-agent.count (unassigned_count ds) c.from-count.result lt
          (search rules) c.loop-agent.invariant.0,
      (let few : c.from-count.result < 2 ^ 32 = search rules in omega (arith, few, c.loop-agent.invariant.1)),
    )

pub returns : goal.returns
returns c =
    let ds = c.args.self.now.front.agents in
    let le : length ds ≤ c.loop-agent.agent = omega (
      arith,
      c.agents-agent-end.ensures,
      c.loop-agent-test.false,
    ) in
    ap (λ z. eqb z 1) (counted_agents ds c.loop-agent.agent c.loop-agent.count (unassigned_count ds)
    le c.loop-agent.invariant.0)
