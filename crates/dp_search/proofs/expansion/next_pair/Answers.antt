use Rattle.std.proofs.Common.{arith}
use Rattle.dp_cluster.proofs.FrontParts.{unassigned_in}
use Rattle.dp_search.proofs.expansion.next_pair.Goals as goal

pub returns-clause-none : goal.returns-clause-none
returns-clause-none c none exact m is i a b less first second alike =
    let within = unassigned_in c.args.front.now.front.agents i a first in
    c.loop-agent.invariant exact m is i
    (omega (arith, within.0, c.loop-agent-test.false, c.loop-agent.auto.agent-end, c.agents-agent-end.ensures))
    a b less first second alike
