use Rattle.std.proofs.Common.{◌<◌, length, below_more, arith}
use Rattle.dp_cluster.specs.Keys.{HasNumbersAt}
use Rattle.dp_cluster.proofs.AdvancedParts.{read_some_seen}
use Rattle.dp_cluster.proofs.KeyPairs.{numbers_at, shared_not_apart}
use Rattle.dp_cluster.proofs.front.Front.has_own_numbers.Goals as goal

pub has_own_numbers-requires : goal.has_own_numbers-requires
has_own_numbers-requires c =
    let inside : c.loop-agent.agent < length c.args.self.now.front.agents = omega
    (arith, c.agents-agent-end.ensures, c.loop-agent-test.true) in
    read_some_seen c.args.m.now.model c.args.self.now c.requires.of_model c.loop-agent.agent inside
    c.part.result.now c.part.ensures.front c.part.ensures.observations

pub loop-agent-preserved : goal.loop-agent-preserved
loop-agent-preserved c =
    let inside : c.loop-agent.agent < length c.args.self.now.front.agents = omega
    (arith, c.agents-agent-end.ensures, c.loop-agent-test.true) in
    below_more (HasNumbersAt c.args.m.now.model c.args.self.now) c.loop-agent.agent c.loop-agent.invariant
    (numbers_at c.args.m.now.model c.args.self.now c.requires.of_model c.loop-agent.agent inside c.part.result.now
    c.part.ensures.front c.part.ensures.observations c.part.ensures.past
    (c.has_own_numbers.ensures.yes c.if-not-has_own_numbers.false))

pub returns-then-not-has_own_numbers-clause-no : goal.returns-then-not-has_own_numbers-clause-no
returns-then-not-has_own_numbers-clause-no c = λ e.
    let inside : c.loop-agent.agent < length c.args.self.now.front.agents = omega
    (arith, c.agents-agent-end.ensures, c.loop-agent-test.true) in
    shared_not_apart c.args.m.now.model c.args.self.now c.requires.of_model c.loop-agent.agent inside
    c.part.result.now c.part.ensures.front c.part.ensures.observations
    (c.has_own_numbers.ensures.no c.if-not-has_own_numbers.true)
