use Rattle.std.proofs.Common.{◌≡◌, ◌<◌, true, length, sym, ◌∙◌, arith, rules}
use Rattle.dp_check.specs.Walks.{has_no_pairs}
use Rattle.dp_check.proofs.EquivalentPairs.{and_false, no_pair_next, pair_found}
use Rattle.dp_check.proofs.classes.has_no_pairs.Goals as goal

pub returns-in-Some : goal.returns-in-Some
returns-in-Some c =
    let m = c.args.m.now.model in
    let F = c.args.front.now.front in
    let lt : c.loop-agent.agent < length F.agents = omega (
      arith,
      c.agents-agent-end.ensures,
      c.loop-agent-test.true,
    ) in
    let pair = rw c.in-Some.is at c.in_ok-_pair.ensures.pair in
    and_false c.args.front.now.is_exact (has_no_pairs m F) (pair_found m F c.loop-agent.agent c.in-Some._pair.0
    c.in-Some._pair.1 lt (pair m c.requires.of_model))

pub loop-agent-preserved : goal.loop-agent-preserved
loop-agent-preserved c =
    let m = c.args.m.now.model in
    let F = c.args.front.now.front in
    let exact : c.args.front.now.is_exact ≡ true = sym c.is_exact.ensures
    ∙ search (rules, c.if-not-is_exact.false, c.if-not-is_exact.ensures) in
    no_pair_next m F c.loop-agent.agent c.loop-agent.invariant
    (c.in_ok-_pair.ensures.none (search (rules, c.in_default.is, c.in_default.not-Some))
    exact m c.requires.of_model)
