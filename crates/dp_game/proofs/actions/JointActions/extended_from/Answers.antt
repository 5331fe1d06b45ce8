use Rattle.std.proofs.Common.{◌+◌, ◌<◌, ◌≤◌, length, suc, arith}
use Rattle.std.proofs.lemmas.List.{length-map}
use Rattle.dp_spec.proofs.JointNumberLaws.{product-drop_above, product-drop_le}
use Rattle.dp_cluster.proofs.AdvancedParts.{factor_le}
use Rattle.dp_game.specs.Extended.{choice_counts}
use Rattle.dp_game.proofs.Extended.{counts_small, size_at, some_counts}
use Rattle.dp_game.proofs.TakenApart.{width_end, width_fits, width_next}
use Rattle.dp_game.proofs.actions.JointActions.extended_from.Goals as goal

pub overflow_add-count : goal.overflow_add-count
overflow_add-count c =
    let bs = c.args.self.now in
    let is = c.invariant.ensures in
    let lt : c.loop-agent.agent < length bs = omega (arith, c.agents-agent-end.ensures.is, c.loop-agent-test.true) in
    let le = factor_le bs c.loop-agent.agent is.some lt in
    let few = is.few in
    let size = c.size.ensures in omega arith

pub overflow_mul-count : goal.overflow_mul-count
overflow_mul-count c =
    let bs = c.args.self.now in
    let ns = choice_counts bs in
    let is = c.invariant.ensures in
    let small = counts_small bs is.agents is.some is.few in
    let lt : c.loop-agent.agent < length bs = omega (arith, c.agents-agent-end.ensures.is, c.loop-agent-test.true) in
    let le = width_fits ns c.args.first c.loop-agent.agent c.loop-agent.count (c.size.result + 1)
    (omega (arith, length-map bs (λ b. suc b), lt)) (size_at bs c.loop-agent.agent _ lt c.size.ensures)
    (some_counts bs) (omega arith) c.loop-agent.invariant in
    omega arith

pub loop-agent-preserved : goal.loop-agent-preserved
loop-agent-preserved c =
    let bs = c.args.self.now in
    let ns = choice_counts bs in
    let is = c.invariant.ensures in
    let small = counts_small bs is.agents is.some is.few in
    let lt : c.loop-agent.agent < length bs = omega (arith, c.agents-agent-end.ensures.is, c.loop-agent-test.true) in
    width_next ns c.args.first c.loop-agent.agent c.loop-agent.count (c.size.result + 1)
    (omega (arith, length-map bs (λ b. suc b), lt)) (size_at bs c.loop-agent.agent _ lt c.size.ensures)
    (some_counts bs) (omega arith) c.loop-agent.invariant

pub returns-clause-is : goal.returns-clause-is
returns-clause-is c =
    let bs = c.args.self.now in
    let le : length (choice_counts bs) ≤ c.loop-agent.agent = omega
    (arith, length-map bs (λ b. suc b), c.agents-agent-end.ensures.is, c.loop-agent-test.false) in
    width_end (choice_counts bs) c.args.first c.loop-agent.agent c.loop-agent.count le c.loop-agent.invariant

pub returns-clause-some : goal.returns-clause-some
returns-clause-some c =
    let bs = c.args.self.now in
    let le : length (choice_counts bs) ≤ c.loop-agent.agent = omega
    (arith, length-map bs (λ b. suc b), c.agents-agent-end.ensures.is, c.loop-agent-test.false) in
    rw (width_end (choice_counts bs) c.args.first c.loop-agent.agent c.loop-agent.count le c.loop-agent.invariant)
    (product-drop_above (choice_counts bs) c.args.first (some_counts bs))

pub returns-clause-limit : goal.returns-clause-limit
returns-clause-limit c =
    let bs = c.args.self.now in
    let is = c.invariant.ensures in
    let small = counts_small bs is.agents is.some is.few in
    let most = product-drop_le (choice_counts bs) c.args.first (some_counts bs) in
    let le : length (choice_counts bs) ≤ c.loop-agent.agent = omega
    (arith, length-map bs (λ b. suc b), c.agents-agent-end.ensures.is, c.loop-agent-test.false) in
    rw (width_end (choice_counts bs) c.args.first c.loop-agent.agent c.loop-agent.count le c.loop-agent.invariant)
    (omega arith)
