use Rattle.std.proofs.Common.{◌+◌, ◌/◌, ◌%◌, ℕ, drop, suc, sym, ap, ◌∙◌, arith}
use Rattle.std.proofs.Common.{add-one}
use Rattle.std.proofs.lemmas.List.{length-map}
use Rattle.std.proofs.lemmas.Nat.{mod_below}
use Rattle.dp_spec.specs.JointNumbers.{product}
use Rattle.dp_spec.proofs.JointNumberLaws.{part-is}
use Rattle.dp_cluster.proofs.AdvancedParts.{factor_le}
use Rattle.dp_game.specs.Extended.{choice_counts}
use Rattle.dp_game.proofs.Extended.{size_at}
use Rattle.dp_game.proofs.actions.JointActions.part.Goals as goal

pub overflow_add-agent : goal.overflow_add-agent
overflow_add-agent c =
    let few = c.invariant.ensures.agents in let lt = c.requires.agent in omega arith

pub overflow_add-result : goal.overflow_add-result
overflow_add-result c =
    let bs = c.args.self.now in
    let is = c.invariant.ensures in
    let le = factor_le bs c.args.agent is.some c.requires.agent in
    let few = is.few in
    let size = c.size.ensures in omega arith

pub returns-clause-is : goal.returns-clause-is
returns-clause-is c =
    let bs = c.args.self.now in
    let lt = c.requires.agent in
    sym (part-is (choice_counts bs) c.args.extended c.args.agent c.requires.extended
    (omega (arith, length-map bs (λ b. suc b), lt))
    ∙ (λ j. c.args.extended / ((ap (λ (z : ℕ). product (drop z (choice_counts bs))) (sym (add-one c.args.agent))
    ∙ sym c.extended_from.ensures.is) j) % (sym (size_at bs c.args.agent _ lt c.size.ensures) j)))

pub returns-clause-limit : goal.returns-clause-limit
returns-clause-limit c =
    let bs = c.args.self.now in
    let is = c.invariant.ensures in
    let le = factor_le bs c.args.agent is.some c.requires.agent in
    let few = is.few in
    let size = c.size.ensures in
    let lt = mod_below (c.args.extended / c.extended_from.result) (c.size.result + 1) (omega arith) in
    omega arith
