use Rattle.std.proofs.Common.{◌≡◌, ◌-◌, ◌+◌, ◌<◌, ℕ, List, length, get_or, drop, suc}
use Rattle.std.proofs.Common.{ap, subst, ◌∙◌, arith}
use Rattle.dp_spec.specs.JointNumbers.{product}
use Rattle.dp_game.specs.Extended.{choice_counts}
use Rattle.dp_spec.proofs.JointNumberLaws.{product-drop_le}
use Rattle.dp_game.proofs.Extended.{counts_small, some_counts}
use Rattle.dp_game.proofs.ClassNumbers.{number_small, numbers_before, numbers_from}
use Rattle.dp_game.proofs.numbers.class_numbers.Goals as goal

after : {a b c : ℕ} → a ≡ b → c ≡ suc b → a + 1 ≡ c
after {a} {b} {c} e f = omega arith

pub numbers_with-requires-clause-width : goal.numbers_with-requires-clause-width
numbers_with-requires-clause-width c = c.extended_from-width.ensures.limit

pub numbers_with-requires-clause-small : goal.numbers_with-requires-clause-small
numbers_with-requires-clause-small c = λ d C hd hC.
    let bs = c.args.actions.now in
    let oss = c.args.choices.now in
    let n = length oss in
    let k = c.loop-step.step in
    let lt : k < n = c.loop-step-test.true in
    let at : n - 1 - k ≡ n - (k + 1) = omega arith in
    let next : n - k ≡ suc (n - (k + 1)) = omega arith in
    let width = c.extended_from-width.ensures.is
    ∙ ap (λ (z : ℕ). product (drop z (choice_counts bs))) (after at next) in
    let own = c.index-choices-agent.result in
    let own_is : own ≡ get_or oss (n - (k + 1)) own = c.index-choices-agent.is ∙ ap (λ z. get_or oss z own) at in
    let inside : C < length c.loop-step.numbers.items = subst (λ (l : List ℕ). C < length l) c.deref.ensures.value hC
    in
    let below = number_small bs oss (n - (k + 1)) (n - k) own c.extended_from-width.result c.loop-step.numbers.items
    c.requires.agents (omega arith) next own_is width c.loop-step.invariant c.requires.below d C inside in
    let is = c.invariant.ensures in
    let small = counts_small bs is.agents is.some is.few in
    let most = product-drop_le (choice_counts bs) (n - (k + 1)) (some_counts bs) in
    let read = ap (λ (l : List ℕ). get_or l C 0) c.deref.ensures.value in
    rw read (omega (arith, below, small, most))

pub loop-step-preserved : goal.loop-step-preserved
loop-step-preserved c =
    let bs = c.args.actions.now in
    let oss = c.args.choices.now in
    let n = length oss in
    let k = c.loop-step.step in
    let lt : k < n = c.loop-step-test.true in
    let at : n - 1 - k ≡ n - (k + 1) = omega arith in
    let next : n - k ≡ suc (n - (k + 1)) = omega arith in
    let width = c.extended_from-width.ensures.is
    ∙ ap (λ (z : ℕ). product (drop z (choice_counts bs))) (after at next) in
    let own = c.index-choices-agent.result in
    let own_is : own ≡ get_or oss (n - (k + 1)) own = c.index-choices-agent.is ∙ ap (λ z. get_or oss z own) at in
    numbers_from bs oss (n - (k + 1)) (n - k) own c.extended_from-width.result c.loop-step.numbers.items
    c.requires.agents (omega arith) next own_is width c.loop-step.invariant _
    (c.in_ok-numbers.ensures ∙ ap (numbers_before own c.extended_from-width.result) c.deref.ensures.value)
