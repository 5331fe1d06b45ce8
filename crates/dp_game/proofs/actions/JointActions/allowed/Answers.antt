use Rattle.std.proofs.Common.{◌≡◌, ◌-◌, ◌+◌, ◌<◌, suc, ◌++◌, ◌∷◌, [], cond, length, ap, ◌∙◌, arith}
use Rattle.std.proofs.lemmas.List.{length-map}
use Rattle.dp_spec.specs.JointNumbers.{parts_of, product}
use Rattle.dp_spec.proofs.JointNumberLaws.{length-parts_of}
use Rattle.dp_game.specs.Extended.{choice_counts, choice_of}
use Rattle.dp_game.specs.Games.{each_agrees}
use Rattle.dp_game.proofs.ClassNumbers.{pushed_where}
use Rattle.dp_game.proofs.actions.JointActions.allowed.Goals as goal

pub agrees-requires-clause-one_each : goal.agrees-requires-clause-one_each
agrees-requires-clause-one_each c =
    let bs = c.args.self.now in
    ap (λ l. length l) (c.deref.ensures.value ∙ c.in_ok-wanted.ensures)
    ∙ length-map (parts_of (choice_counts bs) c.args.extended) choice_of
    ∙ length-parts_of (choice_counts bs) c.args.extended ∙ length-map bs (λ b. suc b)

pub loop-step-preserved : goal.loop-step-preserved
loop-step-preserved c =
    let bs = c.args.self.now in
    let lt : c.loop-step.step < product bs = omega
    (arith, c.count-step-end.ensures.is, c.loop-step-test.true) in
    let next : product bs - c.loop-step.step ≡ suc (product bs - (c.loop-step.step + 1)) = omega arith in
    let action : c.count.result - 1 - c.loop-step.step ≡ product bs - (c.loop-step.step + 1) =
    omega (arith, c.count.ensures.is) in
    let agrees = c.agrees.ensures
    ∙ (λ j. each_agrees (c.deref.ensures.value j) (parts_of bs (action j))) in
    pushed_where (λ a. each_agrees c.in_ok-wanted.wanted.items (parts_of bs a)) c.loop-step.allowed.items _ _
    (product bs - (c.loop-step.step + 1)) (product bs - c.loop-step.step) c.agrees.result agrees next
    c.loop-step.invariant (c.in_ok-push_where.ensures ∙ ap (λ a. c.loop-step.allowed.items
    ++ cond c.agrees.result (a ∷ []) []) action)
