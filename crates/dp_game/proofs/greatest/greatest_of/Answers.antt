use Rattle.std.proofs.Common.{◌≡◌, ◌+◌, ◌-◌, ℕ, length, get_or, pos, suc, ap, ◌∙◌, arith, rules}
use Rattle.std.specs.Int.{w128}
use Rattle.std.proofs.lemmas.Int.{to_z-of_z}
use Rattle.std.specs.Prelude.{nat_lt}
use mir.Val.{SFits}
use Rattle.dp_game.proofs.ClassNumbers.{greatest_more, some_behind}
use Rattle.dp_game.proofs.greatest.greatest_of.Goals as goal

pub loop-step-preserved : goal.loop-step-preserved
loop-step-preserved c =
    let fits : SFits w128 c.greater-best.result = search rules in
    let fits-entry : SFits w128 c.entry_at.result = search rules in
    let xs = c.args.numbers.now in
    let f = λ (a : ℕ). get_or c.args.table.now (c.args.first + a) (pos 0) in
    let k = c.loop-step.step in
    let lt = c.loop-step-test.true in
    let next : length xs - k ≡ suc (length xs - (k + 1)) = omega arith in
    let at : length xs - 1 - k ≡ length xs - (k + 1) = omega arith in
    let some = some_behind xs k (length xs - k) (omega arith) in
    let entry = to_z-of_z w128 _ fits-entry ∙ c.entry_at.ensures
    ∙ ap (λ (z : ℕ). f (get_or xs z 0)) at in
    to_z-of_z w128 _ fits
    ∙ greatest_more f xs (length xs - (k + 1)) (length xs - k) (nat_lt 0 k) _ _ c.greater-best.result
    (omega arith) next some c.loop-step.invariant entry c.greater-best.ensures
