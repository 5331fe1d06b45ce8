use Rattle.std.proofs.Common.{to_z, of_z, sym, ap, ◌∙◌, arith}
use Rattle.std.specs.Int.{w64}
use Rattle.std.specs.List.{list_all}
use Rattle.std.specs.Ordering.{int_eq}
use Rattle.std.proofs.lemmas.Int.{to_z-of_z}
use Rattle.dp_writer.specs.ModelRows.{reward_row}
use Rattle.dp_writer.proofs.RowCells.{all_fails, all_more}
use Rattle.dp_writer.proofs.rewards.is_only_reward.Goals as goal

pub returns-then-not-is_only_in_row : goal.returns-then-not-is_only_in_row
returns-then-not-is_only_in_row c =
    let m = c.args.model.now.model in
    let rows = reward_row m c.args.action c.args.state in
    let next = c.loop-next.next in
    let r = c.args.reward in
    sym (all_fails (λ row. list_all (λ x. int_eq x r) row) rows m.states next
    (omega (arith, c.loop-next-test.true, c.states-next-end.ensures.is))
    (ap (λ v. list_all (λ x. int_eq x v) (rows next)) (sym (to_z-of_z w64 r c.ranges.reward))
    ∙ sym c.is_only_in_row.ensures ∙ c.if-not-is_only_in_row.true))

pub loop-next-preserved : goal.loop-next-preserved
loop-next-preserved c =
    let m = c.args.model.now.model in
    let r = to_z w64 (of_z w64 c.args.reward) in
    all_more (λ row. list_all (λ x. int_eq x r) row) (reward_row m c.args.action c.args.state) c.loop-next.next
    c.loop-next.invariant (sym c.is_only_in_row.ensures ∙ c.if-not-is_only_in_row.false)
