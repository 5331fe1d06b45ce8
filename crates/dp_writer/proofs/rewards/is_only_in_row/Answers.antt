use Rattle.std.proofs.Common.{rules, to_z, of_z, sym, ap, ◌∙◌, arith}
use Rattle.std.specs.Int.{w64}
use Rattle.std.specs.Ordering.{int_eq}
use Rattle.std.proofs.lemmas.Int.{to_z-of_z}
use Rattle.dp_spec.specs.Model.{joint_observations, reward_at}
use Rattle.dp_writer.proofs.RewardTexts.{int_other, int_same}
use Rattle.dp_writer.proofs.RowCells.{all_fails, all_more}
use Rattle.dp_writer.proofs.rewards.is_only_in_row.Goals as goal

pub returns-then-reward : goal.returns-then-reward
returns-then-reward c =
    let m = c.args.model.now.model in
    let row = reward_at m c.args.action c.args.state c.args.next in
    let seen = c.loop-seen.seen in
    let r = c.args.reward in
    sym (all_fails (λ x. int_eq x r) row (joint_observations m) seen
    (omega (arith, c.loop-seen-test.true, c.joint_observations-seen-end.ensures.is))
    (int_other (row seen) r (λ e. c.if-reward.true (ap (of_z w64) (c.reward.ensures ∙ e)))))

pub loop-seen-preserved : goal.loop-seen-preserved
loop-seen-preserved c =
    let m = c.args.model.now.model in
    let row = reward_at m c.args.action c.args.state c.args.next in
    let seen = c.loop-seen.seen in
    let r = to_z w64 (of_z w64 c.args.reward) in
    let back = to_z-of_z w64 c.reward.result (search (rules, c.reward.type_inv)) in
    all_more (λ x. int_eq x r) row seen c.loop-seen.invariant
    (int_same (row seen) r (sym c.reward.ensures ∙ sym back ∙ ap (to_z w64) c.if-reward.false))
