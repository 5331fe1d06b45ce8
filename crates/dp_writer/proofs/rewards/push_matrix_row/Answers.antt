use Rattle.std.proofs.Common.{rules, true, unsigned_abs, ap, ◌∙◌, arith}
use Rattle.std.specs.Int.{w64}
use Rattle.std.proofs.lemmas.Int.{to_z-of_z}
use Rattle.dp_spec.specs.declared.scales.Scales.{Scales}
use Rattle.dp_spec.specs.Model.{reward_at}
use Rattle.dp_writer.specs.LimitedTexts.{added}
use Rattle.dp_writer.specs.WrittenModel.{reward_word}
use Rattle.dp_writer.proofs.RowCells.{reward_within}
use Rattle.dp_writer.proofs.WordTexts.{each_written}
use Rattle.dp_writer.proofs.rewards.push_matrix_row.Goals as goal

pub push_reward-requires-clause-within : goal.push_reward-requires-clause-within
push_reward-requires-clause-within c =
    let m = c.args.model.now.model in
    let back = to_z-of_z w64 c.reward.result (search (rules, c.reward.type_inv)) in
    omega (
      arith,
      reward_within m c.args.action c.args.state c.args.next c.loop-seen.seen c.invariant.ensures.model,
      ap unsigned_abs (back ∙ c.reward.ensures),
      ap (λ (s : Scales). s.reward) c.scales-scales.ensures,
    )

pub loop-seen-preserved : goal.loop-seen-preserved
loop-seen-preserved c =
    let m = c.args.model.now.model in
    let t1 = c.push_space.new.self in
    let back = to_z-of_z w64 c.reward.result (search (rules, c.reward.type_inv)) in
    each_written true (reward_word m.scales.reward) (reward_at m c.args.action c.args.state c.args.next)
    c.loop-seen.seen c.reward.result c.args.text.now c.loop-seen.text t1 c.push_reward.new.text c.reward.ensures
    c.loop-seen.invariant
    c.in_ok-push_space.ensures
    (c.in_ok-push_reward.ensures ∙ ap (λ r. added t1 (reward_word c.scales-scales.result.reward r)) back
    ∙ ap (λ (s : Scales). added t1 (reward_word s.reward c.reward.result)) c.scales-scales.ensures)
