use Rattle.std.proofs.Common.{false, rules, ◌∙◌}
use Rattle.std.specs.Fmt.{signed_decimal}
use Rattle.std.specs.Int.{w64}
use Rattle.std.proofs.lemmas.Int.{to_z-of_z}
use Rattle.dp_spec.specs.Model.{reward_at}
use Rattle.dp_writer.proofs.WordTexts.{each_written}
use Rattle.dp_writer.proofs.table_rows.push_row.Goals as goal

pub loop-seen-preserved : goal.loop-seen-preserved
loop-seen-preserved c =
    let cell = to_z-of_z w64 c.reward.result (search (rules, c.reward.type_inv)) ∙ c.reward.ensures in
    each_written false signed_decimal (reward_at c.args.model.now.model c.args.action c.args.state c.args.next)
    c.loop-seen.seen _ c.args.text.now c.loop-seen.text c.push.new.self c.push_reward.new.text cell
    c.loop-seen.invariant c.in_ok-push.ensures c.in_ok-push_reward.ensures
