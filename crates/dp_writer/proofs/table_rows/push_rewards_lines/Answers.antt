use Rattle.std.proofs.Common.{◌≡◌, [], ◌∷◌, ◌++◌, true, false, codes, rules, sym, ap, ◌∙◌}
use Rattle.std.specs.Fmt.{decimal, signed_decimal}
use Rattle.std.specs.Int.{w64}
use Rattle.std.proofs.lemmas.Int.{to_z-of_z}
use Rattle.std.proofs.lemmas.List.{append-nil}
use Rattle.dp_spec.specs.Model.{reward_at}
use Rattle.dp_writer.specs.LimitedTexts.{added}
use Rattle.dp_writer.specs.ModelRows.{reward_rows}
use Rattle.dp_writer.specs.WrittenLines.{Words, lines_text}
use Rattle.dp_writer.specs.WrittenModel.{is_only_reward}
use Rattle.dp_writer.proofs.Appending.{behind, spelled}
use Rattle.dp_writer.proofs.TableLines.{line_pushed, one_reward, several_rewards, words_pushed}
use Rattle.dp_writer.proofs.table_rows.push_rewards_lines.Goals as goal

pub returns-then-not-is_only_reward : goal.returns-then-not-is_only_reward
returns-then-not-is_only_reward c =
    let m = c.args.model.now.model in
    let a = c.args.action in
    let s = c.args.state in
    let first = to_z-of_z w64 c.reward-first.result (search (rules, c.reward-first.type_inv))
    ∙ c.reward-first.ensures in
    let is = c.is_only_reward.ensures ∙ ap (λ r. is_only_reward r (reward_rows m a s)) first in
    let no : c.is_only_reward.result ≡ false = search rules in
    spelled c.args.text.now c.push_matrix.new.text _ _ (ap lines_text (sym (several_rewards m a s (sym is ∙ no))))
    c.in_ok-push_matrix.ensures

pub returns : goal.returns
returns c =
    let m = c.args.model.now.model in
    let a = c.args.action in
    let s = c.args.state in
    let reward = signed_decimal (reward_at m a s 0 0) in
    let first = to_z-of_z w64 c.reward-first.result (search (rules, c.reward-first.type_inv))
    ∙ c.reward-first.ensures in
    let is = c.is_only_reward.ensures ∙ ap (λ r. is_only_reward r (reward_rows m a s)) first in
    let only : c.is_only_reward.result ≡ true = search rules in
    let places : Words = decimal a ∷ decimal s ∷ [] in
    let numbers = rw (c.from.ensures, c.from-2.ensures) at c.in_ok-push_numbers.ensures in
    let told = c.in_ok-push_reward.ensures ∙ ap (λ r. added c.push-2.new.self (signed_decimal r)) first in
    let last = spelled c.push_numbers.new.text c.push_reward.new.text _ _ (ap (λ l. 32 ∷ l) (sym (append-nil reward)))
    (behind c.push_numbers.new.text c.push-2.new.self c.push_reward.new.text (32 ∷ []) reward c.in_ok-push-2.ensures
    told) in
    spelled c.args.text.now c.push-3.new.self _ _ (ap lines_text (sym (one_reward m a s (sym is ∙ only))))
    (line_pushed (codes "Q") (places ++ reward ∷ []) c.args.text.now c.push.new.self c.push_reward.new.text
    c.push-3.new.self c.in_ok-push.ensures
    (words_pushed places (reward ∷ []) c.push.new.self c.push_numbers.new.text c.push_reward.new.text numbers last)
    c.in_ok-push-3.ensures)
