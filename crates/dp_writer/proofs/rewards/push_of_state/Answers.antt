use Rattle.std.proofs.Common.{rules, ℤ, true, map, [], ◌∷◌, ◌++◌, to_z, of_z, unsigned_abs, sym, ap, ◌∙◌, arith}
use Rattle.std.specs.Prelude.{codes}
use Rattle.std.specs.Fmt.{decimal}
use Rattle.std.specs.Int.{w64}
use Rattle.std.proofs.lemmas.Int.{to_z-of_z}
use Rattle.std.proofs.lemmas.List.{append-nil}
use Rattle.std.proofs.lemmas.Result.{on_ok_weaker}
use Rattle.dp_spec.specs.declared.scales.Scales.{Scales}
use Rattle.dp_spec.specs.JointNumbers.{parts_of}
use Rattle.dp_spec.specs.Model.{reward_at}
use Rattle.dp_writer.specs.LimitedTexts.{added}
use Rattle.dp_writer.specs.ModelRows.{reward_rows}
use Rattle.dp_writer.specs.WrittenLines.{lines_text, words_text}
use Rattle.dp_writer.specs.WrittenModel.{is_only_reward, matrix_lines, reward_word, statement_words}
use Rattle.dp_writer.proofs.Appending.{behind, spelled, unchanged}
use Rattle.dp_writer.proofs.RewardTexts.{int_other, int_same, no_reward, one_reward, reward_matrix}
use Rattle.dp_writer.proofs.RowCells.{reward_within}
use Rattle.dp_writer.proofs.WordTexts.{line_behind, line_ended, lines_behind}
use Rattle.dp_writer.proofs.rewards.push_of_state.Goals as goal

pub returns-then-not-is_only_reward : goal.returns-then-not-is_only_reward
returns-then-not-is_only_reward c =
    let m = c.args.model.now.model in
    let a = c.args.action in
    let s = c.args.state in
    let x = c.args.text.now in
    let x1 = c.push_fields.new.text in
    let x2 = c.push.new.self in
    let x3 = c.push_matrix.new.text in
    let first = to_z-of_z w64 c.reward-first.result (search (rules, c.reward-first.type_inv))
    ∙ c.reward-first.ensures in
    let only = ap (λ (r : ℤ). is_only_reward r (reward_rows m a s)) (sym first) ∙ sym c.is_only_reward.ensures
    ∙ c.if-not-is_only_reward.true in
    on_ok_weaker c.push_matrix.result
    (λ e. spelled x x3 _ _ (ap lines_text (sym (reward_matrix m a s only)))
    (lines_behind x x2 x3 (statement_words m (codes "R:") a s ∷ []) (matrix_lines m a s)
    (line_ended x x1 x2 (statement_words m (codes "R:") a s) c.in_ok-push_fields.ensures c.in_ok-push.ensures) e))
    c.push_matrix.ensures

pub returns-then-first-eq0 : goal.returns-then-first-eq0
returns-then-first-eq0 c =
    let m = c.args.model.now.model in
    let a = c.args.action in
    let s = c.args.state in
    let x = c.args.text.now in
    let back = to_z-of_z w64 c.reward-first.result (search (rules, c.reward-first.type_inv)) in
    let first = back ∙ c.reward-first.ensures in
    let only = ap (λ (r : ℤ). is_only_reward r (reward_rows m a s)) (sym first) ∙ sym c.is_only_reward.ensures
    ∙ c.if-not-is_only_reward.false in
    let none = int_same (reward_at m a s 0 0) _
    (sym c.reward-first.ensures ∙ sym back ∙ ap (to_z w64) c.if-first-eq0.true) in
    spelled x x [] _ (ap lines_text (sym (no_reward m a s only none))) (unchanged x)

pub push_reward-requires-clause-within : goal.push_reward-requires-clause-within
push_reward-requires-clause-within c =
    let m = c.args.model.now.model in
    let back = to_z-of_z w64 c.reward-first.result (search (rules, c.reward-first.type_inv)) in
    omega (
      arith,
      reward_within m c.args.action c.args.state 0 0 c.invariant.ensures.model,
      ap unsigned_abs (back ∙ c.reward-first.ensures),
      ap (λ (s : Scales). s.reward) c.scales-scales.ensures,
    )

pub returns : goal.returns
returns c =
    let m = c.args.model.now.model in
    let a = c.args.action in
    let s = c.args.state in
    let x = c.args.text.now in
    let x1 = c.push_fields-2.new.text in
    let x2 = c.push-2.new.self in
    let x3 = c.push_reward.new.text in
    let x4 = c.push-3.new.self in
    let first = to_z-of_z w64 c.reward-first.result (search (rules, c.reward-first.type_inv))
    ∙ c.reward-first.ensures in
    let only = ap (λ (r : ℤ). is_only_reward r (reward_rows m a s)) (sym first) ∙ sym c.is_only_reward.ensures
    ∙ c.if-not-is_only_reward.false in
    let some = int_other (reward_at m a s 0 0) _
    (λ e. c.if-first-eq0.false (ap (of_z w64) (c.reward-first.ensures ∙ e))) in
    let fields = map decimal (parts_of m.actions a) ++ codes ":" ∷ decimal s ∷ codes ":" ∷ [] in
    let word = reward_word m.scales.reward (reward_at m a s 0 0) in
    let stars = codes "*" ∷ codes ":" ∷ codes "*" ∷ codes ":" ∷ word ∷ [] in
    let reward = c.in_ok-push_reward.ensures
    ∙ ap (λ r. added x2 (reward_word c.scales-scales.result.reward r)) first
    ∙ ap (λ (k : Scales). added x2 (reward_word k.reward (reward_at m a s 0 0))) c.scales-scales.ensures in
    let line = spelled x x3 _ _ (sym (line_behind (codes "R:") fields stars))
    (behind x x1 x3 (words_text true (codes "R:" ∷ fields)) _ c.in_ok-push_fields-2.ensures
    (behind x1 x2 x3 (codes " * : * : ") (word ++ []) c.in_ok-push-2.ensures
    (spelled x2 x3 word (word ++ []) (sym (append-nil word)) reward))) in
    on_ok_weaker c.push-3.result
    (λ e. spelled x x4 _ _ (ap lines_text (sym (one_reward m a s only some)))
    (line_ended x x3 x4 (statement_words m (codes "R:") a s ++ stars) line e))
    c.push-3.ensures
