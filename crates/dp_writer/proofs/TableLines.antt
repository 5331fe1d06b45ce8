-- Lines of tables that are appended to a text.
use Rattle.std.proofs.Common.{◌≡◌, ℕ, false, true, List, [], ◌∷◌, ◌++◌, sym, ap, ◌∙◌, append_assoc, codes}
use Rattle.std.specs.Fmt.{decimal, signed_decimal}
use Rattle.std.proofs.lemmas.Bool.{cond-false, cond-true}
use Rattle.std.proofs.lemmas.Grind.{flat_map-append}
use Rattle.std.proofs.lemmas.List.{append-nil}
use Rattle.dp_spec.specs.Model.{Model, reward_at}
use Rattle.dp_writer.specs.LimitedTexts.{LimitedTextView, added}
use Rattle.dp_writer.specs.ModelRows.{each_below, reward_rows}
use Rattle.dp_writer.specs.TableText.{rewards_line, rewards_lines}
use Rattle.dp_writer.specs.WrittenLines.{Words, line_text, lines_text, words_text}
use Rattle.dp_writer.specs.WrittenModel.{is_only_reward}
use Rattle.dp_writer.proofs.Appending.{behind, spelled}
use Rattle.dp_writer.proofs.WordTexts.{words_behind}

-- words behind words
pub words_pushed : (head rest : Words) (x0 x1 x2 : LimitedTextView) → x1 ≡ added x0 (words_text false head)
    → x2 ≡ added x1 (words_text false rest) → x2 ≡ added x0 (words_text false (head ++ rest))
words_pushed head rest x0 x1 x2 e1 e2 =
    spelled x0 x2 _ _ (sym (words_behind head rest))
    (behind x0 x1 x2 (words_text false head) (words_text false rest) e1 e2)

-- a line: its first word, the others, and its end
pub line_pushed : (word : List ℕ) (words : Words) (x0 x1 x2 x3 : LimitedTextView) → x1 ≡ added x0 word
    → x2 ≡ added x1 (words_text false words) → x3 ≡ added x2 (10 ∷ [])
    → x3 ≡ added x0 (lines_text ((word ∷ words) ∷ []))
line_pushed word words x0 x1 x2 x3 e1 e2 e3 =
    spelled x0 x3 _ _
    (sym (append_assoc word (words_text false words) (10 ∷ [])) ∙ sym (append-nil (line_text (word ∷ words))))
    (behind x0 x1 x3 word (words_text false words ++ 10 ∷ []) e1
    (behind x1 x2 x3 (words_text false words) (10 ∷ []) e2 e3))

-- the line of the name of an agent
pub name_pushed : (name : List ℕ) (x0 x1 x2 x3 : LimitedTextView) → x1 ≡ added x0 (codes "agent ")
    → x2 ≡ added x1 name → x3 ≡ added x2 (10 ∷ [])
    → x3 ≡ added x0 (lines_text ((codes "agent" ∷ name ∷ []) ∷ []))
name_pushed name x0 x1 x2 x3 e1 e2 e3 =
    spelled x0 x3 _ _
    (ap (λ l. codes "agent " ++ (l ++ 10 ∷ [])) (sym (append-nil name))
    ∙ sym (append-nil (line_text (codes "agent" ∷ name ∷ []))))
    (behind x0 x1 x3 (codes "agent ") (name ++ 10 ∷ []) e1 (behind x1 x2 x3 name (10 ∷ []) e2 e3))

-- lines behind lines
pub lines_behind : (xs ys : List Words) (x y z : LimitedTextView) → y ≡ added x (lines_text xs)
    → z ≡ added y (lines_text ys) → z ≡ added x (lines_text (xs ++ ys))
lines_behind xs ys x y z e f =
    spelled x z _ _ (sym (flat_map-append line_text xs ys)) (behind x y z (lines_text xs) (lines_text ys) e f)

-- ---- the rewards of a joint action and a state

pub one_reward : (m : Model) (a s : ℕ) → is_only_reward (reward_at m a s 0 0) (reward_rows m a s) ≡ true
    → rewards_lines m a s
    ≡ (codes "Q" ∷ decimal a ∷ decimal s ∷ signed_decimal (reward_at m a s 0 0) ∷ []) ∷ []
unfolding rewards_lines
one_reward m a s only = cond-true (is_only_reward (reward_at m a s 0 0) (reward_rows m a s)) _ _ only

pub several_rewards : (m : Model) (a s : ℕ) → is_only_reward (reward_at m a s 0 0) (reward_rows m a s) ≡ false
    → rewards_lines m a s ≡ each_below (rewards_line m a s) m.states
unfolding rewards_lines
several_rewards m a s only = cond-false (is_only_reward (reward_at m a s 0 0) (reward_rows m a s)) _ _ only
