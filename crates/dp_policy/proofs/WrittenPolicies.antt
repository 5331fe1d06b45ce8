-- The text of a joint policy says its actions.
use Rattle.std.proofs.Common.{◌≡◌, ℕ, zero, suc, ◌+◌, ◌-◌, ◌^◌, ◌<◌, List, [], ◌∷◌, ◌++◌, length, map, Ok, refl, sym}
use Rattle.std.proofs.Common.{ap, subst, ◌∙◌, append_assoc, arith}
use Rattle.std.specs.Prelude.{ℤ, pos, codes}
use Rattle.std.specs.Fmt.{digits}
use Rattle.std.specs.List.{range_with_len}
use Rattle.std.proofs.lemmas.List.{append-nil}
use Rattle.dp_spec.specs.Model.{Model, IsModel}
use Rattle.dp_lines.specs.Grammar.{IsText, IsAnswer}
use Rattle.dp_policy.specs.PolicyAnswers.{PassesNone}
use Rattle.dp_spec.specs.PolicyTree.{PolicyTree, IsJointPolicy}
use Rattle.dp_spec.specs.PolicyTree.IsJointPolicy.{and_agent, no_agents}
use Rattle.dp_spec.specs.TextLines.{Item, Line, fixed_line, text_of_lines, line_text, Allows, AllAllowed}
use Rattle.dp_spec.specs.PolicyText.{title_form, horizon_form, horizon_line, agent_form, row_form, row_line}
use Rattle.dp_spec.specs.PolicyText.{policy_rows, agent_lines, end_form, policy_text, IsPolicyText}
use Rattle.dp_spec.proofs.TextLemmas.{text_of_lines-append}
use Rattle.dp_laws.proofs.WholeTexts.{AllAllowed-parts}
use Rattle.dp_model.specs.declared.limit.TooLarge.{TooLarge}
use Rattle.dp_lines.specs.Scanning.{front_of}
use Rattle.dp_lines.proofs.SpelledLines.{HasItems}
use Rattle.dp_lines.proofs.LineAnswers.{words_have_items}
use Rattle.dp_lines.proofs.OneAnswer.{read_answer}
use Rattle.dp_lines.proofs.WrittenLines.{line_at-written}
use Rattle.dp_lines.specs.Steps.{the_words, the_numbers}
use Rattle.dp_policy.specs.PolicyGrammar.{stage_rows, agent_words, agent_rows, title_words, end_words, policy_grammar}
use Rattle.dp_lines.specs.Reading.{rest_at, onto}
use Rattle.dp_policy.specs.ActionRows.{tree_rows, policy_actions}
use Rattle.dp_lines.proofs.TextParts.{words_ok, numbers_ok, text_ends}
use Rattle.dp_policy.proofs.StageParts.{stage_read}
use Rattle.dp_policy.proofs.AgentParts.{agent_words_are, agent_read}
use Rattle.dp_policy.proofs.PolicyParts.{title_read, horizon_read, limits_kept, agents_read, end_read}
use Rattle.dp_policy.proofs.PolicyAnswers.{policy_proper}
use Rattle.dp_lines.proofs.ProperTexts.{replicate_items}

-- ---- one line

line_front : (line : Line) (lines : List Line) (more : List ℕ)
    → text_of_lines (line ∷ lines) ++ more ≡ line_text line.form line.numbers
    ++ 10 ∷ (text_of_lines lines ++ more)
line_front line lines more = append_assoc (line_text line.form line.numbers) (10 ∷ text_of_lines lines) more

numbers_written : {L : Type 0} (form : List Item) (zs : List ℤ) (at : ℕ) (lines : List Line) (more : List ℕ)
    → HasItems form → Allows form zs
    → front_of {L = L} (the_numbers form) at (text_of_lines (record { form = form; numbers = zs } ∷ lines)
    ++ more)
    ≡ Ok (rest_at zs (suc at) (text_of_lines lines ++ more))
numbers_written {L = L} form zs at lines more has a =
    ap (front_of {L = L} (the_numbers form) at) (line_front (record { form = form; numbers = zs }) lines more)
    ∙ numbers_ok form at (line_text form zs ++ 10 ∷ (text_of_lines lines ++ more)) zs
    (text_of_lines lines ++ more)
    (line_at-written form zs (text_of_lines lines ++ more) has a)

-- ---- the rows of an agent

-- the lines of rows from stage t on
abbrev stage_lines : ℕ → ℕ → ℕ → List (List ℕ) → List Line
stage_lines b n t [] = []
stage_lines b n t (row ∷ rows) = record { form = row_form b n t; numbers = map pos row } ∷ stage_lines b n
    (t + 1)
    rows

stages_written : {L : Type 0} (b n t : ℕ) (rows : List (List ℕ)) (at : ℕ) (more : List ℕ)
    → AllAllowed (stage_lines b n t rows)
    → front_of {L = L} (stage_rows b n t (length rows)) at (text_of_lines (stage_lines b n t rows) ++ more)
    ≡ Ok (rest_at rows (at + length rows) more)
stages_written b n t [] at more a = ap (λ k. Ok (rest_at [] k more)) (omega arith)
stages_written {L = L} b n t (row ∷ rows) at more a =
    stage_read {L = L} b n t (length rows) at (suc at) _ (text_of_lines (stage_lines b n (t + 1) rows)
    ++ more) row
    (numbers_written {L = L} (row_form b n t) (map pos row) at (stage_lines b n (t + 1) rows) more
    (replicate_items (n ^ t) 0 (b - 1)) a.0)
    ∙ ap (onto (row ∷ [])) (stages_written {L = L} b n (t + 1) rows (suc at) more a.1)
    ∙ ap (λ k. Ok (rest_at (row ∷ rows) k more)) (omega arith)

tree_lines_are : (b n : ℕ) (q : PolicyTree) (t k : ℕ) → map (row_line b n q) (range_with_len t k)
    ≡ stage_lines b n t (tree_rows n q t k)
tree_lines_are b n q t zero = refl
tree_lines_are b n q t (suc k) = ap (λ (l : List Line). row_line b n q t ∷ l) (tree_lines_are b n q (t + 1) k)

tree_rows_length : (n : ℕ) (q : PolicyTree) (t k : ℕ) → length (tree_rows n q t k) ≡ k
tree_rows_length n q t zero = refl
tree_rows_length n q t (suc k) = ap suc (tree_rows_length n q (t + 1) k)

tree_written : {L : Type 0} (b n h : ℕ) (q : PolicyTree) (at : ℕ) (more : List ℕ)
    → AllAllowed (map (row_line b n q) (range_with_len 0 h))
    → front_of {L = L} (stage_rows b n 0 h) at (text_of_lines (map (row_line b n q) (range_with_len 0 h))
    ++ more)
    ≡ Ok (rest_at (tree_rows n q 0 h) (at + h) more)
tree_written {L = L} b n h q at more a =
    let lines = tree_lines_are b n q 0 h in
    let size = tree_rows_length n q 0 h in
    ap (λ (l : List Line). front_of {L = L} (stage_rows b n 0 h) at (text_of_lines l ++ more)) lines
    ∙ ap (λ k. front_of {L = L} (stage_rows b n 0 k) at (text_of_lines (stage_lines b n 0 (tree_rows n q 0 h))
    ++ more)) (sym size)
    ∙ stages_written {L = L} b n 0 (tree_rows n q 0 h) at more (subst AllAllowed lines a)
    ∙ ap (λ k. Ok (rest_at (tree_rows n q 0 h) (at + k) more)) size

-- ---- the agents

agents_written : {L : Type 0} (h agent : ℕ) (bs ns : List ℕ) (qs : List PolicyTree) (at : ℕ) (more : List ℕ)
    → agent + length bs < 10 ^ 64 → IsJointPolicy h bs ns qs
    → AllAllowed (agent_lines agent (policy_rows bs ns h qs))
    → (to : ℕ) × (front_of {L = L} (agent_rows h agent bs ns) at
    (text_of_lines (agent_lines agent (policy_rows bs ns h qs)) ++ more)
    ≡ Ok (rest_at (policy_actions h ns qs) to more))
agents_written h agent _ _ _ at more few no_agents a = (at, refl)
agents_written {L = L} h agent (b ∷ bs) (n ∷ ns) (q ∷ qs) at more few (and_agent is iss) a =
    let rows = map (row_line b n q) (range_with_len 0 h) in
    let others = agent_lines (agent + 1) (policy_rows bs ns h qs) in
    let parts = AllAllowed-parts rows others a.1 in
    let rest = agents_written {L = L} h (agent + 1) bs ns qs (suc at + h) more (omega arith) iss parts.1 in
    let behind : text_of_lines (rows ++ others) ++ more ≡ text_of_lines rows ++ (text_of_lines others ++ more) =
    ap (λ (l : List ℕ). l ++ more) (text_of_lines-append rows others)
    ∙ append_assoc (text_of_lines rows) (text_of_lines others) more in
    let title : front_of {L = L} (the_words (agent_words agent)) at
    (text_of_lines (fixed_line (agent_form agent) ∷ (rows ++ others)) ++ more)
    ≡ Ok (rest_at tt (suc at) (text_of_lines (rows ++ others) ++ more)) =
    ap (front_of {L = L} (the_words (agent_words agent)) at)
    (line_front (fixed_line (agent_form agent)) (rows ++ others) more)
    ∙ words_ok {L = L} (agent_words agent) at _ (text_of_lines (rows ++ others) ++ more)
    (line_at-written (agent_form agent) [] (text_of_lines (rows ++ others) ++ more)
    (words_have_items (agent_words agent) (agent_words_are agent (omega arith))) tt) in
    let stages : front_of {L = L} (stage_rows b n 0 h) (suc at) (text_of_lines (rows ++ others) ++ more)
    ≡ Ok (rest_at (tree_rows n q 0 h) (suc at + h) (text_of_lines others ++ more)) =
    ap (front_of {L = L} (stage_rows b n 0 h) (suc at)) behind
    ∙ tree_written {L = L} b n h q (suc at) (text_of_lines others ++ more) parts.0 in (
      rest.0,
      agent_read {L = L} h agent b n bs ns at (suc at) (suc at + h) _ _ (text_of_lines others ++ more)
          (tree_rows n q 0 h) title stages ∙ ap (onto (tree_rows n q 0 h ∷ [])) rest.1,
    )

-- ---- the whole text

-- the text of a joint policy whose horizon keeps the limits says its horizon and its actions
pub policy_text_says : (m : Model) → IsModel m → (bytes : List ℕ) (h : ℕ) (qs : List PolicyTree)
    → IsPolicyText m bytes h qs
    → PassesNone m h
    → IsText (policy_grammar m) bytes (record { horizon = h; agents = policy_actions h m.observations qs })
unfolding policy_text digits
policy_text_says m is bytes h qs text kept =
    let few = is.sizes.agents_limit in
    let agents = agent_lines 0 (policy_rows m.actions m.observations h qs) in
    let last = fixed_line end_form ∷ [] in
    let parts = AllAllowed-parts agents last text.allowed.1.1 in
    let written = agents_written {L = TooLarge} h 0 m.actions m.observations qs 3 (text_of_lines last)
    (omega (arith, few)) text.policy parts.0 in
    let whole : bytes ≡ text_of_lines (fixed_line (title_form (codes "policy") 1) ∷ horizon_line
    h ∷ (agents ++ last)) ++ [] = text.text ∙ sym (append-nil
    (text_of_lines (fixed_line (title_form (codes "policy") 1) ∷ horizon_line h ∷ (agents ++ last)))) in
    let title : front_of {L = TooLarge} (the_words (title_words (codes "policy"))) 1 bytes
    ≡ Ok (rest_at tt 2 (text_of_lines (horizon_line h ∷ (agents ++ last)) ++ [])) =
    ap (front_of {L = TooLarge} (the_words (title_words (codes "policy"))) 1)
    (whole ∙ line_front (fixed_line (title_form (codes "policy") 1)) (horizon_line h ∷ (agents ++ last)) [])
    ∙ words_ok {L = TooLarge} (title_words (codes "policy")) 1 _ _
    (line_at-written (title_form (codes "policy") 1) [] (text_of_lines (horizon_line h ∷ (agents ++ last))
    ++ []) (assumption, (assumption, (assumption, tt))) tt) in
    let horizon = numbers_written {L = TooLarge} horizon_form (pos h ∷ []) 2 (agents ++ last) []
    (assumption, tt)
    text.allowed.1.0 in
    let behind : text_of_lines (agents ++ last) ++ [] ≡ text_of_lines agents
    ++ text_of_lines last = append-nil (text_of_lines (agents ++ last)) ∙ text_of_lines-append agents last in
    let rows = ap (front_of {L = TooLarge} (agent_rows h 0 m.actions m.observations) 3) behind ∙ written.1 in
    let end : front_of {L = TooLarge} (the_words end_words) written.0 (text_of_lines last)
    ≡ Ok (rest_at tt (suc written.0) []) =
    words_ok {L = TooLarge} end_words written.0 (text_of_lines last) []
    (line_at-written end_form [] [] (assumption, tt) tt) in
    let read = text_ends (policy_grammar m) bytes (record {
      horizon = h;
      agents = policy_actions h m.observations qs;
    }) (suc written.0) []
    (title_read m bytes _ 2 title ∙ horizon_read m 2 3 _ _ (pos h ∷ []) horizon
    ∙ limits_kept m (pos h ∷ []) h 3 _ refl kept ∙ agents_read m h 3 written.0 _ (text_of_lines last)
    (policy_actions h m.observations qs) rows ∙ end_read h written.0 (suc written.0) (text_of_lines last) []
    (policy_actions h m.observations qs) end) refl in
    subst (IsAnswer (policy_grammar m) 1 bytes) read (read_answer (policy_grammar m) (policy_proper m is)
    1 bytes)
