-- The bytes that are written are the text of the joint policy.
use Rattle.std.proofs.Common.{◌≡◌, ℕ, zero, suc, ◌+◌, true, List, [], ◌∷◌, ◌++◌, map, refl, sym, ap, ◌∙◌}
use Rattle.std.proofs.Common.{append_assoc}
use Rattle.std.specs.Prelude.{pos, codes, decimal}
use Rattle.std.specs.Fmt.{digits}
use Rattle.std.specs.List.{range_with_len}
use Rattle.dp_spec.specs.Model.{Model}
use Rattle.dp_spec.specs.PolicyTree.{PolicyTree, IsJointPolicy, IsPolicyOf}
use Rattle.dp_spec.specs.PolicyTree.IsJointPolicy.{and_agent, no_agents}
use Rattle.dp_spec.specs.TextLines.{fixed_line, line_text, text_of_lines}
use Rattle.dp_spec.specs.PolicyText.{row_form, row_actions, row_line, policy_rows, agent_lines, end_form, policy_text}
use Rattle.dp_lines.specs.Lines.{row_tail}
use Rattle.dp_policy.specs.PolicyBytes.{rows_bytes, agents_bytes, policy_bytes}
use Rattle.dp_policy.specs.ActionRows.{tree_rows, policy_actions}
use Rattle.dp_lines.proofs.WrittenLines.{all_joined}
use Rattle.dp_spec.proofs.TextLemmas.{line_text-row, text_of_lines-append}

-- ---- a row

row_written : (b n : ℕ) (q : PolicyTree) (t : ℕ) → line_text (row_form b n t) (map pos (row_actions n q t))
    ≡ row_tail true (row_actions n q t)
row_written b n q t = line_text-row b n t q ∙ all_joined (row_actions n q t)

-- ---- the rows of an agent

rows_written : (b n : ℕ) (q : PolicyTree) (t k : ℕ) → text_of_lines (map (row_line b n q) (range_with_len t k))
    ≡ rows_bytes (tree_rows n q t k)
rows_written b n q t zero = refl
rows_written b n q t (suc k) =
    ap (λ (l : List ℕ). l ++ 10 ∷ text_of_lines (map (row_line b n q) (range_with_len (t + 1) k)))
    (row_written b n q t)
    ∙ ap (λ (l : List ℕ). row_tail true (row_actions n q t) ++ 10 ∷ l) (rows_written b n q (t + 1) k)
    ∙ sym (append_assoc (row_tail true (row_actions n q t)) (10 ∷ []) (rows_bytes (tree_rows n q (t + 1) k)))

agents_are : (h agent : ℕ) (bs ns : List ℕ) (qs : List PolicyTree) → IsJointPolicy h bs ns qs
    → text_of_lines (agent_lines agent (policy_rows bs ns h qs)) ≡ agents_bytes agent (policy_actions h ns qs)
agents_are h agent _ _ _ no_agents = refl
agents_are h agent (b ∷ bs) (n ∷ ns) (q ∷ qs) (and_agent is iss) =
    let rows = map (row_line b n q) (range_with_len 0 h) in
    let others = agent_lines (agent + 1) (policy_rows bs ns h qs) in
    let behind : text_of_lines (rows ++ others) ≡ rows_bytes (tree_rows n q 0 h)
    ++ agents_bytes (agent + 1) (policy_actions h ns qs) =
    text_of_lines-append rows others ∙ ap (λ (l : List ℕ). l ++ text_of_lines others) (rows_written b n q 0 h)
    ∙ ap (λ (l : List ℕ). rows_bytes (tree_rows n q 0 h) ++ l) (agents_are h (agent + 1) bs ns qs iss) in
    ap (λ (l : List ℕ). (codes "agent " ++ decimal agent) ++ 10 ∷ l) behind
    ∙ append_assoc (codes "agent ") (decimal agent) (10 ∷ (rows_bytes (tree_rows n q 0 h)
    ++ agents_bytes (agent + 1) (policy_actions h ns qs)))

-- the bytes of the rows of a joint policy, whoever the agents are, are its text
pub written_for : (bs ns : List ℕ) (h : ℕ) (qs : List PolicyTree) → IsJointPolicy h bs ns qs
    → policy_bytes h (policy_actions h ns qs) ≡ policy_text bs ns h qs
unfolding policy_text digits
written_for bs ns h qs is =
    let agents = agent_lines 0 (policy_rows bs ns h qs) in
    let behind : text_of_lines (agents ++ fixed_line end_form ∷ []) ≡ agents_bytes 0 (policy_actions h ns qs)
    ++ codes "end\n" =
    text_of_lines-append agents (fixed_line end_form ∷ []) ∙ ap (λ (l : List ℕ). l ++ codes "end\n")
    (agents_are h 0 bs ns qs is) in
    sym (ap (λ (l : List ℕ). codes "decplan policy 1\n" ++ ((codes "horizon " ++ decimal h) ++ 10 ∷ l)) behind
    ∙ ap (λ (l : List ℕ). codes "decplan policy 1\n" ++ l) (append_assoc (codes "horizon ") (decimal h)
    (10 ∷ (agents_bytes 0 (policy_actions h ns qs) ++ codes "end\n"))))

pub written_bytes : (m : Model) (h : ℕ) (qs : List PolicyTree) → IsPolicyOf m h qs
    → policy_bytes h (policy_actions h m.observations qs) ≡ policy_text m.actions m.observations h qs
written_bytes m h qs is = written_for m.actions m.observations h qs is
