-- The lines of a plain policy are read as the policy.
use Rattle.std.proofs.Common.{◌≡◌, ℕ, zero, suc, ◌+◌, ◌^◌, List, [], ◌∷◌, ◌++◌, map, refl, sym, ap, subst, ◌∙◌}
use Rattle.std.proofs.Common.{append_assoc}
use Rattle.std.specs.Prelude.{pos}
use Rattle.std.specs.List.{range_with_len}
use Rattle.dp_spec.specs.Keeping.{tree_at}
use Rattle.dp_spec.specs.PlainForm.{observations_after, plain_row, plain_rows, plain_rows_of}
use Rattle.dp_spec.specs.PolicyText.{agent_form, agent_lines, policy_rows, row_actions, row_form, row_line}
use Rattle.dp_spec.specs.PolicyTree.{PolicyTree, IsJointPolicy, root_action}
use Rattle.dp_spec.specs.PolicyTree.IsJointPolicy.{and_agent, no_agents}
use Rattle.dp_spec.specs.SharedPolicy.{AgentRows}
use Rattle.dp_spec.specs.TextLines.{AllAllowed, Allows, Line, fixed_line}
use Rattle.dp_laws.proofs.WholeTexts.{AllAllowed-parts}
use Rattle.dp_lines.proofs.LineCounts.{numbers_back}
use Rattle.dp_cert.specs.PolicyGrammar.{plain_agent, plain_agents, plain_stage, plain_stages, rows_from}
use Rattle.dp_cert.proofs.LineReads.{Reads, reads_and}

rows_from_are : (n h t : ℕ) (q : PolicyTree) (c k : ℕ)
    → rows_from n (observations_after n h t) c (map (λ x. root_action (tree_at n q t x)) (range_with_len c k))
    ≡ map (plain_row n h q t) (range_with_len c k)
rows_from_are n h t q c zero = refl
rows_from_are n h t q c (suc k) = ap (λ l. plain_row n h q t c ∷ l) (rows_from_are n h t q (c + 1) k)

stage_reads : (b n h t : ℕ) (q : PolicyTree) (rest : List Line)
    → Allows (row_form b n t) (map pos (row_actions n q t))
    → Reads (plain_stage b n h t) (row_line b n q t ∷ rest) (map (plain_row n h q t) (range_with_len 0 (n ^ t))) rest
stage_reads b n h t q rest a = (
  0,
  row_form b n t,
  map pos (row_actions n q t),
  rest,
  refl,
  a,
  refl,
  (
    ap (rows_from n (observations_after n h t) 0) (numbers_back (row_actions n q t))
        ∙ rows_from_are n h t q 0 (n ^ t),
    refl,
  ),
)

stages_read : (b n h : ℕ) (q : PolicyTree) (t left : ℕ) (rest : List Line)
    → AllAllowed (map (row_line b n q) (range_with_len t left))
    → Reads (plain_stages b n h t left) (map (row_line b n q) (range_with_len t left) ++ rest)
    (map (λ u. map (plain_row n h q u) (range_with_len 0 (n ^ u))) (range_with_len t left)) rest
stages_read b n h q t zero rest a = (refl, refl)
stages_read b n h q t (suc left) rest a =
    reads_and (plain_stage b n h t) (plain_stages b n h (t + 1) left) _ _ rest _ _
    (stage_reads b n h t q (map (row_line b n q) (range_with_len (t + 1) left) ++ rest) a.0)
    (stages_read b n h q (t + 1) left rest a.1)

agent_reads : (h agent b n : ℕ) (q : PolicyTree) (rest : List Line)
    → AllAllowed (map (row_line b n q) (range_with_len 0 h))
    → Reads (plain_agent h agent b n) (fixed_line (agent_form agent) ∷ (map (row_line b n q) (range_with_len 0 h)
    ++ rest)) (plain_rows n h q) rest
agent_reads h agent b n q rest a = (
  0,
  agent_form agent,
  [],
  map (row_line b n q) (range_with_len 0 h) ++ rest,
  refl,
  tt,
  refl,
  stages_read b n h q 0 h rest a,
)

pub plain_reads : (h agent : ℕ) (bs ns : List ℕ) (qs : List PolicyTree) (rest : List Line)
    → IsJointPolicy h bs ns qs → AllAllowed (agent_lines agent (policy_rows bs ns h qs))
    → Reads (plain_agents h agent bs ns) (agent_lines agent (policy_rows bs ns h qs) ++ rest)
    (plain_rows_of ns h qs) rest
plain_reads h agent _ _ _ rest no_agents a = (refl, refl)
plain_reads h agent (b ∷ bs) (n ∷ ns) (q ∷ qs) rest (and_agent is iss) a =
    let rows = map (row_line b n q) (range_with_len 0 h) in
    let others = agent_lines (agent + 1) (policy_rows bs ns h qs) in
    let parts = AllAllowed-parts rows others a.1 in
    reads_and (plain_agent h agent b n) (plain_agents h (agent + 1) bs ns) _ (others ++ rest) rest
    (plain_rows n h q) (plain_rows_of ns h qs)
    (subst (λ (l : List Line). Reads (plain_agent h agent b n) (fixed_line (agent_form agent) ∷ l) (plain_rows n h q)
    (others ++ rest)) (sym (append_assoc rows others rest)) (agent_reads h agent b n q (others ++ rest) parts.0))
    (plain_reads h (agent + 1) bs ns qs rest iss parts.1)
