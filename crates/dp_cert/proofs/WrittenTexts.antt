-- What is written is the text of the certificate.
use Rattle.std.proofs.Common.{◌≡◌, ℕ, zero, suc, ◌+◌, ◌-◌, ◌^◌, ◌<◌, Bool, true, false, cond, List, [], ◌∷◌, ◌++◌}
use Rattle.std.proofs.Common.{length, get_or, map, refl, sym, ap, ◌∙◌, append_assoc, arith}
use Rattle.std.specs.Prelude.{◌==◌, codes, decimal, pos, replicate}
use Rattle.std.specs.Fmt.{signed_decimal}
use Rattle.std.specs.List.{join_with_byte}
use Rattle.std.proofs.lemmas.Bool.Decides.{nat_tests}
use Rattle.dp_spec.specs.BoundTree.{BoundTree, BoundTrees, branch, child_count, leaf, merge, more_bound_trees}
use Rattle.dp_spec.specs.BoundTree.{no_bound_trees}
use Rattle.dp_spec.specs.Certificate.{Certificate, HasPolicyOfVersion}
use Rattle.dp_spec.specs.CertificateText.{certificate_text, children_lines, head_lines, inner_form, node_lines}
use Rattle.dp_spec.specs.CertificateText.{signed_line}
use Rattle.dp_spec.specs.Model.{Model}
use Rattle.dp_spec.specs.PlainForm.{ArePlain}
use Rattle.dp_spec.specs.PlainForm.ArePlain.{and_agent as and_plain, no_agents as none_plain}
use Rattle.dp_spec.specs.PolicyText.{agent_form, agent_lines, end_form, row_form}
use Rattle.dp_spec.specs.SharedPolicy.{AgentRows, AreRowsOfAgents, AreStages, IsRow, PolicyRow, SharedPolicy}
use Rattle.dp_spec.specs.SharedPolicy.{first_count, next_count, no_row, row_count}
use Rattle.dp_spec.specs.SharedPolicy.AreRowsOfAgents.{and_agent, no_agents}
use Rattle.dp_spec.specs.SharedRows.{counts_form, counts_line, shared_policy_rows, shared_row_form, shared_row_line}
use Rattle.dp_spec.specs.SharedRows.{stage_counts, stage_lines}
use Rattle.dp_spec.specs.TextLines.{Line, fixed, fixed_line, line_text, plain, spelled_items, text_of_lines}
use Rattle.dp_cert.specs.CertificateBytes.{actions_bytes, agents_bytes, certificate_bytes, children_bytes}
use Rattle.dp_cert.specs.CertificateBytes.{counted_bytes, head_bytes, node_bytes, plain_bytes, rows_bytes}
use Rattle.dp_cert.specs.CertificateBytes.{signed_bytes, stages_bytes}
use Rattle.dp_lines.specs.Lines.{row_tail}
use Rattle.dp_cert.proofs.ReadCertificates.{rows_lines, tree_part_lines}
use Rattle.dp_spec.proofs.TextLemmas.{spelled_items-replicate, text_of_lines-append}
use Rattle.dp_lines.proofs.WrittenLines.{all_joined, tail_joined}
use Rattle.dp_cert.proofs.ReadPlainRows.{action_lines, actions_of, plain_lines}
use Rattle.dp_cert.proofs.ReadTexts.{lines_read_are}

-- ---- a line of numbers

spelled_row : (k low high : ℕ) (xs : List ℕ) → length xs ≡ k
    → spelled_items (replicate k (plain low high)) (map pos xs) ≡ map decimal xs
spelled_row k low high xs e = rw (← e) (spelled_items-replicate low high xs)

-- a line feed and what follows it
feed : (line : List ℕ) (others : List ℕ) → line ++ 10 ∷ others ≡ (line ++ 10 ∷ []) ++ others
feed line others = sym (append_assoc line (10 ∷ []) others)

-- one number, and what follows it
number_then : (word digits xs ys : List ℕ) → xs ≡ ys → word ++ (digits ++ 10 ∷ xs)
    ≡ (word ++ (digits ++ 10 ∷ []))
    ++ ys
number_then word digits xs ys e =
    ap (λ (l : List ℕ). word ++ (digits ++ 10 ∷ l)) e
    ∙ ap (λ (l : List ℕ). word ++ l) (feed digits ys)
    ∙ sym (append_assoc word (digits ++ 10 ∷ []) ys)

-- ---- trees

three_then : (word a b c xs ys : List ℕ) → xs ≡ ys
    → word ++ ((a ++ 32 ∷ (b ++ 32 ∷ c)) ++ 10 ∷ xs) ≡ (word ++ (a ++ 32 ∷ (b ++ 32 ∷ (c ++ 10 ∷ [])))) ++ ys
three_then word a b c xs ys e =
    ap (λ (l : List ℕ). word ++ l)
    (append_assoc a (32 ∷ (b ++ 32 ∷ c)) (10 ∷ xs)
    ∙ ap (λ (l : List ℕ). a ++ 32 ∷ l) (append_assoc b (32 ∷ c) (10 ∷ xs))
    ∙ ap (λ (l : List ℕ). a ++ 32 ∷ (b ++ 32 ∷ (c ++ 10 ∷ l))) e
    ∙ ap (λ (l : List ℕ). a ++ 32 ∷ (b ++ 32 ∷ l)) (feed c ys)
    ∙ ap (λ (l : List ℕ). a ++ 32 ∷ l) (sym (append_assoc b (32 ∷ (c ++ 10 ∷ [])) ys))
    ∙ sym (append_assoc a (32 ∷ (b ++ 32 ∷ (c ++ 10 ∷ []))) ys))
    ∙ sym (append_assoc word (a ++ 32 ∷ (b ++ 32 ∷ (c ++ 10 ∷ []))) ys)

mutual
  pub nodes_written : (T : BoundTree) → text_of_lines (node_lines T) ≡ node_bytes T
  nodes_written (leaf x) = refl
  nodes_written (branch i c ks) =
      three_then (codes "B ") (decimal i) (decimal c) (decimal (child_count ks)) _ _ (children_written ks)
  nodes_written (merge i a b k) = three_then (codes "M ") (decimal i) (decimal a) (decimal b) _ _
      (nodes_written k)

  children_written : (ks : BoundTrees) → text_of_lines (children_lines ks) ≡ children_bytes ks
  children_written no_bound_trees = refl
  children_written (more_bound_trees k ks) =
      text_of_lines-append (node_lines k) (children_lines ks)
      ∙ (λ j. nodes_written k j ++ children_written ks j)

-- ---- shared rows

row_written : (b nexts count : ℕ) (row : PolicyRow) → IsRow b nexts count row
    → line_text (shared_row_form b nexts count) (pos row.action ∷ map pos row.next) ≡ decimal row.action
    ++ row_tail false row.next
row_written b nexts count row is =
    ap (λ (l : List (List ℕ)). join_with_byte 32 (decimal row.action ∷ l))
    (spelled_row nexts 0 (count - 1) row.next is.one_each)
    ∙ tail_joined (decimal row.action) row.next

rows_written : (b nexts count : ℕ) (rows : List PolicyRow)
    → ((r : ℕ) → r < length rows → IsRow b nexts count (get_or rows r no_row))
    → text_of_lines (map (shared_row_line b nexts count) rows) ≡ rows_bytes rows
rows_written b nexts count [] each = refl
rows_written b nexts count (row ∷ rows) each =
    let others = rows_written b nexts count rows (λ r lt. each (suc r) (omega arith)) in
    let tail = text_of_lines (map (shared_row_line b nexts count) rows) in
    ap (λ (l : List ℕ). l ++ 10 ∷ tail) (row_written b nexts count row (each 0 (omega arith)))
    ∙ append_assoc (decimal row.action) (row_tail false row.next) (10 ∷ tail)
    ∙ ap (λ (l : List ℕ). decimal row.action ++ (row_tail false row.next ++ 10 ∷ l)) others
    ∙ ap (λ (l : List ℕ). decimal row.action ++ l) (feed (row_tail false row.next) (rows_bytes rows))
    ∙ sym (append_assoc (decimal row.action) (row_tail false row.next ++ 10 ∷ []) (rows_bytes rows))

stages_written : (b n : ℕ) (stages : AgentRows) → AreStages b n stages
    → text_of_lines (stage_lines b n stages) ≡ stages_bytes stages
stages_written b n [] are = refl
stages_written b n (rows ∷ stages) are =
    text_of_lines-append (map (shared_row_line b (next_count n stages) (first_count stages)) rows)
    (stage_lines b n stages)
    ∙ (λ j. rows_written b (next_count n stages) (first_count stages) rows are.1 j
    ++ stages_written b n stages are.2 j)

spelled_counts : (h : ℕ) (xs : List ℕ) → length xs ≡ h → spelled_items (counts_form h) (map pos xs)
    ≡ codes "rows" ∷ map decimal xs
spelled_counts zero [] e = refl
spelled_counts zero (x ∷ xs) e = absurd (omega (arith, e))
spelled_counts (suc h) [] e = absurd (omega (arith, e))
spelled_counts (suc h) (x ∷ xs) e =
    ap (λ (l : List (List ℕ)). codes "rows" ∷ decimal x ∷ l) (spelled_row h 1 (2 ^ 22) xs (omega (arith, e)))

counts_all : (stages : AgentRows) → length (stage_counts stages) ≡ length stages
counts_all [] = refl
counts_all (rows ∷ stages) = ap suc (counts_all stages)

counts_written : (stages : AgentRows)
    → line_text (counts_form (length stages)) (map pos (stage_counts stages)) ≡ codes "rows"
    ++ row_tail false (stage_counts stages)
counts_written stages =
    ap (join_with_byte 32) (spelled_counts (length stages) (stage_counts stages) (counts_all stages))
    ∙ tail_joined (codes "rows") (stage_counts stages)

counted_written : (b n : ℕ) (stages : AgentRows) → AreStages b n stages
    → text_of_lines (counts_line stages ∷ stage_lines b n stages) ≡ counted_bytes stages
counted_written b n stages are =
    (λ j. counts_written stages j ++ 10 ∷ stages_written b n stages are j)
    ∙ feed (codes "rows" ++ row_tail false (stage_counts stages)) (stages_bytes stages)
    ∙ ap (λ (l : List ℕ). l ++ stages_bytes stages) (append_assoc (codes "rows")
    (row_tail false (stage_counts stages)) (10 ∷ []))

-- one agent, and the others
agent_then : (agent : ℕ) (rows others : List Line) (mine more : List ℕ) → text_of_lines rows ≡ mine
    → text_of_lines others ≡ more
    → text_of_lines (fixed_line (agent_form agent) ∷ (rows ++ others)) ≡ plain_bytes (codes "agent ") agent
    ++ (mine ++ more)
agent_then agent rows others mine more e f =
    number_then (codes "agent ") (decimal agent) (text_of_lines (rows ++ others)) (mine ++ more)
    (text_of_lines-append rows others ∙ (λ j. e j ++ f j))

shared_written : {h : ℕ} {bs ns : List ℕ} {p : SharedPolicy} → AreRowsOfAgents h bs ns p → (agent : ℕ)
    → text_of_lines (agent_lines agent (shared_policy_rows bs ns p)) ≡ agents_bytes counted_bytes agent p
shared_written no_agents agent = refl
shared_written {h} (and_agent {b = b} {n = n} {bs = bs} {ns = ns} {stages = stages} {p = p} one others) agent =
    agent_then agent (counts_line stages ∷ stage_lines b n stages)
    (agent_lines (agent + 1) (shared_policy_rows bs ns p))
    (counted_bytes stages) (agents_bytes counted_bytes (agent + 1) p) (counted_written b n stages one.rows)
    (shared_written others (agent + 1))

-- ---- plain rows

actions_all : (rows : List PolicyRow) → length (actions_of rows) ≡ length rows
actions_all [] = refl
actions_all (row ∷ rows) = ap suc (actions_all rows)

plain_stages_written : (b n t : ℕ) (stages : AgentRows)
    → ((k : ℕ) → k < length stages → row_count stages k ≡ n ^ (t + k))
    → text_of_lines (action_lines b n t stages) ≡ actions_bytes stages
plain_stages_written b n t [] counts = refl
plain_stages_written b n t (rows ∷ stages) counts =
    let here : t + 0 ≡ t = omega arith in
    let size : length (actions_of rows) ≡ n ^ t =
    actions_all rows ∙ counts 0 (omega arith) ∙ ap (λ u. n ^ u) here in
    let line : line_text (row_form b n t) (map pos (actions_of rows)) ≡ row_tail true (actions_of rows) =
    ap (join_with_byte 32) (spelled_row (n ^ t) 0 (b - 1) (actions_of rows) size)
    ∙ all_joined (actions_of rows) in
    let others = plain_stages_written b n (t + 1) stages (λ k lt.
    let later : t + suc k ≡ t + 1 + k = omega arith in counts (suc k) (omega arith) ∙ ap (λ u. n ^ u) later) in
    (λ j. line j ++ 10 ∷ others j) ∙ feed (row_tail true (actions_of rows)) (actions_bytes stages)

plain_written : {h : ℕ} {bs ns : List ℕ} {p : SharedPolicy} → AreRowsOfAgents h bs ns p → ArePlain h ns p
    → (agent : ℕ)
    → text_of_lines (agent_lines agent (plain_lines bs ns p)) ≡ agents_bytes actions_bytes agent p
plain_written no_agents none_plain agent = refl
plain_written {h} (and_agent {b = b} {n = n} {bs = bs} {ns = ns} {stages = stages} {p = p} one others)
    (and_plain first rest)
    agent =
    let size = one.of_horizon in
    agent_then agent (action_lines b n 0 stages) (agent_lines (agent + 1) (plain_lines bs ns p))
    (actions_bytes stages)
    (agents_bytes actions_bytes (agent + 1) p)
    (plain_stages_written b n 0 stages (λ k lt.
    let none : k ≡ 0 + k = omega arith in first.counts k (omega (arith, size, lt)) ∙ ap (λ u. n ^ u) none))
    (plain_written others rest (agent + 1))

-- ---- the whole text

rows_bytes_of : (m : Model) (c : Certificate) → HasPolicyOfVersion m c
    → text_of_lines (agent_lines 0 (rows_lines m c.version c.policy))
    ≡ agents_bytes (cond (c.version == 1) actions_bytes counted_bytes) 0 c.policy
rows_bytes_of m c has = by_version (c.version == 1) refl
  where
    is_one : (v : ℕ) → (v == 1) ≡ true → v ≡ 1
    is_one v e = grind (arith, nat_tests)

    by_version : (b : Bool) → (c.version == 1) ≡ b
        → text_of_lines (agent_lines 0 (cond b (plain_lines m.actions m.observations c.policy)
        (shared_policy_rows m.actions m.observations c.policy)))
        ≡ agents_bytes (cond b actions_bytes counted_bytes) 0 c.policy
    by_version true e = plain_written has.shared.agents (has.plain (is_one c.version e)) 0
    by_version false e = shared_written has.shared.agents 0

tree_written : (T : BoundTree) → text_of_lines (tree_part_lines T) ≡ codes "tree\n"
    ++ (node_bytes T ++ codes "end\n")
tree_written T =
    ap (λ (l : List ℕ). codes "tree\n" ++ l)
    (text_of_lines-append (node_lines T) (fixed_line end_form ∷ [])
    ∙ ap (λ (l : List ℕ). l ++ codes "end\n") (nodes_written T))

-- parts of a head one after the other, and what follows them
parts_then : (a b c d e f g h k ys : List ℕ)
    → a ++ (b ++ (c ++ (d ++ (e ++ (f ++ (g ++ (h ++ (k ++ ys))))))))
    ≡ ((a ++ (b ++ (c ++ d))) ++ ((e ++ (f ++ g)) ++ (h ++ k))) ++ ys
parts_then a b c d e f g h k ys =
    let manner = a ++ (b ++ (c ++ d)) in
    let interval = e ++ (f ++ g) in
    let last = h ++ (k ++ ys) in
    let whole : ((manner ++ (interval ++ (h ++ k))) ++ ys) ≡ manner ++ (interval ++ last) =
    append_assoc manner (interval ++ (h ++ k)) ys
    ∙ ap (λ (l : List ℕ). manner ++ l)
    (append_assoc interval (h ++ k) ys ∙ ap (λ (l : List ℕ). interval ++ l) (append_assoc h k ys)) in
    let inner : interval ++ last ≡ e ++ (f ++ (g ++ last)) =
    append_assoc e (f ++ g) last ∙ ap (λ (l : List ℕ). e ++ l) (append_assoc f g last) in
    let outer : manner ++ (interval ++ last) ≡ a ++ (b ++ (c ++ (d ++ (interval ++ last)))) =
    append_assoc a (b ++ (c ++ d)) (interval ++ last)
    ∙ ap (λ (l : List ℕ). a ++ l)
    (append_assoc b (c ++ d) (interval ++ last) ∙ ap (λ (l : List ℕ). b ++ l)
    (append_assoc c d (interval ++ last))) in
    sym (whole ∙ outer ∙ ap (λ (l : List ℕ). a ++ (b ++ (c ++ (d ++ l)))) inner)

-- the lines before the policy, and what follows them
head_then : (c : Certificate) (ls : List Line) (ys : List ℕ) → text_of_lines ls ≡ ys
    → text_of_lines (head_lines c ++ fixed_line (fixed (codes "policy") ∷ []) ∷ ls) ≡ head_bytes c ++ ys
head_then c ls ys e = by_mode c.is_exact
  where
    interval_then : text_of_lines (signed_line (codes "unit") c.unit ∷ signed_line (codes "lower") c.lower
        ∷ signed_line (codes "upper") c.upper ∷ record { form = inner_form; numbers = pos c.inner ∷ [] }
        ∷ fixed_line (fixed (codes "policy") ∷ []) ∷ ls)
        ≡ signed_bytes (codes "unit ") c.unit ++ (signed_bytes (codes "lower ") c.lower
        ++ (signed_bytes (codes "upper ") c.upper ++ (plain_bytes (codes "inner ") c.inner
        ++ (codes "policy\n" ++ ys))))
    interval_then =
        number_then (codes "unit ") (signed_decimal c.unit) _ _
        (number_then (codes "lower ") (signed_decimal c.lower) _ _
        (number_then (codes "upper ") (signed_decimal c.upper) _ _
        (number_then (codes "inner ") (decimal c.inner) _ _ (ap (λ (l : List ℕ). codes "policy\n" ++ l) e))))

    by_mode : (exact : Bool) → (let d : Certificate = record c { is_exact = exact } in
        text_of_lines (head_lines d ++ fixed_line (fixed (codes "policy") ∷ []) ∷ ls) ≡ head_bytes d ++ ys)
    by_mode true =
        number_then (codes "decplan certificate ") (decimal c.version) _ _
        (number_then (codes "horizon ") (decimal c.horizon) _ _
        (number_then (codes "look ") (decimal c.look) _ _ (ap (λ (l : List ℕ). codes "mode exact\n" ++ l)
        interval_then)))
        ∙ parts_then (plain_bytes (codes "decplan certificate ") c.version)
        (plain_bytes (codes "horizon ") c.horizon)
        (plain_bytes (codes "look ") c.look) (codes "mode exact\n") (signed_bytes (codes "unit ") c.unit)
        (signed_bytes (codes "lower ") c.lower) (signed_bytes (codes "upper ") c.upper)
        (plain_bytes (codes "inner ") c.inner) (codes "policy\n") ys
    by_mode false =
        number_then (codes "decplan certificate ") (decimal c.version) _ _
        (number_then (codes "horizon ") (decimal c.horizon) _ _
        (number_then (codes "look ") (decimal c.look) _ _ (ap (λ (l : List ℕ). codes "mode outward\n" ++ l)
        interval_then)))
        ∙ parts_then (plain_bytes (codes "decplan certificate ") c.version)
        (plain_bytes (codes "horizon ") c.horizon)
        (plain_bytes (codes "look ") c.look) (codes "mode outward\n") (signed_bytes (codes "unit ") c.unit)
        (signed_bytes (codes "lower ") c.lower) (signed_bytes (codes "upper ") c.upper)
        (plain_bytes (codes "inner ") c.inner) (codes "policy\n") ys

-- what is written of a certificate with a policy of its version is its text
pub bytes_are_text : (m : Model) (c : Certificate) → HasPolicyOfVersion m c
    → certificate_bytes c ≡ certificate_text m.actions m.observations c
unfolding certificate_text
bytes_are_text m c has =
    let rows = agent_lines 0 (rows_lines m c.version c.policy) in
    sym (head_then c (rows ++ tree_part_lines c.tree) _
    (text_of_lines-append rows (tree_part_lines c.tree) ∙ (λ j. rows_bytes_of m c has j ++ tree_written c.tree j)))
    ∙ ap text_of_lines (lines_read_are m c has)
