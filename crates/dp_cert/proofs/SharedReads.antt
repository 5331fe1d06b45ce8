-- The lines of a shared policy are read as the policy.
use Rattle.std.proofs.Common.{◌≡◌, ℕ, zero, suc, ◌+◌, ◌*◌, ◌^◌, ◌<◌, ◌≤◌, true, false, List, [], ◌∷◌, ◌++◌, length}
use Rattle.std.proofs.Common.{get_or, map, refl, sym, ap, subst, ◌∙◌, append_assoc, arith}
use Rattle.std.specs.Prelude.{nat_lt, pos, unsigned_abs, Option, None}
use Rattle.std.proofs.Math.Nat.{mul-le-mul_left}
use Rattle.std.proofs.lemmas.Bool.Decides.{nat_tests}
use Rattle.dp_spec.specs.JointNumbers.{product}
use Rattle.dp_spec.specs.PolicyText.{agent_form, agent_lines}
use Rattle.dp_spec.specs.SharedPolicy.{AgentRows, AreRowsOfAgents, AreStages, PolicyRow, SharedPolicy, row_count}
use Rattle.dp_spec.specs.SharedPolicy.{row_counts}
use Rattle.dp_spec.specs.SharedPolicy.AreRowsOfAgents.{and_agent, no_agents}
use Rattle.dp_spec.specs.SharedRows.{counts_form, counts_line, first_past, products, shared_policy_rows}
use Rattle.dp_spec.specs.SharedRows.{shared_row_form, shared_row_line, stage_counts, stage_lines}
use Rattle.dp_spec.specs.TextLines.{AllAllowed, Allows, Item, Line, fixed_line}
use Rattle.dp_model.specs.declared.limit.TooLarge.{TooLarge}
use Rattle.dp_laws.proofs.WholeTexts.{AllAllowed-parts}
use Rattle.dp_lines.specs.Grammar.{ends, ◌>>=◌}
use Rattle.dp_lines.specs.Steps.{and_then, unless_passed}
use Rattle.dp_lines.proofs.LineCounts.{numbers_back}
use Rattle.dp_cert.specs.PolicyGrammar.{cells_passed, counts_grammar, row_line, rows_of_form, shared_agents}
use Rattle.dp_cert.specs.PolicyGrammar.{shared_stages}
use Rattle.dp_cert.proofs.LineReads.{Reads, reads_and, reads_bind, reads_unless, the_line}
use Rattle.dp_cert.proofs.ReadSharedRows.{count_at, product_at}

-- ---- rows and stages

row_reads : (b nexts count : ℕ) (row : PolicyRow) (rest : List Line)
    → Allows (shared_row_form b nexts count) (pos row.action ∷ map pos row.next)
    → Reads (row_line (shared_row_form b nexts count)) (shared_row_line b nexts count row ∷ rest) row rest
row_reads b nexts count row rest a = (
  0,
  shared_row_form b nexts count,
  pos row.action ∷ map pos row.next,
  rest,
  refl,
  a,
  refl,
  (ap (λ (l : List ℕ). record row { next = l }) (numbers_back row.next), refl),
)

rows_read : (b nexts count : ℕ) (rows : List PolicyRow) (rest : List Line)
    → AllAllowed (map (shared_row_line b nexts count) rows)
    → Reads (rows_of_form (shared_row_form b nexts count) (length rows))
    (map (shared_row_line b nexts count) rows ++ rest) rows rest
rows_read b nexts count [] rest a = (refl, refl)
rows_read b nexts count (row ∷ rows) rest a =
    reads_and (row_line (shared_row_form b nexts count)) (rows_of_form (shared_row_form b nexts count) (length rows))
    _ _ rest row rows (row_reads b nexts count row (map (shared_row_line b nexts count) rows ++ rest) a.0)
    (rows_read b nexts count rows rest a.1)

stages_read : (b n : ℕ) (stages : AgentRows) (rest : List Line) → AllAllowed (stage_lines b n stages)
    → Reads (shared_stages b n (stage_counts stages)) (stage_lines b n stages ++ rest) stages rest
stages_read b n [] rest a = (refl, refl)
stages_read b n (rows ∷ []) rest a =
    let lines = map (shared_row_line b 0 0) rows in
    let parts = AllAllowed-parts lines [] a in
    reads_and (rows_of_form (shared_row_form b 0 0) (length rows)) (shared_stages b n []) _ rest rest rows []
    (subst (λ (l : List Line). Reads (rows_of_form (shared_row_form b 0 0) (length rows)) l rows rest)
    (sym (append_assoc lines [] rest)) (rows_read b 0 0 rows rest parts.0)) (refl, refl)
stages_read b n (rows ∷ after ∷ stages) rest a =
    let lines = map (shared_row_line b n (length after)) rows in
    let others = stage_lines b n (after ∷ stages) in
    let parts = AllAllowed-parts lines others a in
    reads_and (rows_of_form (shared_row_form b n (length after)) (length rows))
    (shared_stages b n (stage_counts (after ∷ stages))) _ (others ++ rest) rest rows (after ∷ stages)
    (subst (λ (l : List Line). Reads (rows_of_form (shared_row_form b n (length after)) (length rows)) l rows
    (others ++ rest)) (sym (append_assoc lines others rest))
    (rows_read b n (length after) rows (others ++ rest) parts.0))
    (stages_read b n (after ∷ stages) rest parts.1)

-- ---- the limit on joint rows

-- none of a list is past a limit where each is within it
none_past : (limit : ℕ) (xs : List ℕ) → ((t : ℕ) → t < length xs → get_or xs t 0 ≤ limit)
    → first_past limit xs ≡ None
none_past limit [] each = refl
none_past limit (x ∷ xs) each =
    let within : nat_lt limit x ≡ false = not_past limit x (each 0 (omega arith)) in
    rw within (none_past limit xs (λ t lt. each (suc t) (omega arith)))
  where
    not_past : (a b : ℕ) → b ≤ a → nat_lt a b ≡ false
    not_past a b le = grind (arith, nat_tests)

products_short : (cs ks : List ℕ) → length (products cs ks) ≤ length ks
products_short [] ks = omega arith
products_short (c ∷ cs) [] = omega arith
products_short (c ∷ cs) (k ∷ ks) = let less = products_short cs ks in omega (arith, less)

counts_all : (stages : AgentRows) → length (stage_counts stages) ≡ length stages
counts_all [] = refl
counts_all (rows ∷ stages) = ap suc (counts_all stages)

row_some : (b n : ℕ) (stages : AgentRows) (t : ℕ) → AreStages b n stages → t < length stages
    → 0 < row_count stages t
row_some b n [] t are lt = absurd (omega (arith, lt))
row_some b n (rows ∷ stages) zero are lt = are.0
row_some b n (rows ∷ stages) (suc t) are lt = row_some b n stages t are.2 (omega (arith, lt))

times_some : (a b : ℕ) → 0 < a → 0 < b → 0 < a * b
times_some a b p q = let less = mul-le-mul_left a q in omega (arith, less, p)

rows_some : {h : ℕ} {bs ns : List ℕ} {p : SharedPolicy} → AreRowsOfAgents h bs ns p → (t : ℕ) → t < h
    → 0 < product (row_counts p t)
rows_some no_agents t lt = omega arith
rows_some {h} (and_agent {b = b} {n = n} {bs = bs} {ns = ns} {stages = stages} {p = p} one others) t lt =
    let size = one.of_horizon in
    let all = times_some (row_count stages t) (product (row_counts p t))
    (row_some b n stages t one.rows (omega (arith, size, lt))) (rows_some others t lt) in
    omega (arith, all)

-- the joint rows of the agents from one on are within the limit, where others make these cells
abbrev pub AreWithin : ℕ → List ℕ → SharedPolicy → Type 0
AreWithin h cells p = (t : ℕ) → t < h → get_or cells t 0 * product (row_counts p t) ≤ 2 ^ 22

turned : (c r k : ℕ) → c * k * r ≡ c * (r * k)
turned c r k = omega arith

cells_at : (cells : List ℕ) (stages : AgentRows) (t : ℕ)
    → get_or (products cells (stage_counts stages)) t 0 ≡ get_or cells t 0 * row_count stages t
cells_at cells stages t = product_at cells (stage_counts stages) t
    ∙ ap (λ k. get_or cells t 0 * k) (count_at stages t)

within_others : (h : ℕ) (cells : List ℕ) (stages : AgentRows) (p : SharedPolicy) → AreWithin h cells (stages ∷ p)
    → AreWithin h (products cells (stage_counts stages)) p
within_others h cells stages p within t lt =
    let all = within t lt in
    let e : get_or (products cells (stage_counts stages)) t 0 * product (row_counts p t)
    ≡ get_or cells t 0 * (product (row_counts p t) * row_count stages t) =
    ap (λ k. k * product (row_counts p t)) (cells_at cells stages t)
    ∙ turned (get_or cells t 0) (product (row_counts p t)) (row_count stages t) in
    omega (arith, all, e)

pass_none : {h : ℕ} {bs ns : List ℕ} {p : SharedPolicy} → AreRowsOfAgents h bs ns p → (cells : List ℕ)
    (stages : AgentRows) → length stages ≡ h → AreWithin h cells (stages ∷ p)
    → cells_passed (products cells (stage_counts stages)) ≡ None
unfolding cells_passed
pass_none {h} {p = p} others cells stages size within =
    let xs = products cells (stage_counts stages) in
    let none : first_past (2 ^ 22) xs ≡ None = none_past (2 ^ 22) xs (λ t lt.
    let short = products_short cells (stage_counts stages) in
    let all = counts_all stages in
    let inside : t < h = omega (arith, lt, short, all, size) in
    let whole = within_others h cells stages p within t inside in
    let more = mul-le-mul_left (get_or xs t 0) (rows_some others t inside) in
    omega (arith, whole, more)) in
    rw none refl

-- ---- the agents

counts_read : (agent : ℕ) (cells : List ℕ) (stages : AgentRows) (rest : List Line)
    → Allows (counts_form (length stages)) (map pos (stage_counts stages))
    → cells_passed (products cells (stage_counts stages)) ≡ None
    → Reads (counts_grammar (length stages) agent cells)
    (fixed_line (agent_form agent) ∷ counts_line stages ∷ rest) (stage_counts stages) rest
counts_read agent cells stages rest a kept =
    let zs = map pos (stage_counts stages) in
    let back = numbers_back (stage_counts stages) in (
      0,
      agent_form agent,
      [],
      counts_line stages ∷ rest,
      refl,
      tt,
      refl,
      (
        0,
        counts_form (length stages),
        zs,
        rest,
        refl,
        a,
        refl,
        reads_bind (unless_passed (cells_passed (products cells (map unsigned_abs zs))))
            (λ kept. ends (map unsigned_abs zs)) rest rest rest tt (stage_counts stages)
            (reads_unless (cells_passed (products cells (map unsigned_abs zs))) rest
            (ap (λ l. cells_passed (products cells l)) back ∙ kept)) (back, refl),
      ),
    )

pub shared_reads : {h : ℕ} {bs ns : List ℕ} {p : SharedPolicy} → AreRowsOfAgents h bs ns p → (agent : ℕ)
    (cells : List ℕ) (rest : List Line) → AreWithin h cells p
    → AllAllowed (agent_lines agent (shared_policy_rows bs ns p))
    → Reads (shared_agents h agent cells bs ns) (agent_lines agent (shared_policy_rows bs ns p) ++ rest) p rest
shared_reads no_agents agent cells rest within a = (refl, refl)
shared_reads {h} (and_agent {b = b} {n = n} {bs = bs} {ns = ns} {stages = stages} {p = p} one are) agent cells rest
    within a =
    let others = agent_lines (agent + 1) (shared_policy_rows bs ns p) in
    let lines = stage_lines b n stages in
    let parts = AllAllowed-parts lines others a.1.1 in
    let kept = pass_none are cells stages one.of_horizon within in
    let after = products cells (stage_counts stages) in
    let counts = subst (λ k. Reads (counts_grammar k agent cells)
    (fixed_line (agent_form agent) ∷ counts_line stages ∷ (lines ++ (others ++ rest))) (stage_counts stages)
    (lines ++ (others ++ rest))) one.of_horizon
    (counts_read agent cells stages (lines ++ (others ++ rest)) a.1.0 kept) in
    subst (λ (l : List Line). Reads (shared_agents h agent cells (b ∷ bs) (n ∷ ns))
    (fixed_line (agent_form agent) ∷ counts_line stages ∷ l) (stages ∷ p) rest) (sym (append_assoc lines others rest))
    (reads_bind (counts_grammar h agent cells) (λ counts. and_then (shared_stages b n counts)
    (shared_agents h (agent + 1) (products cells counts) bs ns)) _ (lines ++ (others ++ rest)) rest
    (stage_counts stages) (stages ∷ p) counts
    (reads_and (shared_stages b n (stage_counts stages)) (shared_agents h (agent + 1) after bs ns) _ (others ++ rest)
    rest stages p (stages_read b n stages (others ++ rest) parts.0)
    (shared_reads are (agent + 1) after rest (within_others h cells stages p within) parts.1)))
