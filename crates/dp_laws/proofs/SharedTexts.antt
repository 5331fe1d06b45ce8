-- One spelling of shared policies: the lines of their rows determine them.
use Rattle.std.proofs.Common.{◌≡◌, ℕ, zero, suc, ◌+◌, ◌-◌, ◌*◌, ◌^◌, ◌<◌, ◌≤◌, List, [], ◌∷◌, ◌++◌, length, get_or}
use Rattle.std.proofs.Common.{refl, sym, ap, subst, ◌∙◌, append_assoc, arith}
use Rattle.std.specs.Prelude.{pos, unsigned_abs, map, replicate}
use Rattle.std.proofs.Math.Nat.{le-mul_of_pos_right}
use Rattle.std.proofs.lemmas.Bool.Decides.{nat_tests}
use Rattle.std.proofs.lemmas.List.{get_or-replicate, length-replicate}
use Rattle.std.specs.Prelude.{nat_lt, false, None}
use Rattle.dp_spec.specs.JointNumbers.{product}
use Rattle.dp_spec.specs.Model.{IsModel, Model}
use Rattle.dp_spec.specs.SharedPolicy.{AgentRows, AreAgentRows, AreRowsOfAgents, AreStages, IsRow, IsSharedOf}
use Rattle.dp_spec.specs.SharedPolicy.{PolicyRow, SharedPolicy, first_count, next_count, no_row, row_count}
use Rattle.dp_spec.specs.SharedPolicy.{row_counts}
use Rattle.dp_spec.specs.SharedPolicy.AreRowsOfAgents.{and_agent, no_agents}
use Rattle.dp_spec.specs.SharedRows.{counts_form, first_past, products, row_cells, shared_policy_rows}
use Rattle.dp_spec.specs.SharedRows.{shared_row_form, shared_row_line, stage_counts, stage_lines}
use Rattle.dp_spec.specs.TextLines.{Line, plain, Allows}
use Rattle.dp_spec.specs.PolicyText.{agent_lines}
use Rattle.dp_spec.proofs.ModelLaws.{some_state}
use Rattle.dp_laws.proofs.LineTexts.{AreLines, HasItems, bytes_of, decimal_item, first_of_list, line_text_injective}
use Rattle.dp_laws.proofs.LineTexts.{rest_of_list}
use Rattle.dp_laws.proofs.PlainForms.{same_row}
use Rattle.dp_laws.proofs.SmallBranches.{number_within}
use Rattle.dp_laws.proofs.PolicyTexts.{AreSmall, map-unsigned_abs-pos, replicate_items}
use Rattle.dp_laws.proofs.WholeTexts.{AreLines-append, actions_small}

-- ---- counts

-- every stage has a row
pub some_row : (b n : ℕ) (stages : AgentRows) → AreStages b n stages → (t : ℕ) → t < length stages
    → 0 < row_count stages t
some_row b n [] are t lt = absurd (omega arith)
some_row b n (rows ∷ stages) are zero lt = are.0
some_row b n (rows ∷ stages) are (suc t) lt = some_row b n stages are.2 t (omega arith)

-- so there is a joint row
pub some_joint_row : {h : ℕ} {bs ns : List ℕ} {p : SharedPolicy} → AreRowsOfAgents h bs ns p → (t : ℕ) → t < h
    → 0 < product (row_counts p t)
some_joint_row no_agents t lt = omega arith
some_joint_row (and_agent {b = b} {n = n} {stages = stages} {p = p} are ares) t lt =
    let inside = are.of_horizon in
    let here = some_row b n stages are.rows t (omega arith) in
    let there = some_joint_row ares t lt in
    omega (arith, le-mul_of_pos_right (row_count stages t) there)

-- no agent has more rows than there are joint rows, nor have the others
count_within : (c k : ℕ) → 0 < c → 0 < k → (c ≤ c * k) × (k ≤ c * k)
count_within c k some there = let first = le-mul_of_pos_right c there in
    let second = le-mul_of_pos_right k some in
    (omega arith, omega arith)

-- ---- lines

-- numbers within a range are allowed
numbers_allowed : (low high k : ℕ) (xs : List ℕ) → high < 2 ^ 32 → length xs ≡ k
    → ((i : ℕ) → i < k → (low ≤ get_or xs i 0) × (get_or xs i 0 ≤ high))
    → Allows (replicate k (plain low high)) (map pos xs)
numbers_allowed low high zero [] small e each = tt
numbers_allowed low high zero (x ∷ xs) small e each = absurd (omega arith)
numbers_allowed low high (suc k) [] small e each = absurd (omega arith)
numbers_allowed low high (suc k) (x ∷ xs) small e each =
    let here = each 0 (omega arith) in (
      omega arith,
      here.0,
      here.1,
      numbers_allowed low high k xs small (omega arith)
          (λ i lt. each (suc i) (omega arith)),
    )

-- the counts of stages, by their places
count_at : (stages : AgentRows) (t : ℕ) → get_or (stage_counts stages) t 0 ≡ row_count stages t
count_at [] t = refl
count_at (rows ∷ stages) zero = refl
count_at (rows ∷ stages) (suc t) = count_at stages t

counts_length : (stages : AgentRows) → length (stage_counts stages) ≡ length stages
counts_length [] = refl
counts_length (rows ∷ stages) = ap suc (counts_length stages)

-- the line of the counts has the numbers that its form allows
counts_allowed : (b n h : ℕ) (stages : AgentRows) → AreAgentRows b n h stages
    → ((t : ℕ) → t < h → row_count stages t ≤ 2 ^ 22) → Allows (counts_form (length stages))
    (map pos (stage_counts stages))
counts_allowed b n h [] are few = tt
counts_allowed b n h (rows ∷ stages) are few =
    let one : length rows ≡ 1 = are.one_first in
    let all = are.of_horizon in (
      omega arith,
      omega arith,
      omega arith,
      numbers_allowed 1 (2 ^ 22) (length stages) (stage_counts stages) (omega arith) (counts_length stages)
          (λ t lt.
          let here = count_at stages t in
          let some = some_row b n stages are.rows.2 t lt in
          let most = few (suc t) (omega arith) in
          (omega arith, omega arith)),
    )

counts_items : (h : ℕ) → HasItems (counts_form h)
counts_items zero = assumption
counts_items (suc h) = (assumption, replicate_items h 1 (2 ^ 22))

-- the line of a row
row_allowed : (b nexts count : ℕ) (row : PolicyRow) → b ≤ 2 ^ 32 → count ≤ 2 ^ 22 → IsRow b nexts count row
    → Allows (shared_row_form b nexts count) (pos row.action ∷ map pos row.next)
row_allowed b nexts count row small few is =
    let act = is.action in (
      omega arith,
      omega arith,
      omega arith,
      numbers_allowed 0 (count - 1) nexts row.next (omega arith) is.one_each
          (λ o lt. let below = is.below o lt in (omega arith, omega arith)),
    )

row_items : (b nexts count : ℕ) → HasItems (shared_row_form b nexts count)
row_items b nexts count = replicate_items nexts 0 (count - 1)

-- the rows of a stage are lines
rows_are_lines : (b nexts count : ℕ) (rows : List PolicyRow) → b ≤ 2 ^ 32 → count ≤ 2 ^ 22
    → ((r : ℕ) → r < length rows → IsRow b nexts count (get_or rows r no_row))
    → AreLines (map (shared_row_line b nexts count) rows)
rows_are_lines b nexts count [] small few each = tt
rows_are_lines b nexts count (row ∷ rows) small few each = (
  (row_items b nexts count, row_allowed b nexts count row small few (each 0 (omega arith))),
  rows_are_lines b nexts count rows small few (λ r lt. each (suc r) (omega arith)),
)

-- the stages of an agent are lines
first_few : (stages : AgentRows) → ((t : ℕ) → t < length stages → row_count stages t ≤ 2 ^ 22)
    → first_count stages ≤ 2 ^ 22
first_few [] few = omega arith
first_few (rows ∷ stages) few = few 0 (omega arith)

stages_are_lines : (b n : ℕ) (stages : AgentRows) → b ≤ 2 ^ 32 → AreStages b n stages
    → ((t : ℕ) → t < length stages → row_count stages t ≤ 2 ^ 22) → AreLines (stage_lines b n stages)
stages_are_lines b n [] small are few = tt
stages_are_lines b n (rows ∷ stages) small are few =
    let later = λ (t : ℕ) (lt : t < length stages). few (suc t) (omega arith) in
    AreLines-append (map (shared_row_line b (next_count n stages) (first_count stages)) rows)
    (stage_lines b n stages)
    (rows_are_lines b (next_count n stages) (first_count stages) rows small (first_few stages later) are.1)
    (stages_are_lines b n stages small are.2 later)

-- the lines of the agents from one on are lines
pub shared_agents_are_lines : {h : ℕ} {bs ns : List ℕ} {p : SharedPolicy} → AreSmall bs
    → AreRowsOfAgents h bs ns p
    → ((t : ℕ) → t < h → product (row_counts p t) ≤ 2 ^ 22) → (agent : ℕ) → agent + length bs < 10 ^ 64
    → AreLines (agent_lines agent (shared_policy_rows bs ns p))
shared_agents_are_lines small no_agents few agent fits = tt
shared_agents_are_lines {h} small (and_agent {b = b} {n = n} {bs = bs} {ns = ns} {stages = stages} {p = p} are
    ares) few agent fits =
    let all = are.of_horizon in
    let bounds : (t : ℕ) → t < h → (row_count stages t ≤ 2 ^ 22) × (product (row_counts p t) ≤ 2 ^ 22) = λ t lt.
    let within = count_within (row_count stages t) (product (row_counts p t))
    (some_row b n stages are.rows t (omega arith)) (some_joint_row ares t lt) in
    let most = few t lt in (omega arith, omega arith) in (
      ((assumption, (decimal_item agent (omega arith), tt)), tt),
      (
        (counts_items (length stages), counts_allowed b n h stages are (λ t lt. (bounds t lt).0)),
        AreLines-append (stage_lines b n stages) (agent_lines (agent + 1) (shared_policy_rows bs ns p))
            (stages_are_lines b n stages small.0 are.rows (λ t lt. (bounds t (omega arith)).0))
            (shared_agents_are_lines small.1 ares (λ t lt. (bounds t lt).1) (agent + 1) (omega arith)),
      ),
    )

-- ---- what the lines determine

-- rows of one form
rows_injective : (b nexts count : ℕ) → b ≤ 2 ^ 32 → count ≤ 2 ^ 22 → (rows others : List PolicyRow)
    → length rows ≡ length others
    → ((r : ℕ) → r < length rows → IsRow b nexts count (get_or rows r no_row))
    → ((r : ℕ) → r < length others → IsRow b nexts count (get_or others r no_row))
    → (more lines : List Line)
    → map bytes_of (map (shared_row_line b nexts count) rows ++ more)
    ≡ map bytes_of (map (shared_row_line b nexts count) others ++ lines)
    → (rows ≡ others) × (map bytes_of more ≡ map bytes_of lines)
unfolding bytes_of
rows_injective b nexts count small few [] [] alike is are more lines e = (refl, e)
rows_injective b nexts count small few [] (other ∷ others) alike is are more lines e = absurd (omega arith)
rows_injective b nexts count small few (row ∷ rows) [] alike is are more lines e = absurd (omega arith)
rows_injective b nexts count small few (row ∷ rows) (other ∷ others) alike is are more lines e =
    let numbers = line_text_injective (shared_row_form b nexts count) (pos row.action ∷ map pos row.next)
    (pos other.action ∷ map pos other.next) (row_items b nexts count)
    (row_allowed b nexts count row small few (is 0 (omega arith)))
    (row_allowed b nexts count other small few (are 0 (omega arith))) (first_of_list _ _ _ _ e) in
    let action : row.action ≡ other.action = ap unsigned_abs (first_of_list _ _ _ _ numbers) in
    let next : row.next ≡ other.next = sym (map-unsigned_abs-pos row.next)
    ∙ ap (map unsigned_abs) (rest_of_list _ _ _ _ numbers) ∙ map-unsigned_abs-pos other.next in
    let here = same_row row other action next in
    let further = rows_injective b nexts count small few rows others (omega arith)
    (λ r lt. is (suc r) (omega arith)) (λ r lt. are (suc r) (omega arith)) more lines
    (rest_of_list _ _ _ _ e) in
    (ap (λ (x : PolicyRow). x ∷ rows) here ∙ ap (λ (xs : List PolicyRow). other ∷ xs) further.0, further.1)

-- equal counts of stages
first_counts_equal : (stages others : AgentRows) → stage_counts stages ≡ stage_counts others
    → first_count stages ≡ first_count others
first_counts_equal [] [] e = refl
first_counts_equal [] (rows ∷ others) e = absurd (let none : 0
    ≡ suc (length (stage_counts others)) = ap (λ (xs : List ℕ). length xs) e in omega arith)
first_counts_equal (rows ∷ stages) [] e = absurd (let none : suc (length (stage_counts stages))
    ≡ 0 = ap (λ (xs : List ℕ). length xs) e in omega arith)
first_counts_equal (rows ∷ stages) (rows' ∷ others) e = first_of_list _ _ _ _ e

next_counts_equal : (n : ℕ) (stages others : AgentRows) → stage_counts stages ≡ stage_counts others
    → next_count n stages ≡ next_count n others
next_counts_equal n [] [] e = refl
next_counts_equal n [] (rows ∷ others) e = absurd (let none : 0
    ≡ suc (length (stage_counts others)) = ap (λ (xs : List ℕ). length xs) e in omega arith)
next_counts_equal n (rows ∷ stages) [] e = absurd (let none : suc (length (stage_counts stages))
    ≡ 0 = ap (λ (xs : List ℕ). length xs) e in omega arith)
next_counts_equal n (rows ∷ stages) (rows' ∷ others) e = refl

-- stages with equal counts
stages_injective : (b n : ℕ) → b ≤ 2 ^ 32 → (stages others : AgentRows) → AreStages b n stages
    → AreStages b n others
    → ((t : ℕ) → t < length stages → row_count stages t ≤ 2 ^ 22)
    → stage_counts stages ≡ stage_counts others → (more lines : List Line)
    → map bytes_of (stage_lines b n stages ++ more) ≡ map bytes_of (stage_lines b n others ++ lines)
    → (stages ≡ others) × (map bytes_of more ≡ map bytes_of lines)
stages_injective b n small [] [] are ares few counts more lines e = (refl, e)
stages_injective b n small [] (rows ∷ others) are ares few counts more lines e = absurd
    (let none : 0 ≡ suc (length (stage_counts others)) = ap (λ (xs : List ℕ). length xs) counts in omega arith)
stages_injective b n small (rows ∷ stages) [] are ares few counts more lines e = absurd
    (let none : suc (length (stage_counts stages)) ≡ 0 = ap (λ (xs : List ℕ). length xs) counts in omega arith)
stages_injective b n small (rows ∷ stages) (rows' ∷ others) are ares few counts more lines e =
    let later = λ (t : ℕ) (lt : t < length stages). few (suc t) (omega arith) in
    let rest : stage_counts stages ≡ stage_counts others = rest_of_list _ _ _ _ counts in
    let nexts = next_counts_equal n stages others rest in
    let first = first_counts_equal stages others rest in
    let k = next_count n stages in
    let c = first_count stages in
    let theirs : (r : ℕ) → r < length rows' → IsRow b k c (get_or rows' r no_row) = λ r lt.
    subst (λ (x : ℕ). IsRow b x c (get_or rows' r no_row)) (sym nexts)
    (subst (λ (x : ℕ). IsRow b (next_count n others) x (get_or rows' r no_row)) (sym first) (ares.1 r lt)) in
    let same_form : map (shared_row_line b (next_count n others) (first_count others)) rows'
    ≡ map (shared_row_line b k c) rows' =
    ap (λ (x : ℕ). map (shared_row_line b x (first_count others)) rows') (sym nexts)
    ∙ ap (λ (x : ℕ). map (shared_row_line b k x) rows') (sym first) in
    let grouped : map bytes_of (map (shared_row_line b k c) rows ++ (stage_lines b n stages ++ more))
    ≡ map bytes_of (map (shared_row_line b k c) rows' ++ (stage_lines b n others ++ lines)) =
    ap (map bytes_of) (sym (append_assoc (map (shared_row_line b k c) rows) (stage_lines b n stages) more)) ∙ e
    ∙ ap (map bytes_of) (append_assoc (map (shared_row_line b (next_count n others) (first_count others)) rows')
    (stage_lines b n others) lines)
    ∙ ap (λ (x : List Line). map bytes_of (x ++ (stage_lines b n others ++ lines))) same_form in
    let here = rows_injective b k c small (first_few stages later) rows rows' (first_of_list _ _ _ _ counts)
    are.1 theirs (stage_lines b n stages ++ more) (stage_lines b n others ++ lines) grouped in
    let further = stages_injective b n small stages others are.2 ares.2 later rest more lines here.1 in
    (ap (λ (x : List PolicyRow). x ∷ stages) here.0 ∙ ap (λ (xs : AgentRows). rows' ∷ xs) further.0, further.1)

-- the agents' lines
pub shared_agents_injective : {h : ℕ} {bs ns : List ℕ} {p q : SharedPolicy} → AreSmall bs
    → AreRowsOfAgents h bs ns p
    → AreRowsOfAgents h bs ns q → ((t : ℕ) → t < h → product (row_counts p t) ≤ 2 ^ 22)
    → ((t : ℕ) → t < h → product (row_counts q t) ≤ 2 ^ 22) → (agent : ℕ) (more lines : List Line)
    → map bytes_of (agent_lines agent (shared_policy_rows bs ns p) ++ more)
    ≡ map bytes_of (agent_lines agent (shared_policy_rows bs ns q) ++ lines)
    → (p ≡ q) × (map bytes_of more ≡ map bytes_of lines)
unfolding bytes_of
shared_agents_injective small no_agents no_agents few fewer agent more lines e = (refl, e)
shared_agents_injective {h} small (and_agent {b = b} {n = n} {bs = bs} {ns = ns} {stages = stages} {p = p} are
    ares) (and_agent {stages = others} {p = q} is iss) few fewer agent more lines e =
    let mine = agent_lines (agent + 1) (shared_policy_rows bs ns p) in
    let yours = agent_lines (agent + 1) (shared_policy_rows bs ns q) in
    let bounds : (t : ℕ) → t < h → (row_count stages t ≤ 2 ^ 22) × (product (row_counts p t) ≤ 2 ^ 22) = λ t lt.
    let in_all = are.of_horizon in
    let within = count_within (row_count stages t) (product (row_counts p t))
    (some_row b n stages are.rows t (omega arith)) (some_joint_row ares t lt) in
    let most = few t lt in (omega arith, omega arith) in
    let limits : (t : ℕ) → t < h → (row_count others t ≤ 2 ^ 22) × (product (row_counts q t) ≤ 2 ^ 22) = λ t lt.
    let in_all = is.of_horizon in
    let within = count_within (row_count others t) (product (row_counts q t))
    (some_row b n others is.rows t (omega arith)) (some_joint_row iss t lt) in
    let most = fewer t lt in (omega arith, omega arith) in
    let all = are.of_horizon in
    let alike : length stages ≡ length others = are.of_horizon ∙ sym is.of_horizon in
    let tails = rest_of_list _ _ _ _ e in
    let behind = rest_of_list _ _ _ _ tails in
    let mine_allowed = counts_allowed b n h stages are (λ t lt. (bounds t lt).0) in
    let yours_allowed = subst (λ (k : ℕ). Allows (counts_form k) (map pos (stage_counts others))) (sym alike)
    (counts_allowed b n h others is (λ t lt. (limits t lt).0)) in
    let counts_equal = line_text_injective (counts_form (length stages)) (map pos (stage_counts stages))
    (map pos (stage_counts others)) (counts_items (length stages)) mine_allowed yours_allowed
    (first_of_list _ _ _ _ tails ∙ ap (λ (k : ℕ). bytes_of (record
    { form = counts_form k; numbers = map pos (stage_counts others) })) (sym alike)) in
    let counts : stage_counts stages ≡ stage_counts others = sym (map-unsigned_abs-pos (stage_counts stages))
    ∙ ap (map unsigned_abs) counts_equal ∙ map-unsigned_abs-pos (stage_counts others) in
    let grouped : map bytes_of (stage_lines b n stages ++ (mine ++ more))
    ≡ map bytes_of (stage_lines b n others ++ (yours ++ lines)) =
    ap (map bytes_of) (sym (append_assoc (stage_lines b n stages) mine more)) ∙ behind
    ∙ ap (map bytes_of) (append_assoc (stage_lines b n others) yours lines) in
    let here = stages_injective b n small.0 stages others are.rows is.rows (λ t lt. (bounds t (omega arith)).0)
    counts (mine ++ more) (yours ++ lines) grouped in
    let further = shared_agents_injective small.1 ares iss (λ t lt. (bounds t lt).1) (λ t lt. (limits t lt).1)
    (agent + 1) more lines here.1 in
    (ap (λ (x : AgentRows). x ∷ p) here.0 ∙ ap (λ (xs : SharedPolicy). others ∷ xs) further.0, further.1)

-- ---- of a model

-- a shared policy of a model has at most 2^22 joint rows at each stage
pub few_joint_rows : (m : Model) → IsModel m → (h : ℕ) (p : SharedPolicy) → IsSharedOf m h p → (t : ℕ) → t < h
    → product (row_counts p t) ≤ 2 ^ 22
few_joint_rows m is h p shared t lt =
    let cells = shared.cells t lt in
    let more = le-mul_of_pos_right (product (row_counts p t)) (some_state m is) in omega arith

-- so has each agent
pub few_rows : (m : Model) → IsModel m → (h : ℕ) (p : SharedPolicy) → IsSharedOf m h p → (t : ℕ) → t < h →
    (0 < product (row_counts p t)) × (product (row_counts p t) ≤ 2 ^ 22)
    × ((i : ℕ) → get_or (row_counts p t) i 0 ≤ 2 ^ 22)
few_rows m is h p shared t lt =
    let some = some_joint_row shared.agents t lt in
    let few = few_joint_rows m is h p shared t lt in
    (some, few, λ i. let one = number_within (row_counts p t) i some in omega arith)

-- the lines of its rows are lines
pub shared_are_lines : (m : Model) → IsModel m → (h : ℕ) (p : SharedPolicy) → IsSharedOf m h p
    → AreLines (agent_lines 0 (shared_policy_rows m.actions m.observations p))
shared_are_lines m is h p shared =
    let agents = is.sizes.agents_limit in
    shared_agents_are_lines (actions_small m is) shared.agents (few_joint_rows m is h p shared) 0 (omega arith)

-- where the horizons are equal, they determine the shared policy, and what follows them
pub shared_lines_injective : (m : Model) → IsModel m → (h k : ℕ) (p q : SharedPolicy) → h ≡ k → IsSharedOf m h p
    → IsSharedOf m k q → (more lines : List Line)
    → map bytes_of (agent_lines 0 (shared_policy_rows m.actions m.observations p) ++ more)
    ≡ map bytes_of (agent_lines 0 (shared_policy_rows m.actions m.observations q) ++ lines)
    → (p ≡ q) × (map bytes_of more ≡ map bytes_of lines)
shared_lines_injective m is h k p q same mine yours more lines e =
    let theirs = subst (λ (x : ℕ). IsSharedOf m x q) (sym same) yours in
    shared_agents_injective (actions_small m is) mine.agents theirs.agents (few_joint_rows m is h p mine)
    (few_joint_rows m is h q theirs) 0 more lines e

-- ---- the limit on joint rows

-- a product at a place
products_at : (cs ks : List ℕ) (t : ℕ) → t < length cs → t < length ks
    → get_or (products cs ks) t 0 ≡ get_or cs t 0 * get_or ks t 0
products_at [] ks t p q = absurd (omega arith)
products_at (c ∷ cs) [] t p q = absurd (omega arith)
products_at (c ∷ cs) (k ∷ ks) zero p q = refl
products_at (c ∷ cs) (k ∷ ks) (suc t) p q = products_at cs ks t (omega arith) (omega arith)

products_length : (cs ks : List ℕ) → length cs ≡ length ks → length (products cs ks) ≡ length cs
products_length [] ks e = refl
products_length (c ∷ cs) [] e = absurd (omega arith)
products_length (c ∷ cs) (k ∷ ks) e = ap suc (products_length cs ks (omega arith))

-- the cells of all stages
cells_length : {h : ℕ} {bs ns : List ℕ} {p : SharedPolicy} (states : ℕ) → AreRowsOfAgents h bs ns p
    → length (row_cells states h (map (λ (stages : AgentRows). stage_counts stages) p)) ≡ h
cells_length {h} states no_agents = length-replicate h states
cells_length states (and_agent {stages = stages} {p = p} are ares) =
    let rest = cells_length states ares in
    products_length _ (stage_counts stages) (rest ∙ sym (counts_length stages ∙ are.of_horizon)) ∙ rest

cells_are : {h : ℕ} {bs ns : List ℕ} {p : SharedPolicy} (states : ℕ) → AreRowsOfAgents h bs ns p → (t : ℕ)
    → t < h
    → get_or (row_cells states h (map (λ (stages : AgentRows). stage_counts stages) p)) t 0
    ≡ states * product (row_counts p t)
cells_are {h} states no_agents t lt = get_or-replicate h t states 0 lt ∙ omega arith
cells_are states (and_agent {stages = stages} {p = p} are ares) t lt =
    let size = cells_length states ares in
    let counts = counts_length stages in
    let all = are.of_horizon in
    products_at _ (stage_counts stages) t (omega arith) (omega arith)
    ∙ ap (λ (x : ℕ). x * get_or (stage_counts stages) t 0) (cells_are states ares t lt)
    ∙ ap (λ (x : ℕ). states * product (row_counts p t) * x) (count_at stages t)
    ∙ omega arith

-- none of a list is past a limit where each is within it
none_past : (limit : ℕ) (xs : List ℕ) → ((t : ℕ) → t < length xs → get_or xs t 0 ≤ limit)
    → first_past limit xs ≡ None
none_past limit [] each = refl
none_past limit (x ∷ xs) each =
    let within : nat_lt limit x ≡ false = not_past limit x (each 0 (omega arith)) in
    rw within (none_past limit xs (λ t lt. each (suc t) (omega arith)))
  where
    not_past : (a b : ℕ) → b ≤ a → nat_lt a b ≡ false
    not_past a b le = grind (arith, nat_tests)

-- the joint rows of a shared policy pass no limit
pub shared_cells_pass_none : (m : Model) (h : ℕ) (p : SharedPolicy) → IsSharedOf m h p
    → first_past (2 ^ 22) (row_cells m.states h (map (λ (stages : AgentRows). stage_counts stages) p)) ≡ None
shared_cells_pass_none m h p shared =
    let xs = row_cells m.states h (map (λ (stages : AgentRows). stage_counts stages) p) in
    let size : length xs ≡ h = cells_length m.states shared.agents in
    none_past (2 ^ 22) xs (λ t lt.
    let inside : t < h = omega arith in
    let e = cells_are m.states shared.agents t inside in let cells = shared.cells t inside in omega arith)
