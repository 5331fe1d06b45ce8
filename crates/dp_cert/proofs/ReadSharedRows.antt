-- Rows that own histories share, as they were read: they are rows of a policy, and their lines.
use Rattle.std.proofs.Common.{◌≡◌, ℕ, zero, suc, ◌+◌, ◌*◌, ◌-◌, ◌^◌, ◌<◌, ◌≤◌, List, [], ◌∷◌, ◌++◌, length, get_or}
use Rattle.std.proofs.Common.{map, Ok, refl, sym, ap, subst, ◌∙◌, arith}
use Rattle.std.specs.Prelude.{ℤ, pos, negsuc, replicate, unsigned_abs, Option, Some, None}
use Rattle.std.specs.List.{AllByRecursion}
use Rattle.dp_spec.specs.JointNumbers.{product}
use Rattle.dp_spec.specs.PolicyText.{agent_form, agent_lines}
use Rattle.dp_spec.specs.SharedPolicy.{AgentRows, AreRowsOfAgents, AreStages, IsRow, PolicyRow, SharedPolicy}
use Rattle.dp_spec.specs.SharedPolicy.{first_count, next_count, no_row, row_count, row_counts}
use Rattle.dp_spec.specs.SharedPolicy.AreRowsOfAgents.{and_agent, no_agents}
use Rattle.dp_spec.specs.SharedRows.{counts_form, counts_line, products, shared_policy_rows, shared_row_form}
use Rattle.dp_spec.specs.SharedRows.{shared_row_line, stage_counts, stage_lines}
use Rattle.dp_spec.specs.TextLines.{Allows, Line, fixed_line, plain}
use Rattle.dp_model.specs.declared.limit.TooLarge.{TooLarge}
use Rattle.dp_lines.specs.Grammar.{ends, ◌>>=◌}
use Rattle.dp_lines.specs.Scanning.{Rest, front_of}
use Rattle.dp_lines.proofs.SpelledLines.{HasItems}
use Rattle.dp_policy.proofs.ReadBytes.{IsLine, line_is, same_rest, split}
use Rattle.dp_policy.specs.PolicyGrammar.{agent_words}
use Rattle.dp_cert.specs.PolicyGrammar.{cells_passed, counts_grammar, first_of_counts, nexts_before, row_line, row_of}
use Rattle.dp_cert.specs.PolicyGrammar.{rows_of_form, shared_agents, shared_stages, Text}
use Rattle.dp_lines.specs.Reading.{rest_at}
use Rattle.dp_lines.specs.Steps.{and_then, the_numbers, the_words, unless_passed}
use Rattle.dp_policy.proofs.AgentParts.{agent_words_are}
use Rattle.dp_cert.proofs.CertificateAnswers.{counts_items}
use Rattle.dp_lines.proofs.ProperTexts.{replicate_items}
use Rattle.dp_cert.proofs.ReadLines.{AreLines, line_then, lines_then, no_lines, words_read}
use Rattle.dp_cert.proofs.RowParts.{kept_cells}

-- ---- numbers

-- so many plain numbers in a range
pub record AreNumbers (k low high : ℕ) (zs : List ℤ) : Type 0 where
  pub all : length (map unsigned_abs zs) ≡ k
  pub least : AllByRecursion (λ (x : ℕ). low ≤ x) (map unsigned_abs zs)
  pub most : (o : ℕ) → o < k → get_or (map unsigned_abs zs) o 0 ≤ high
  pub back : map pos (map unsigned_abs zs) ≡ zs

pub numbers_in : (k low high : ℕ) (zs : List ℤ) → Allows (replicate k (plain low high)) zs
    → AreNumbers k low high zs
numbers_in zero low high [] a =
    record { all = refl; least = tt; most = λ o lt. absurd (omega arith); back = refl }
numbers_in zero low high (z ∷ zs) a = absurd a
numbers_in (suc k) low high [] a = absurd a
numbers_in (suc k) low high (negsuc n ∷ zs) a = absurd a
numbers_in (suc k) low high (pos n ∷ zs) a =
    let others = numbers_in k low high zs a.3 in
    record {
      all = ap suc others.all;
      least = (a.1, others.least);
      most = most others;
      back = ap (λ (l : List ℤ). pos n ∷ l) others.back;
    }
  where
    most : AreNumbers k low high zs → (o : ℕ) → o < suc k → get_or (n ∷ map unsigned_abs zs) o 0 ≤ high
    most others zero lt = a.2
    most others (suc o) lt = others.most o (omega arith)

-- ---- rows

-- a row, and its line
record IsRead (b nexts count : ℕ) (row : PolicyRow) (bytes more : List ℕ) : Type 0 where
  fits : IsRow b nexts count row
  lines : AreLines (shared_row_line b nexts count row ∷ []) bytes more

row_is : (b nexts count : ℕ) (zs : List ℤ) (bytes more : List ℕ) → 0 < b → (0 < nexts → 0 < count)
    → IsLine (shared_row_form b nexts count) bytes zs more → IsRead b nexts count (row_of zs) bytes more
row_is b nexts count [] bytes more some later is = absurd is.allowed
row_is b nexts count (negsuc n ∷ zs) bytes more some later is = absurd is.allowed
row_is b nexts count (pos n ∷ zs) bytes more some later is =
    let others = numbers_in nexts 0 (count - 1) zs is.allowed.3 in
    let most : n ≤ b - 1 = is.allowed.2 in
    record {
      fits = record {
        action = omega (arith, most, some);
        one_each = others.all;
        below = λ o lt. (let under = others.most o lt in let any = later (omega arith) in
            omega (arith, under, any));
      };
      lines = subst (λ (l : List ℤ). AreLines (record {
        form = shared_row_form b nexts count;
        numbers = pos n ∷ l;
      } ∷ []) bytes more)
          (sym others.back)
          (line_then (shared_row_form b nexts count) (pos n ∷ zs) [] bytes more more is (no_lines more));
    }

row_items : (b nexts count : ℕ) → HasItems (shared_row_form b nexts count)
row_items b nexts count = replicate_items nexts 0 (count - 1)

one_row : (b nexts count line : ℕ) (bytes : List ℕ) (rest : Rest PolicyRow) → 0 < b → (0 < nexts → 0 < count)
    → front_of {L = TooLarge} (row_line (shared_row_form b nexts count)) line bytes ≡ Ok rest
    → IsRead b nexts count rest.value bytes rest.bytes
one_row b nexts count line bytes rest some later e =
    let form = shared_row_form b nexts count in
    let s = split (the_numbers form) (λ zs. ends (row_of zs)) line bytes rest e in
    let is = line_is form line bytes s.mid (row_items b nexts count) s.front in
    let one : Rest PolicyRow = rest_at (row_of s.mid.value) s.mid.line s.mid.bytes in
    subst (λ (r : Rest PolicyRow). IsRead b nexts count r.value bytes r.bytes) (same_rest one rest s.behind)
    (row_is b nexts count s.mid.value bytes s.mid.bytes some later is)

-- the rows of a stage
record AreRead (b nexts count left : ℕ) (rows : List PolicyRow) (bytes more : List ℕ) : Type 0 where
  all : length rows ≡ left
  fit : (r : ℕ) → r < length rows → IsRow b nexts count (get_or rows r no_row)
  lines : AreLines (map (shared_row_line b nexts count) rows) bytes more

rows_read : (b nexts count left line : ℕ) (bytes : List ℕ) (rest : Rest (List PolicyRow)) → 0 < b
    → (0 < nexts → 0 < count)
    → front_of {L = TooLarge} (rows_of_form (shared_row_form b nexts count) left) line bytes ≡ Ok rest
    → AreRead b nexts count left rest.value bytes rest.bytes
rows_read b nexts count zero line bytes rest some later e =
    let one : Rest (List PolicyRow) = rest_at [] line bytes in
    subst (λ (r : Rest (List PolicyRow)). AreRead b nexts count 0 r.value bytes r.bytes) (same_rest one rest e)
    (record { all = refl; fit = λ r lt. absurd (omega arith); lines = no_lines bytes })
rows_read b nexts count (suc left) line bytes rest some later e =
    let form = shared_row_form b nexts count in
    let s = split (row_line form) (λ row. rows_of_form form left >>= λ rows. ends (row ∷ rows))
    line bytes rest e in
    let first = one_row b nexts count line bytes s.mid some later s.front in
    let u = split (rows_of_form form left) (λ rows. ends (s.mid.value ∷ rows))
    s.mid.line s.mid.bytes rest s.behind in
    let others = rows_read b nexts count left s.mid.line s.mid.bytes u.mid some later u.front in
    let one : Rest (List PolicyRow) = rest_at (s.mid.value ∷ u.mid.value) u.mid.line u.mid.bytes in
    subst (λ (r : Rest (List PolicyRow)). AreRead b nexts count (suc left) r.value bytes r.bytes)
    (same_rest one rest u.behind)
    (record {
      all = ap suc others.all;
      fit = by_place s.mid.value u.mid.value first.fits others.fit;
      lines = lines_then (shared_row_line b nexts count s.mid.value ∷ [])
          (map (shared_row_line b nexts count) u.mid.value) bytes s.mid.bytes u.mid.bytes first.lines
          others.lines;
    })
  where
    by_place : (row : PolicyRow) (rows : List PolicyRow) → IsRow b nexts count row
        → ((r : ℕ) → r < length rows → IsRow b nexts count (get_or rows r no_row))
        → (r : ℕ) → r < length (row ∷ rows) → IsRow b nexts count (get_or (row ∷ rows) r no_row)
    by_place row rows first others zero lt = first
    by_place row rows first others (suc r) lt = others r (omega arith)

-- ---- stages

-- the stages of an agent, with so many rows each
record AreStagesRead (b n : ℕ) (counts : List ℕ) (stages : AgentRows) (bytes more : List ℕ) : Type 0 where
  counted : stage_counts stages ≡ counts
  fit : AreStages b n stages
  lines : AreLines (stage_lines b n stages) bytes more

nexts_same : (n : ℕ) (stages : AgentRows) → nexts_before n (stage_counts stages) ≡ next_count n stages
nexts_same n [] = refl
nexts_same n (rows ∷ stages) = refl

first_same : (stages : AgentRows) → first_of_counts (stage_counts stages) ≡ first_count stages
first_same [] = refl
first_same (rows ∷ stages) = refl

later_some : (n : ℕ) (counts : List ℕ) → AllByRecursion (λ (x : ℕ). 1 ≤ x) counts → 0 < nexts_before n counts
    → 0 < first_of_counts counts
later_some n [] all some = some
later_some n (count ∷ counts) all some = omega (arith, all.0)

stages_read : (b n : ℕ) (counts : List ℕ) (line : ℕ) (bytes : List ℕ) (rest : Rest AgentRows) → 0 < b
    → AllByRecursion (λ (x : ℕ). 1 ≤ x) counts
    → front_of {L = TooLarge} (shared_stages b n counts) line bytes ≡ Ok rest
    → AreStagesRead b n counts rest.value bytes rest.bytes
stages_read b n [] line bytes rest some all e =
    let one : Rest AgentRows = rest_at [] line bytes in
    subst (λ (r : Rest AgentRows). AreStagesRead b n [] r.value bytes r.bytes) (same_rest one rest e)
    (record { counted = refl; fit = tt; lines = no_lines bytes })
stages_read b n (count ∷ counts) line bytes rest some all e =
    let form = shared_row_form b (nexts_before n counts) (first_of_counts counts) in
    let s = split (rows_of_form form count) (λ rows. shared_stages b n counts >>= λ stages. ends
    (rows ∷ stages)) line
    bytes rest e in
    let u = split (shared_stages b n counts) (λ stages. ends (s.mid.value ∷ stages))
    s.mid.line s.mid.bytes rest s.behind in
    let others = stages_read b n counts s.mid.line s.mid.bytes u.mid some all.1 u.front in
    let one : Rest AgentRows = rest_at (s.mid.value ∷ u.mid.value) u.mid.line u.mid.bytes in
    let nexts : nexts_before n counts ≡ next_count n u.mid.value =
    ap (nexts_before n) (sym others.counted) ∙ nexts_same n u.mid.value in
    let firsts : first_of_counts counts ≡ first_count u.mid.value =
    ap first_of_counts (sym others.counted) ∙ first_same u.mid.value in
    let first : AreRead b (next_count n u.mid.value) (first_count u.mid.value)
    count s.mid.value bytes s.mid.bytes =
    subst (λ (k : ℕ). AreRead b k (first_count u.mid.value) count s.mid.value bytes s.mid.bytes) nexts
    (subst (λ (k : ℕ). AreRead b (nexts_before n counts) k count s.mid.value bytes s.mid.bytes) firsts
    (rows_read b (nexts_before n counts) (first_of_counts counts) count line bytes s.mid some
    (later_some n counts all.1) s.front)) in
    subst (λ (r : Rest AgentRows). AreStagesRead b n (count ∷ counts) r.value bytes r.bytes)
    (same_rest one rest u.behind)
    (record {
      counted = (λ i. first.all i ∷ others.counted i);
      fit = ((let k = first.all in omega (arith, k, all.0)), first.fit, others.fit);
      lines = lines_then (map (shared_row_line b (next_count n u.mid.value) (first_count u.mid.value))
          s.mid.value)
          (stage_lines b n u.mid.value) bytes s.mid.bytes u.mid.bytes first.lines others.lines;
    })

-- ---- counts

-- the counts of an agent of h stages, behind others whose joint rows make these cells
record AreCounts (h agent : ℕ) (cells xs bytes more : List ℕ) : Type 0 where
  all : length xs ≡ h
  some : AllByRecursion (λ (x : ℕ). 1 ≤ x) xs
  first : 0 < h → first_of_counts xs ≡ 1
  few : AllByRecursion (λ (k : ℕ). k ≤ 2 ^ 22) (products cells xs)
  lines : AreLines (fixed_line (agent_form agent) ∷ record { form = counts_form h; numbers = map pos xs } ∷ [])
      bytes more

-- the counts as numbers
record AreCountNumbers (h : ℕ) (zs : List ℤ) : Type 0 where
  all : length (map unsigned_abs zs) ≡ h
  some : AllByRecursion (λ (x : ℕ). 1 ≤ x) (map unsigned_abs zs)
  first : 0 < h → first_of_counts (map unsigned_abs zs) ≡ 1
  back : map pos (map unsigned_abs zs) ≡ zs

count_numbers : (h : ℕ) (zs : List ℤ) → Allows (counts_form h) zs → AreCountNumbers h zs
count_numbers zero [] a = record { all = refl; some = tt; first = λ lt. absurd (omega arith); back = refl }
count_numbers zero (z ∷ zs) a = absurd a
count_numbers (suc h) [] a = absurd a
count_numbers (suc h) (negsuc n ∷ zs) a = absurd a
count_numbers (suc h) (pos n ∷ zs) a =
    let others = numbers_in h 1 (2 ^ 22) zs a.3 in
    record {
      all = ap suc others.all;
      some = (a.1, others.least);
      first = λ lt. omega (arith, a.1, a.2);
      back = ap (λ (l : List ℤ). pos n ∷ l) others.back;
    }

kept_read : (o : Option TooLarge) (xs : List ℕ) (line : ℕ) (bytes : List ℕ) (rest : Rest (List ℕ))
    → front_of (unless_passed o >>= λ kept. ends xs) line bytes ≡ Ok rest
    → (o ≡ None) × (let one : Rest (List ℕ) = rest_at xs line bytes in one ≡ rest)
kept_read None xs line bytes rest e = let one : Rest (List ℕ) = rest_at xs line bytes in
    (refl, same_rest one rest e)
kept_read (Some passed) xs line bytes rest e = absurd cc

counts_read : (h agent : ℕ) (cells : List ℕ) (line : ℕ) (bytes : List ℕ) (rest : Rest (List ℕ))
    → agent < 10 ^ 64
    → front_of (counts_grammar h agent cells) line bytes ≡ Ok rest
    → AreCounts h agent cells rest.value bytes rest.bytes
counts_read h agent cells line bytes rest few e =
    let behind : List ℤ → Text (List ℕ) = λ zs. unless_passed
    (cells_passed (products cells (map unsigned_abs zs)))
    >>= λ kept. ends (map unsigned_abs zs) in
    let s = split (the_words (agent_words agent)) (λ title. the_numbers (counts_form h) >>= behind)
    line bytes rest e in
    let title = words_read (agent_words agent) line bytes s.mid (agent_words_are agent few) s.front in
    let u = split (the_numbers (counts_form h)) behind s.mid.line s.mid.bytes rest s.behind in
    let is = line_is (counts_form h) s.mid.line s.mid.bytes u.mid (counts_items h) u.front in
    let xs = map unsigned_abs u.mid.value in
    let numbers = count_numbers h u.mid.value is.allowed in
    let kept = kept_read (cells_passed (products cells xs)) xs u.mid.line u.mid.bytes rest u.behind in
    subst (λ (r : Rest (List ℕ)). AreCounts h agent cells r.value bytes r.bytes) kept.1
    (record {
      all = numbers.all;
      some = numbers.some;
      first = numbers.first;
      few = kept_cells (products cells xs) kept.0;
      lines = line_then (agent_form agent) [] (record { form = counts_form h; numbers = map pos xs } ∷ []) bytes
          s.mid.bytes u.mid.bytes title
          (line_then (counts_form h) (map pos xs) [] s.mid.bytes u.mid.bytes u.mid.bytes
          (subst (λ (l : List ℤ). IsLine (counts_form h) s.mid.bytes l u.mid.bytes) (sym numbers.back) is)
          (no_lines u.mid.bytes));
    })

-- ---- agents

-- the rows of the agents from one on, behind others whose joint rows make these cells
pub record AreShared (h agent : ℕ) (cells bs ns : List ℕ) (p : SharedPolicy)
    (bytes more : List ℕ) : Type 0 where
  pub agents : AreRowsOfAgents h bs ns p
  pub within : (t : ℕ) → t < h → get_or cells t 0 * product (row_counts p t) ≤ 2 ^ 22
  pub lines : AreLines (agent_lines agent (shared_policy_rows bs ns p)) bytes more

cell_few : (cells : List ℕ) (t : ℕ) → AllByRecursion (λ (k : ℕ). k ≤ 2 ^ 22) cells → get_or cells t 0 ≤ 2 ^ 22
cell_few [] t all = omega arith
cell_few (c ∷ cells) zero all = all.0
cell_few (c ∷ cells) (suc t) all = cell_few cells t all.1

pub product_at : (cells xs : List ℕ) (t : ℕ) → get_or (products cells xs) t 0 ≡ get_or cells t 0 * get_or xs t 0
product_at [] xs t = omega arith
product_at (c ∷ cells) [] t = omega arith
product_at (c ∷ cells) (x ∷ xs) zero = refl
product_at (c ∷ cells) (x ∷ xs) (suc t) = product_at cells xs t

pub count_at : (stages : AgentRows) (t : ℕ) → get_or (stage_counts stages) t 0 ≡ row_count stages t
count_at [] t = refl
count_at (rows ∷ stages) zero = refl
count_at (rows ∷ stages) (suc t) = count_at stages t

stages_all : (stages : AgentRows) → length (stage_counts stages) ≡ length stages
stages_all [] = refl
stages_all (rows ∷ stages) = ap suc (stages_all stages)

pub shared_read : (h agent : ℕ) (cells bs ns : List ℕ) (line : ℕ) (bytes : List ℕ) (rest : Rest SharedPolicy)
    → 0 < h → agent + length bs < 10 ^ 64 → length ns ≡ length bs → AllByRecursion (λ (b : ℕ). 0 < b) bs
    → AllByRecursion (λ (k : ℕ). k ≤ 2 ^ 22) cells
    → front_of (shared_agents h agent cells bs ns) line bytes ≡ Ok rest
    → AreShared h agent cells bs ns rest.value bytes rest.bytes
shared_read h agent cells [] [] line bytes rest long few alike acts kept e =
    let one : Rest SharedPolicy = rest_at [] line bytes in
    subst (λ (r : Rest SharedPolicy). AreShared h agent cells [] [] r.value bytes r.bytes)
    (same_rest one rest e)
    (record {
      agents = no_agents;
      within = λ t lt. (let under = cell_few cells t kept in omega (arith, under));
      lines = no_lines bytes;
    })
shared_read h agent cells [] (n ∷ ns) line bytes rest long few alike acts kept e = absurd (omega (arith, alike))
shared_read h agent cells (b ∷ bs) [] line bytes rest long few alike acts kept e = absurd (omega (arith, alike))
shared_read h agent cells (b ∷ bs) (n ∷ ns) line bytes rest long few alike acts kept e =
    let s = split (counts_grammar h agent cells) (λ counts. and_then (shared_stages b n counts)
    (shared_agents h (agent + 1) (products cells counts) bs ns)) line bytes rest e in
    let counts = counts_read h agent cells line bytes s.mid (omega (arith, few)) s.front in
    let after = products cells s.mid.value in
    let u = split (shared_stages b n s.mid.value) (λ stages. shared_agents h (agent + 1)
    after bs ns >>= λ others.
    ends
    (stages ∷ others)) s.mid.line s.mid.bytes rest s.behind in
    let stages = stages_read b n s.mid.value s.mid.line s.mid.bytes u.mid acts.0 counts.some u.front in
    let v = split (shared_agents h (agent + 1) after bs ns) (λ others. ends (u.mid.value ∷ others)) u.mid.line
    u.mid.bytes rest u.behind in
    let others = shared_read h (agent + 1) after bs ns u.mid.line u.mid.bytes v.mid long (omega (arith, few))
    (omega (arith, alike)) acts.1 counts.few v.front in
    let one : Rest SharedPolicy = rest_at (u.mid.value ∷ v.mid.value) v.mid.line v.mid.bytes in
    subst (λ (r : Rest SharedPolicy). AreShared h agent cells (b ∷ bs) (n ∷ ns) r.value bytes r.bytes)
    (same_rest one rest v.behind)
    (one_more s.mid.value u.mid.value v.mid.value s.mid.bytes u.mid.bytes v.mid.bytes counts stages others)
  where
    one_more : (xs : List ℕ) (stages : AgentRows) (p : SharedPolicy) (titled mid more : List ℕ)
        → AreCounts h agent cells xs bytes titled → AreStagesRead b n xs stages titled mid
        → AreShared h (agent + 1) (products cells xs) bs ns p mid more
        → AreShared h agent cells (b ∷ bs) (n ∷ ns) (stages ∷ p) bytes more
    one_more xs stages p titled mid more counts are others =
        let size : length stages ≡ h = sym (stages_all stages) ∙ ap length are.counted ∙ counts.all in
        let counted : counts_line stages ≡ record { form = counts_form h; numbers = map pos xs } =
        (λ i. record { form = counts_form (size i); numbers = map pos (are.counted i) }) in
        record {
          agents = and_agent
              (record {
                of_horizon = size;
                one_first = sym (first_same stages) ∙ ap first_of_counts are.counted ∙ counts.first long;
                rows = are.fit;
              })
              others.agents;
          within = λ t lt. (let e = product_at cells xs t in
              let k : row_count stages t ≡ get_or xs t 0 = sym (count_at stages t)
              ∙ ap (λ (l : List ℕ). get_or l t 0) are.counted in
              let all = others.within t lt in
              few_cells (get_or cells t 0) (get_or xs t 0) (row_count stages t) (product (row_counts p t))
              (get_or (products cells xs) t 0) e k all);
          lines = subst (λ (l : Line). AreLines (fixed_line (agent_form agent) ∷ l ∷ (stage_lines b n stages
              ++ agent_lines (agent + 1) (shared_policy_rows bs ns p))) bytes more) (sym counted)
              (lines_then (fixed_line (agent_form agent) ∷ record
              { form = counts_form h; numbers = map pos xs } ∷ [])
              (stage_lines b n stages ++ agent_lines (agent + 1) (shared_policy_rows bs ns p)) bytes titled more
              counts.lines
              (lines_then (stage_lines b n stages) (agent_lines (agent + 1) (shared_policy_rows bs ns p))
              titled mid more
              are.lines others.lines));
        }
      where
        few_cells : (c x k q d : ℕ) → d ≡ c * x → k ≡ x → d * q ≤ 2 ^ 22 → c * (k * q) ≤ 2 ^ 22
        few_cells c x k q d e same le =
            let regroup : c * (x * q) ≡ c * x * q = omega arith in
            rw (same, regroup) (subst (λ (y : ℕ). y * q ≤ 2 ^ 22) e le)
