-- Rows of own histories, as they were read: they are plain rows of a policy, and their lines.
use Rattle.std.proofs.Common.{◌≡◌, ℕ, zero, suc, ◌+◌, ◌*◌, ◌-◌, ◌^◌, ◌<◌, ◌≤◌, List, [], ◌∷◌, ◌++◌, length, get_or}
use Rattle.std.proofs.Common.{map, Ok, refl, sym, ap, subst, ◌∙◌, arith}
use Rattle.std.specs.Prelude.{ℤ, pos, unsigned_abs}
use Rattle.std.specs.List.{AllByRecursion, range_with_len}
use Rattle.std.proofs.Math.Nat.{one-le-pow, pow-zero}
use Rattle.std.proofs.lemmas.List.FromFn.{get_or-map-range_with_len, length-map-range_with_len}
use Rattle.dp_spec.specs.PlainForm.{ArePlain, ArePlainRows, observations_after}
use Rattle.dp_spec.specs.PlainForm.ArePlain.{and_agent as and_plain, no_agents as none_plain}
use Rattle.dp_spec.specs.PolicyText.{agent_form, agent_lines, row_form}
use Rattle.dp_spec.specs.SharedPolicy.{AgentRows, AreAgentRows, AreRowsOfAgents, PolicyRow, SharedPolicy, no_row}
use Rattle.dp_spec.specs.SharedPolicy.{row_at, row_count}
use Rattle.dp_spec.specs.SharedPolicy.AreRowsOfAgents.{and_agent, no_agents}
use Rattle.dp_spec.specs.TextLines.{Line}
use Rattle.dp_model.specs.declared.limit.TooLarge.{TooLarge}
use Rattle.dp_laws.proofs.OwnHistories.{next_history_below}
use Rattle.dp_laws.proofs.PlainForms.{all_observations, first_by_place, no_observations, stages_from}
use Rattle.dp_lines.specs.Grammar.{ends, ◌>>=◌}
use Rattle.dp_lines.specs.Scanning.{Rest, front_of}
use Rattle.dp_policy.proofs.ReadBytes.{IsLine, line_is, same_rest, split}
use Rattle.dp_policy.specs.PolicyGrammar.{agent_words}
use Rattle.dp_cert.specs.PolicyGrammar.{plain_agent, plain_agents, plain_stage, plain_stages, rows_from}
use Rattle.dp_lines.specs.Reading.{rest_at}
use Rattle.dp_lines.specs.Steps.{the_numbers, the_words}
use Rattle.dp_policy.proofs.AgentParts.{agent_words_are}
use Rattle.dp_lines.proofs.ProperTexts.{replicate_items}
use Rattle.dp_cert.proofs.ReadLines.{AreLines, line_then, lines_then, no_lines, words_read}
use Rattle.dp_cert.proofs.ReadSharedRows.{numbers_in}

-- ---- the lines of rows

-- what the rows of a stage do
abbrev pub actions_of : List PolicyRow → List ℕ
actions_of rows = map (λ (row : PolicyRow). row.action) rows

-- a line for each stage from stage t on
abbrev pub action_lines : ℕ → ℕ → ℕ → AgentRows → List Line
action_lines b n t [] = []
action_lines b n t (rows ∷ stages) =
    record { form = row_form b n t; numbers = map pos (actions_of rows) } ∷ action_lines b n (t + 1) stages

-- for each agent the lines of its stages
abbrev pub plain_lines : List ℕ → List ℕ → SharedPolicy → List (List Line)
plain_lines (b ∷ bs) (n ∷ ns) (stages ∷ p) = action_lines b n 0 stages ∷ plain_lines bs ns p
plain_lines bs ns p = []

-- ---- the rows of a stage

abbrev row_with : ℕ → List ℕ → PolicyRow
row_with action next = record { action = action; next = next }

rows_all : (n : ℕ) (seen : List ℕ) (c : ℕ) (xs : List ℕ) → length (rows_from n seen c xs) ≡ length xs
rows_all n seen c [] = refl
rows_all n seen c (x ∷ xs) = ap suc (rows_all n seen (c + 1) xs)

rows_do : (n : ℕ) (seen : List ℕ) (c : ℕ) (xs : List ℕ) → actions_of (rows_from n seen c xs) ≡ xs
rows_do n seen c [] = refl
rows_do n seen c (x ∷ xs) = ap (λ (l : List ℕ). x ∷ l) (rows_do n seen (c + 1) xs)

rows_at : (n : ℕ) (seen : List ℕ) (c : ℕ) (xs : List ℕ) (k : ℕ) → k < length xs
    → get_or (rows_from n seen c xs) k no_row ≡ row_with (get_or xs k 0) (map (λ o. (c + k) * n + o) seen)
rows_at n seen c [] k lt = absurd (omega arith)
rows_at n seen c (x ∷ xs) zero lt =
    let e : c ≡ c + 0 = omega arith in ap (λ (d : ℕ). row_with x (map (λ o. d * n + o) seen)) e
rows_at n seen c (x ∷ xs) (suc k) lt =
    let e : c + 1 + k ≡ c + suc k = omega arith in
    rows_at n seen (c + 1) xs k (omega arith)
    ∙ ap (λ (d : ℕ). row_with (get_or xs k 0) (map (λ o. d * n + o) seen)) e

-- the rows of stage t of h, and their line
record IsStageRead (b n h t : ℕ) (rows : List PolicyRow) (bytes more : List ℕ) : Type 0 where
  all : length rows ≡ n ^ t
  actions : (c : ℕ) → c < n ^ t → (get_or rows c no_row).action < b
  nexts : (c : ℕ) → c < n ^ t → (get_or rows c no_row).next ≡ map (λ o. c * n + o) (observations_after n h t)
  line : IsLine (row_form b n t) bytes (map pos (actions_of rows)) more

stage_read : (b n h t line : ℕ) (bytes : List ℕ) (rest : Rest (List PolicyRow)) → 0 < b
    → front_of {L = TooLarge} (plain_stage b n h t) line bytes ≡ Ok rest
    → IsStageRead b n h t rest.value bytes rest.bytes
stage_read b n h t line bytes rest some e =
    let form = row_form b n t in
    let seen = observations_after n h t in
    let s = split (the_numbers form) (λ zs. ends (rows_from n seen 0 (map unsigned_abs zs)))
    line bytes rest e in
    let is = line_is form line bytes s.mid (replicate_items (n ^ t) 0 (b - 1)) s.front in
    let numbers = numbers_in (n ^ t) 0 (b - 1) s.mid.value is.allowed in
    let xs = map unsigned_abs s.mid.value in
    let one : Rest (List PolicyRow) = rest_at (rows_from n seen 0 xs) s.mid.line s.mid.bytes in
    let size = numbers.all in
    subst (λ (r : Rest (List PolicyRow)). IsStageRead b n h t r.value bytes r.bytes)
    (same_rest one rest s.behind)
    (record {
      all = rows_all n seen 0 xs ∙ size;
      actions = λ c lt.
          let row = rows_at n seen 0 xs c (omega (arith, size)) in
          let under = numbers.most c lt in
          subst (λ (r : PolicyRow). r.action < b) (sym row) (below (get_or xs c 0) under);
      nexts = λ c lt.
          let row = rows_at n seen 0 xs c (omega (arith, size)) in
          let none : 0 + c ≡ c = omega arith in
          ap (λ (r : PolicyRow). r.next) row ∙ ap (λ (d : ℕ). map (λ o. d * n + o) seen) none;
      line = subst (λ (l : List ℤ). IsLine form bytes l s.mid.bytes)
          (sym (ap (map pos) (rows_do n seen 0 xs) ∙ numbers.back)) is;
    })
  where
    below : (x : ℕ) → x ≤ b - 1 → x < b
    below x le = omega arith

-- ---- the stages of an agent

-- stages from stage t on, of h
record ArePlainRead (b n h t left : ℕ) (stages : AgentRows) (bytes more : List ℕ) : Type 0 where
  all : length stages ≡ left
  counts : (k : ℕ) → k < left → row_count stages k ≡ n ^ (t + k)
  actions : (k c : ℕ) → k < left → c < n ^ (t + k) → (row_at stages k c).action < b
  nexts : (k c : ℕ) → k < left → c < n ^ (t + k)
      → (row_at stages k c).next ≡ map (λ o. c * n + o) (observations_after n h (t + k))
  lines : AreLines (action_lines b n t stages) bytes more

stage_then : (b n h t left : ℕ) (rows : List PolicyRow) (stages : AgentRows) (bytes mid more : List ℕ)
    → IsStageRead b n h t rows bytes mid → ArePlainRead b n h (t + 1) left stages mid more
    → ArePlainRead b n h t (suc left) (rows ∷ stages) bytes more
stage_then b n h t left rows stages bytes mid more first others = record {
  all = ap suc others.all;
  counts = counts;
  actions = actions;
  nexts = nexts;
  lines = line_then (row_form b n t) (map pos (actions_of rows)) (action_lines b n (t + 1) stages)
      bytes mid more
      first.line others.lines;
}
  where
    here : t ≡ t + 0
    here = omega arith

    later : (k : ℕ) → t + 1 + k ≡ t + suc k
    later k = omega arith

    counts : (k : ℕ) → k < suc left → row_count (rows ∷ stages) k ≡ n ^ (t + k)
    counts zero lt = first.all ∙ ap (λ u. n ^ u) here
    counts (suc k) lt = others.counts k (omega arith) ∙ ap (λ u. n ^ u) (later k)

    actions : (k c : ℕ) → k < suc left → c < n ^ (t + k) → (row_at (rows ∷ stages) k c).action < b
    actions zero c lt in_row = first.actions c (subst (λ u. c < n ^ u) (sym here) in_row)
    actions (suc k) c lt in_row = others.actions k c (omega arith)
        (subst (λ u. c < n ^ u) (sym (later k)) in_row)

    nexts : (k c : ℕ) → k < suc left → c < n ^ (t + k)
        → (row_at (rows ∷ stages) k c).next ≡ map (λ o. c * n + o) (observations_after n h (t + k))
    nexts zero c lt in_row =
        first.nexts c (subst (λ u. c < n ^ u) (sym here) in_row)
        ∙ ap (λ u. map (λ o. c * n + o) (observations_after n h u)) here
    nexts (suc k) c lt in_row =
        others.nexts k c (omega arith) (subst (λ u. c < n ^ u) (sym (later k)) in_row)
        ∙ ap (λ u. map (λ o. c * n + o) (observations_after n h u)) (later k)

stages_read : (b n h t left line : ℕ) (bytes : List ℕ) (rest : Rest AgentRows) → 0 < b
    → front_of {L = TooLarge} (plain_stages b n h t left) line bytes ≡ Ok rest
    → ArePlainRead b n h t left rest.value bytes rest.bytes
stages_read b n h t zero line bytes rest some e =
    let one : Rest AgentRows = rest_at [] line bytes in
    subst (λ (r : Rest AgentRows). ArePlainRead b n h t 0 r.value bytes r.bytes) (same_rest one rest e)
    (record {
      all = refl;
      counts = λ k lt. absurd (omega arith);
      actions = λ k c lt in_row. absurd (omega arith);
      nexts = λ k c lt in_row. absurd (omega arith);
      lines = no_lines bytes;
    })
stages_read b n h t (suc left) line bytes rest some e =
    let s = split (plain_stage b n h t) (λ rows. plain_stages b n h (t + 1) left >>= λ stages. ends
    (rows ∷ stages)) line
    bytes rest e in
    let first = stage_read b n h t line bytes s.mid some s.front in
    let u = split (plain_stages b n h (t + 1) left) (λ stages. ends (s.mid.value ∷ stages))
    s.mid.line s.mid.bytes rest
    s.behind in
    let others = stages_read b n h (t + 1) left s.mid.line s.mid.bytes u.mid some u.front in
    let one : Rest AgentRows = rest_at (s.mid.value ∷ u.mid.value) u.mid.line u.mid.bytes in
    subst (λ (r : Rest AgentRows). ArePlainRead b n h t (suc left) r.value bytes r.bytes)
    (same_rest one rest u.behind)
    (stage_then b n h t left s.mid.value u.mid.value bytes s.mid.bytes u.mid.bytes first others)

-- ---- all stages of an agent

module _ (b n h : ℕ) (stages : AgentRows) (bytes more : List ℕ) (are : ArePlainRead b n h 0 h stages bytes more)
    (long : 0 < h) (seen : 0 < n)
  where
    count : (t : ℕ) → t < h → row_count stages t ≡ n ^ t
    count t lt = are.counts t lt ∙ ap (λ u. n ^ u) (omega arith)

    next_list : (t c : ℕ) → t < h → c < n ^ t → (row_at stages t c).next
        ≡ map (λ o. c * n + o) (observations_after n h t)
    next_list t c lt in_row =
        let none : t ≡ 0 + t = omega arith in
        are.nexts t c lt (subst (λ u. c < n ^ u) none in_row)
        ∙ ap (λ u. map (λ o. c * n + o) (observations_after n h u)) (sym none)

    all_nexts : (t c : ℕ) → suc t < h → c < n ^ t → (row_at stages t c).next
        ≡ map (λ o. c * n + o) (range_with_len 0 n)
    all_nexts t c step in_row =
        next_list t c (omega arith) in_row ∙ ap (map (λ o. c * n + o)) (all_observations n h t step)

    next_at : (t c o : ℕ) → suc t < h → c < n ^ t → o < n → get_or (row_at stages t c).next o 0 ≡ c * n + o
    next_at t c o step in_row lt =
        ap (λ (xs : List ℕ). get_or xs o 0) (all_nexts t c step in_row)
        ∙ get_or-map-range_with_len (λ o. c * n + o) 0 n o o 0 lt (omega arith)

    -- they are plain
    plain_are : ArePlainRows n h stages
    plain_are = record { counts = count; nexts = next_at }

    -- and rows of an agent
    rows_are : AreAgentRows b n h stages
    rows_are =
        let all = are.all in
        record {
          of_horizon = all;
          one_first = first_by_place stages 1 (count 0 long ∙ pow-zero n);
          rows = stages_from b n stages
              (λ t lt. let k = count t (omega arith) in omega (arith, k, one-le-pow t n seen))
              (λ t r lt below. let k = count t (omega arith) in
              let none : t ≡ 0 + t = omega arith in
              are.actions t r (omega arith) (subst (λ u. r < n ^ u) none (omega (arith, k, below))))
              (λ t r lt below. let k = count t (omega arith) in
              ap (λ (xs : List ℕ). length xs) (all_nexts t r (omega arith) (omega arith))
              ∙ length-map-range_with_len (λ o. r * n + o) 0 n)
              (λ t r o lt below here.
              let k = count t (omega arith) in
              let later = count (suc t) (omega arith) in
              let next = next_at t r o (omega arith) (omega arith) here in
              let within = next_history_below r n t o (omega arith) here in omega arith)
              (λ t r e below. let k = count t (omega arith) in
              ap (λ (xs : List ℕ). length xs) (next_list t r (omega arith) (omega arith))
              ∙ ap (λ (os : List ℕ). length (map (λ o. r * n + o) os)) (no_observations n h t (omega arith)));
        }

-- ---- agents

-- the rows of the agents from one on
pub record ArePlainAgents (h agent : ℕ) (bs ns : List ℕ) (p : SharedPolicy) (bytes more : List ℕ) : Type 0 where
  pub agents : AreRowsOfAgents h bs ns p
  pub plain : ArePlain h ns p
  pub lines : AreLines (agent_lines agent (plain_lines bs ns p)) bytes more

pub plain_read : (h agent : ℕ) (bs ns : List ℕ) (line : ℕ) (bytes : List ℕ) (rest : Rest SharedPolicy) → 0 < h
    → agent + length bs < 10 ^ 64 → length ns ≡ length bs → AllByRecursion (λ (b : ℕ). 0 < b) bs
    → AllByRecursion (λ (n : ℕ). 0 < n) ns → front_of (plain_agents h agent bs ns) line bytes ≡ Ok rest
    → ArePlainAgents h agent bs ns rest.value bytes rest.bytes
plain_read h agent [] [] line bytes rest long few alike acts sees e =
    let one : Rest SharedPolicy = rest_at [] line bytes in
    subst (λ (r : Rest SharedPolicy). ArePlainAgents h agent [] [] r.value bytes r.bytes) (same_rest one rest e)
    (record { agents = no_agents; plain = none_plain; lines = no_lines bytes })
plain_read h agent [] (n ∷ ns) line bytes rest long few alike acts sees e = absurd (omega (arith, alike))
plain_read h agent (b ∷ bs) [] line bytes rest long few alike acts sees e = absurd (omega (arith, alike))
plain_read h agent (b ∷ bs) (n ∷ ns) line bytes rest long few alike acts sees e =
    let s = split (plain_agent h agent b n) (λ stages. plain_agents h (agent + 1) bs ns >>= λ others. ends
    (stages ∷ others)) line bytes rest e in
    let u = split (the_words (agent_words agent)) (λ title. plain_stages b n h 0 h) line bytes s.mid s.front in
    let title = words_read (agent_words agent) line bytes u.mid (agent_words_are agent (omega (arith, few)))
    u.front in
    let stages = stages_read b n h 0 h u.mid.line u.mid.bytes s.mid acts.0 u.behind in
    let v = split (plain_agents h (agent + 1) bs ns) (λ others. ends (s.mid.value ∷ others))
    s.mid.line s.mid.bytes rest
    s.behind in
    let others = plain_read h (agent + 1) bs ns s.mid.line s.mid.bytes v.mid long (omega (arith, few))
    (omega (arith, alike)) acts.1 sees.1 v.front in
    let one : Rest SharedPolicy = rest_at (s.mid.value ∷ v.mid.value) v.mid.line v.mid.bytes in
    subst (λ (r : Rest SharedPolicy). ArePlainAgents h agent (b ∷ bs) (n ∷ ns) r.value bytes r.bytes)
    (same_rest one rest v.behind)
    (record {
      agents = and_agent (rows_are b n h s.mid.value u.mid.bytes s.mid.bytes stages long sees.0) others.agents;
      plain = and_plain (plain_are b n h s.mid.value u.mid.bytes s.mid.bytes stages long sees.0) others.plain;
      lines = line_then (agent_form agent) [] (action_lines b n 0 s.mid.value
          ++ agent_lines (agent + 1) (plain_lines bs ns v.mid.value)) bytes u.mid.bytes v.mid.bytes title
          (lines_then (action_lines b n 0 s.mid.value) (agent_lines (agent + 1) (plain_lines bs ns v.mid.value))
          u.mid.bytes
          s.mid.bytes v.mid.bytes stages.lines others.lines);
    })
