-- Rows that are tested, list by list.
use Rattle.std.proofs.Common.{◌≡◌, ℕ, zero, suc, ◌*◌, ◌^◌, ◌<◌, ◌≤◌, List, [], ◌∷◌, inl, inr, length, get_or, drop}
use Rattle.std.proofs.Common.{refl, sym, ap, ◌∙◌, subst, arith}
use Rattle.std.specs.Prelude.{◌↔◌, ◌==◌, true, false}
use Rattle.std.proofs.Math.Seq.{drop-cons}
use Rattle.dp_spec.specs.JointNumbers.{product}
use Rattle.dp_spec.specs.Model.{IsModel, Model, joint_observations}
use Rattle.dp_spec.specs.SharedPolicy.{AgentRows, AreAgentRows, AreRowsOfAgents, AreStages, IsRow, IsSharedOf}
use Rattle.dp_spec.specs.SharedPolicy.{PolicyRow, SharedPolicy, first_count, next_count, no_row, row_at, row_count}
use Rattle.dp_spec.specs.SharedPolicy.{row_counts}
use Rattle.dp_spec.specs.SharedPolicy.AreRowsOfAgents.{and_agent, no_agents}
use Rattle.std.proofs.lemmas.Bool.{cases_lt}
use Rattle.dp_spec.proofs.JointNumberLaws.{positive_left, positive_right}
use Rattle.dp_spec.proofs.ModelLaws.{some_joint_observation}
use Rattle.dp_laws.proofs.SharedTexts.{few_rows}
use Rattle.dp_laws.proofs.SharedTrees.{first_count_is, next_row_below, row_nexts}
use Rattle.dp_policy.specs.SharedRows.{AreKept, IsStage}
use Rattle.dp_policy.proofs.Lists.{drop_all, iff_trans, past_end, le_times}

-- ---- the stages of an agent

first_of : (b n : ℕ) (P : AgentRows) → AreStages b n P → IsStage b n P
first_of b n [] all = tt
first_of b n (rows ∷ later) all = (all.0, all.1)

whole : (b n : ℕ) (rows : List PolicyRow) (later : AgentRows) → IsStage b n (rows ∷ later)
    → AreStages b n (rows ∷ later) ↔ AreStages b n later
whole b n rows later is = (λ all. all.2, λ rest. (is.0, is.1, rest))

-- one stage more is as it should be
pub stage_step : (b n : ℕ) (P : AgentRows) (t : ℕ) → t < length P → AreStages b n P ↔ AreStages b n (drop t P)
    → IsStage b n (drop t P) → AreStages b n P ↔ AreStages b n (drop (suc t) P)
stage_step b n P t lt so_far is =
    let e = drop-cons P t [] lt in
    iff_trans so_far
    (subst (λ (Q : AgentRows). AreStages b n Q ↔ AreStages b n (drop (suc t) P)) (sym e)
    (whole b n (get_or P t []) (drop (suc t) P) (subst (IsStage b n) e is)))

-- a stage is not
pub stage_fails : (b n : ℕ) (P : AgentRows) (t : ℕ) → AreStages b n P ↔ AreStages b n (drop t P)
    → (IsStage b n (drop t P) → ⊥) → AreStages b n P → ⊥
stage_fails b n P t so_far none all = none (first_of b n (drop t P) (so_far.0 all))

stage_of_lists : (b n : ℕ) (rows : List PolicyRow) (later : AgentRows) → false ≡ (length rows == 0)
    → ((r : ℕ) → r < length rows → IsRow b (next_count n later) (first_count later) (get_or rows r no_row))
    ↔ IsStage b n (rows ∷ later)
stage_of_lists b n [] later some = absurd (let e : false ≡ true = some in cc)
stage_of_lists b n (row ∷ rows) later some = (λ each. (omega arith, each), λ is. is.1)

-- a stage as its rows are tested
pub stage_is : (b n : ℕ) (P : AgentRows) (t : ℕ) (rows : List PolicyRow) (nexts count : ℕ) → t < length P
    → rows ≡ get_or P t []
    → nexts ≡ next_count n (drop (suc t) P) → count ≡ first_count (drop (suc t) P) → false ≡ (length rows == 0)
    → ((r : ℕ) → r < length rows → IsRow b nexts count (get_or rows r no_row)) ↔ IsStage b n (drop t P)
stage_is b n P t rows nexts count lt is en ec some =
    rw (en, ec) (subst (λ (Q : AgentRows). ((r : ℕ) → r < length rows
    → IsRow b (next_count n (drop (suc t) P)) (first_count (drop (suc t) P)) (get_or rows r no_row))
    ↔ IsStage b n Q)
    (ap (λ (xs : List PolicyRow). xs ∷ drop (suc t) P) is ∙ sym (drop-cons P t [] lt))
    (stage_of_lists b n rows (drop (suc t) P) some))

-- ---- all agents

pub rows_alike : {h : ℕ} {bs ns : List ℕ} {p : SharedPolicy} → AreRowsOfAgents h bs ns p → length p ≡ length bs
rows_alike no_agents = refl
rows_alike (and_agent one others) = let e = rows_alike others in omega arith

heads : {h b n : ℕ} {bs ns : List ℕ} {stages : AgentRows} {p : SharedPolicy}
    → AreRowsOfAgents h (b ∷ bs) (n ∷ ns) (stages ∷ p)
    → AreAgentRows b n h stages × AreRowsOfAgents h bs ns p
heads (and_agent one others) = (one, others)

-- the rows of an agent
pub rows_of_agent : {h : ℕ} {bs ns : List ℕ} {p : SharedPolicy} → AreRowsOfAgents h bs ns p → (i : ℕ)
    → i < length p
    → AreAgentRows (get_or bs i 0) (get_or ns i 0) h (get_or p i [])
rows_of_agent no_agents i lt = absurd (omega arith)
rows_of_agent (and_agent one others) zero lt = one
rows_of_agent (and_agent one others) (suc i) lt = rows_of_agent others i (omega arith)

module _ (h : ℕ) (bs ns : List ℕ) (P : SharedPolicy) (i : ℕ) (lb : i < length bs) (ln : i < length ns)
    (lp : i < length P) (so_far : AreRowsOfAgents h bs ns P ↔ AreRowsOfAgents h (drop i bs) (drop i ns)
    (drop i P))
  where
    -- one agent more has rows
    pub agent_step : AreAgentRows (get_or bs i 0) (get_or ns i 0) h (get_or P i [])
        → AreRowsOfAgents h bs ns P ↔ AreRowsOfAgents h (drop (suc i) bs) (drop (suc i) ns) (drop (suc i) P)
    agent_step one =
        let parts : AreRowsOfAgents h (drop i bs) (drop i ns) (drop i P) ↔ AreRowsOfAgents h (drop (suc i) bs)
        (drop (suc i) ns) (drop (suc i) P) =
        subst (λ (xs : List ℕ). AreRowsOfAgents h xs (drop i ns) (drop i P) ↔ AreRowsOfAgents h
        (drop (suc i) bs)
        (drop (suc i) ns) (drop (suc i) P)) (sym (drop-cons bs i 0 lb))
        (subst (λ (ys : List ℕ). AreRowsOfAgents h (get_or bs i 0 ∷ drop (suc i) bs) ys (drop i P)
        ↔ AreRowsOfAgents h (drop (suc i) bs) (drop (suc i) ns) (drop (suc i) P)) (sym (drop-cons ns i 0 ln))
        (subst (λ (p : SharedPolicy). AreRowsOfAgents h (get_or bs i 0 ∷ drop (suc i) bs)
        (get_or ns i 0 ∷ drop (suc i) ns) p ↔ AreRowsOfAgents h (drop (suc i) bs) (drop (suc i) ns)
        (drop (suc i) P)) (sym (drop-cons P i [] lp))
        (λ all. (heads all).1, λ rest. and_agent one rest))) in
        iff_trans so_far parts

-- an agent has not
pub agent_fails : (h : ℕ) (bs ns : List ℕ) (P : SharedPolicy) (i : ℕ) → i < length P
    → (AreAgentRows (get_or bs i 0) (get_or ns i 0) h (get_or P i []) → ⊥) → AreRowsOfAgents h bs ns P → ⊥
agent_fails h bs ns P i lt none all = none (rows_of_agent all i lt)

-- ---- cells

-- the product of the numbers of rows that are left
pub cells_step : (P : SharedPolicy) (t i cells total count : ℕ) → i < length P
    → count ≡ row_count (get_or P i []) t
    → cells * product (drop i (row_counts P t)) ≡ total → cells * count * product
    (drop (suc i) (row_counts P t))
    ≡ total
cells_step P t i cells total count lt e so_far =
    let here = next_counts P t i lt in
    let shown : cells * (count * product (drop (suc i) (row_counts P t)))
    ≡ total = ap (λ (z : ℕ). cells * (z * product (drop (suc i) (row_counts P t)))) e
    ∙ ap (λ (ns : List ℕ). cells * product ns) (sym here) ∙ so_far in
    omega arith
  where
    next_counts : (p : SharedPolicy) (t i : ℕ) → i < length p
        → drop i (row_counts p t) ≡ row_count (get_or p i []) t ∷ drop (suc i) (row_counts p t)
    next_counts [] t i lt = absurd (omega arith)
    next_counts (stages ∷ p) t zero lt = refl
    next_counts (stages ∷ p) t (suc i) lt = next_counts p t i (omega arith)

pub counts_above : (P : SharedPolicy) (t i : ℕ) → ((i : ℕ) → i < length P → 0 < row_count (get_or P i []) t)
    → 0 < product (drop i (row_counts P t))
counts_above [] t zero some = omega arith
counts_above [] t (suc i) some = omega arith
counts_above (stages ∷ P) t zero some = positive _ _ (some 0 (omega arith))
    (counts_above P t 0 (λ i lt. some (suc i) (omega arith)))
  where
    positive : (a b : ℕ) → 0 < a → 0 < b → 0 < a * b
    positive zero b p q = absurd (omega arith)
    positive (suc a) zero p q = absurd (omega arith)
    positive (suc a) (suc b) p q = omega arith
counts_above (stages ∷ P) t (suc i) some = counts_above P t i (λ i lt. some (suc i) (omega arith))

-- a shared policy has a step
pub some_step : (m : Model) → IsModel m → (h : ℕ) (p : SharedPolicy) → IsSharedOf m h p → 0 < h
some_step m is h p shared =
    let agents = rows_alike shared.agents in
    let some = is.sizes.some_agent in
    let one = rows_of_agent shared.agents 0 (omega arith) in
    let e = one.of_horizon in
    let stages = some_stages (get_or p 0 []) one.one_first in
    omega arith
  where
    some_stages : (stages : AgentRows) → first_count stages ≡ 1 → 0 < length stages
    some_stages [] e = absurd (omega arith)
    some_stages (rows ∷ stages) e = omega arith

-- ---- what is kept of a shared policy

counts_at : (p : SharedPolicy) (t i : ℕ) → get_or (row_counts p t) i 0 ≡ row_count (get_or p i []) t
counts_at [] t i = refl
counts_at (stages ∷ p) t zero = refl
counts_at (stages ∷ p) t (suc i) = counts_at p t i

some_rows : (b n : ℕ) (stages : AgentRows) → AreStages b n stages → (t : ℕ) → t < length stages
    → 0 < row_count stages t
some_rows b n [] are t lt = absurd (omega arith)
some_rows b n (rows ∷ stages) are zero lt = are.0
some_rows b n (rows ∷ stages) are (suc t) lt = some_rows b n stages are.2 t (omega arith)

pub some_rows_of : {h : ℕ} {bs ns : List ℕ} {p : SharedPolicy} → AreRowsOfAgents h bs ns p → (i t : ℕ)
    → i < length p → t < h
    → 0 < row_count (get_or p i []) t
some_rows_of all i t li lt = let one = rows_of_agent all i li in let e = one.of_horizon in
    some_rows _ _ (get_or _ i []) one.rows t (omega arith)

pub stages_of : {h : ℕ} {bs ns : List ℕ} {p : SharedPolicy} → AreRowsOfAgents h bs ns p → (i : ℕ) → i < length p
    → length (get_or p i []) ≡ h
stages_of all i li = (rows_of_agent all i li).of_horizon

-- with all agents passed
pub agents_end : (h : ℕ) (bs ns : List ℕ) (P : SharedPolicy) (i : ℕ) → length bs ≤ i → length ns ≤ i
    → length P ≤ i
    → AreRowsOfAgents h bs ns P ↔ AreRowsOfAgents h (drop i bs) (drop i ns) (drop i P)
    → AreRowsOfAgents h bs ns P
agents_end h bs ns P i lb ln lp so_far = so_far.1 (rw (drop_all bs i lb, drop_all ns i ln, drop_all P i lp)
    no_agents)

nexts_few : (b n : ℕ) (stages : AgentRows) → AreStages b n stages → n ≤ 256 → (t r : ℕ)
    → length (row_at stages t r).next ≤ 256
nexts_few b n [] are few t r = omega arith
nexts_few b n (rows ∷ []) are few zero r = elim (cases_lt r (length rows)) [
  | inl lt ↦ let e = (are.1 r lt).one_each in omega arith
  | inr le ↦ rw (past_end rows r no_row le) (omega arith)
]
nexts_few b n (rows ∷ []) are few (suc t) r = omega arith
nexts_few b n (rows ∷ (later ∷ stages)) are few zero r = elim (cases_lt r (length rows)) [
  | inl lt ↦ let e = (are.1 r lt).one_each in omega arith
  | inr le ↦ rw (past_end rows r no_row le) (omega arith)
]
nexts_few b n (rows ∷ (later ∷ stages)) are few (suc t) r = nexts_few b n (later ∷ stages) are.2 few t r

pub size_most : (ns : List ℕ) (i : ℕ) → 0 < product ns → product ns ≤ 256 → get_or ns i 0 ≤ 256
size_most [] i some few = omega arith
size_most (n ∷ ns) zero some few = let rest = positive_right n (product ns) 0 some in
    let le = le_times n (product ns) rest in omega arith
size_most (n ∷ ns) (suc i) some few =
    let first = positive_left n (product ns) 0 some in
    let le : product ns ≤ product ns * n = le_times (product ns) n first in
    size_most ns i (positive_right n (product ns) 0 some) (omega arith)

-- an agent has few observations
pub few_observations : (m : Model) → IsModel m → (i : ℕ) → get_or m.observations i 0 ≤ 256
unfolding joint_observations
few_observations m is i = size_most m.observations i (some_joint_observation m is)
    is.sizes.joint_observations_limit

-- the numbers that are kept are within their limits
pub kept_rows : (m : Model) → IsModel m → (h : ℕ) → h ≤ 24 → (p : SharedPolicy) → IsSharedOf m h p → AreKept h p
unfolding joint_observations
kept_rows m is h limit p shared = record {
  horizon = limit;
  agents = let e = rows_alike shared.agents in let few = is.sizes.agents_limit in omega arith;
  stages = stages_of shared.agents;
  counts = λ i t. elim (cases_lt t h) [
    | inl lt ↦ counted i t lt
    | inr le ↦ elim (cases_lt i (length p)) [
      | inl li ↦ let e = stages_of shared.agents i li in rw (past_end (get_or p i []) t [] (omega arith))
          (omega arith)
      | inr li ↦ rw (past_end p i [] li) (omega arith)
    ]
  ];
  nexts = λ i t r. elim (cases_lt i (length p)) [
    | inl li ↦ let one = rows_of_agent shared.agents i li in
        nexts_few _ _ (get_or p i []) one.rows (size_most m.observations i some
        is.sizes.joint_observations_limit) t r
    | inr li ↦ rw (past_end p i [] li) (omega arith)
  ];
  first = first;
  alike = λ i t r li lt lr.
      let one = rows_of_agent shared.agents i li in
      let e = one.of_horizon in
      let f = first i li in
      row_nexts _ _ (get_or p i []) one.rows t r (omega arith) lr
      ∙ sym (row_nexts _ _ (get_or p i []) one.rows 0 0 (omega arith) (omega arith));
  inside = λ i t r o li lt lr lo.
      let one = rows_of_agent shared.agents i li in
      let e = one.of_horizon in
      let n = row_nexts _ _ (get_or p i []) one.rows t r (omega arith) lr in
      next_row_below _ _ (get_or p i []) one.rows t r o (omega arith) lr (omega arith);
}
  where
    first : (i : ℕ) → i < length p → row_count (get_or p i []) 0 ≡ 1
    first i li = sym (first_count_is (get_or p i [])) ∙ (rows_of_agent shared.agents i li).one_first

    some : 0 < product m.observations
    some = some_joint_observation m is

    counted : (i t : ℕ) → t < h → row_count (get_or p i []) t ≤ 2 ^ 22
    counted i t lt = let each = (few_rows m is h p shared t lt).2 i in let same = counts_at p t i in omega arith
