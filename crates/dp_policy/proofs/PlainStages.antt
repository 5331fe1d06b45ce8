-- Plain rows that are tested, agent by agent and stage by stage.
use Rattle.std.proofs.Common.{◌≡◌, ℕ, zero, suc, ◌+◌, ◌*◌, ◌^◌, ◌<◌, ◌≤◌, List, [], ◌∷◌, inl, inr, length, get_or}
use Rattle.std.proofs.Common.{drop, sym, ap, ◌∙◌, subst, arith}
use Rattle.std.specs.Prelude.{◌↔◌}
use Rattle.std.proofs.Math.Nat.{mul-le-mul_left, pow-suc}
use Rattle.std.proofs.Math.Seq.{drop-cons}
use Rattle.std.proofs.lemmas.Bool.{cases_lt}
use Rattle.dp_spec.specs.PlainForm.{ArePlain, ArePlainRows}
use Rattle.dp_spec.specs.PlainForm.ArePlain.{and_agent, no_agents}
use Rattle.dp_spec.specs.SharedPolicy.{AgentRows, SharedPolicy}
use Rattle.dp_policy.specs.SharedRows.{IsPlainStage}
use Rattle.dp_policy.proofs.Lists.{drop_all, iff_trans}

heads : {h n : ℕ} {ns : List ℕ} {stages : AgentRows} {p : SharedPolicy} → ArePlain h (n ∷ ns) (stages ∷ p)
    → ArePlainRows n h stages × ArePlain h ns p
heads (and_agent one others) = (one, others)

pub plain_of_agent : {h : ℕ} {ns : List ℕ} {p : SharedPolicy} → ArePlain h ns p → (i : ℕ) → i < length p
    → ArePlainRows (get_or ns i 0) h (get_or p i [])
plain_of_agent no_agents i lt = absurd (omega arith)
plain_of_agent (and_agent one others) zero lt = one
plain_of_agent (and_agent one others) (suc i) lt = plain_of_agent others i (omega arith)

-- one agent more is plain
pub plain_agent_step : (h : ℕ) (ns : List ℕ) (P : SharedPolicy) (i : ℕ) → i < length ns → i < length P
    → ArePlain h ns P ↔ ArePlain h (drop i ns) (drop i P) → ArePlainRows (get_or ns i 0) h (get_or P i [])
    → ArePlain h ns P ↔ ArePlain h (drop (suc i) ns) (drop (suc i) P)
plain_agent_step h ns P i ln lp so_far one =
    let parts : ArePlain h (drop i ns) (drop i P) ↔ ArePlain h (drop (suc i) ns) (drop (suc i) P) =
    subst (λ (ys : List ℕ). ArePlain h ys (drop i P) ↔ ArePlain h (drop (suc i) ns) (drop (suc i) P))
    (sym (drop-cons ns i 0 ln))
    (subst (λ (p : SharedPolicy). ArePlain h (get_or ns i 0 ∷ drop (suc i) ns) p ↔ ArePlain h (drop (suc i) ns)
    (drop (suc i) P)) (sym (drop-cons P i [] lp))
    (λ all. (heads all).1, λ rest. and_agent one rest)) in
    iff_trans so_far parts

-- an agent is not
pub plain_agent_fails : (h : ℕ) (ns : List ℕ) (P : SharedPolicy) (i : ℕ) → i < length P
    → (ArePlainRows (get_or ns i 0) h (get_or P i []) → ⊥) → ArePlain h ns P → ⊥
plain_agent_fails h ns P i lt none all = none (plain_of_agent all i lt)

-- with all agents passed
pub plain_agents_end : (h : ℕ) (ns : List ℕ) (P : SharedPolicy) (i : ℕ) → length ns ≤ i → length P ≤ i
    → ArePlain h ns P ↔ ArePlain h (drop i ns) (drop i P) → ArePlain h ns P
plain_agents_end h ns P i ln lp so_far = so_far.1 (rw (drop_all ns i ln, drop_all P i lp) no_agents)

-- ---- the stages of an agent

-- the stages before stage t are plain
pub record ArePlainBefore (n h t : ℕ) (stages : AgentRows) : Type 0 where
  pub each : (u : ℕ) → u < t → IsPlainStage n h u (n ^ u) stages

pub none_before : (n h : ℕ) (stages : AgentRows) → ArePlainBefore n h 0 stages
none_before n h stages = record { each = λ u lt. absurd (omega arith) }

pub plain_stage_step : (n h t count : ℕ) (stages : AgentRows) → ArePlainBefore n h t stages → count ≡ n ^ t
    → IsPlainStage n h t count stages → ArePlainBefore n h (suc t) stages
plain_stage_step n h t count stages before is here = record {
  each = λ u lt. elim (cases_lt u t) [
    | inl early ↦ before.each u early
    | inr late ↦ let same : t ≡ u = omega arith in subst (λ (k : ℕ). IsPlainStage n h k (n ^ k) stages) same
        (subst (λ (k : ℕ). IsPlainStage n h t k stages) is here)
  ];
}

pub plain_count_step : (n t count : ℕ) → count ≡ n ^ t → count * n ≡ n ^ suc t
plain_count_step n t count is = ap (λ (k : ℕ). k * n) is ∙ sym (pow-suc n t)

pub plain_stage_of : (n h t count : ℕ) (stages : AgentRows) → t < h → count ≡ n ^ t → ArePlainRows n h stages
    → IsPlainStage n h t count stages
plain_stage_of n h t count stages lt is all = record {
  rows = all.counts t lt ∙ sym is;
  nexts = λ step c o lc lo. all.nexts t c o step (omega arith) lo;
}

pub plain_stages_end : (n h t : ℕ) (stages : AgentRows) → h ≤ t → ArePlainBefore n h t stages
    → ArePlainRows n h stages
plain_stages_end n h t stages le before = record {
  counts = λ u lt. (before.each u (omega arith)).rows;
  nexts = λ u c o step lc lo. (before.each u (omega arith)).nexts step c o lc lo;
}

-- ---- the rows of a stage

module _ (n k : ℕ) (f : ℕ → List ℕ) (xs : List ℕ) (is : xs ≡ f k) (all : length (f k) ≡ n) where
  -- the numbers of one row, as code reads them
  pub counted_here : ((o : ℕ) → o < n → get_or (f k) o 0 ≡ k * n + o) → (o : ℕ) → o < length xs
      → get_or xs o 0 ≡ k * n + o
  counted_here each o lo = let e = ap length is in ap (λ (l : List ℕ). get_or l o 0) is ∙ each o (omega arith)

  -- one row more
  pub counted_rows : ((o : ℕ) → o < length xs → get_or xs o 0 ≡ k * n + o)
      → ((r o : ℕ) → r < k → o < n → get_or (f r) o 0 ≡ r * n + o) → (r o : ℕ) → r < suc k → o < n
      → get_or (f r) o 0 ≡ r * n + o
  counted_rows here before r o lr lo = elim (cases_lt r k) [
    | inl early ↦ before r o early lo
    | inr late ↦ let same : k ≡ r = omega arith in
        let e = ap length is in
        subst (λ (z : ℕ). get_or (f z) o 0 ≡ z * n + o) same
        (ap (λ (l : List ℕ). get_or l o 0) (sym is) ∙ here o (omega arith))
  ]

-- a row of a stage times a number of observations is small
pub small_product : (a b : ℕ) → a ≤ 2 ^ 22 → b ≤ 256 → a * b ≤ 2 ^ 30
small_product a b la lb = let first = mul-le-mul_left a lb in omega arith
