-- The rows of all agents of a full front: a shared policy, which means what the front fixes.
use Rattle.std.proofs.Common.{◌≡◌, ◌++◌, inl, inr, ℕ, suc, ◌+◌, ◌*◌, ◌^◌, ◌<◌, ◌≤◌, List, [], ◌∷◌, length, get_or}
use Rattle.std.proofs.Common.{refl, sym, ◌∙◌, subst, arith}
use Rattle.std.proofs.lemmas.Bool.{cases_lt}
use Rattle.dp_spec.specs.Front.{AgentFront}
use Rattle.dp_spec.specs.FullPolicy.{full_policy, tree_doing, trees_doing_fixed}
use Rattle.dp_spec.specs.JointNumbers.{product}
use Rattle.dp_spec.specs.Model.{Model}
use Rattle.dp_spec.specs.SharedPolicy.{AgentRows, AreAgentRows, AreRowsOfAgents, IsSharedOf, SharedPolicy, row_count}
use Rattle.dp_spec.specs.SharedPolicy.{row_counts, unfolded, unfolded_tree}
use Rattle.dp_spec.specs.SharedPolicy.AreRowsOfAgents.{no_agents, and_agent}
use Rattle.dp_spec.specs.Steps.{root_agent}
use Rattle.dp_cluster.specs.AgentParts.{OwnPart}
use Rattle.dp_cluster.specs.FullRows.{AreFullRows}
use Rattle.dp_cluster.specs.KeptFronts.{IsFrontOf, IsStored, KeptFront}
use Rattle.dp_cluster.specs.PastClasses.{HasRowEachClass, PastClasses, no_classes, past_counts}
use Rattle.dp_cluster.proofs.AdvancedParts.{read_front, read_seen}
use Rattle.dp_cluster.proofs.ChosenActions.{agents_of, seen_of}
use Rattle.dp_cluster.proofs.ClassesBehind.{earlier_read, last_read}
use Rattle.dp_cluster.proofs.FullFronts.{full_policy_is}

-- ---- one agent

module _ (m : Model) (k : KeptFront) (is : IsFrontOf m k) (full : k.front.stage ≡ k.horizon) (i : ℕ)
    (inside : i < length k.front.agents) (p : OwnPart)
    (front : (d : AgentFront) → get_or k.front.agents i d ≡ p.front)
    (seen : get_or k.observations i 0 ≡ p.observations) (past : get_or k.past i [] ≡ p.past) where
  stages : length p.front.fixed ≡ k.horizon
  stages = (read_front m k is i inside p front seen).of_stage ∙ full

  own_seen : p.observations ≡ get_or m.observations i 0
  own_seen = sym (read_seen m k is i inside p front seen)

  pub some_stage : 0 < length p.front.fixed
  some_stage = let some = is.some_step in omega (arith, stages)

  pub agent_rows_full : (rows : AgentRows)
      → ((b : ℕ) → ((t x : ℕ) → t < length p.front.fixed → x < p.observations ^ t
      → get_or (get_or p.front.fixed t []) x 0 < b) → AreAgentRows b p.observations (length p.front.fixed) rows)
      → unfolded_tree rows 0 ≡ tree_doing p.observations (λ t x. get_or (get_or p.front.fixed t []) x 0)
      (length p.front.fixed)
      → ((t : ℕ) → t < length p.front.fixed
      → HasRowEachClass p.observations rows t (get_or p.past t no_classes))
      → AreFullRows m k i rows
  agent_rows_full rows are means each =
      let own = read_front m k is i inside p front seen in
      let b = get_or m.actions i 0 in
      let actions : AreAgentRows b p.observations (length p.front.fixed) rows =
      are b (λ t x lt. own.fixed_below t x (omega (arith, own.of_stage))) in
      record {
        agent = subst (λ (n : ℕ). AreAgentRows b n k.horizon rows) own_seen
            (subst (λ (h : ℕ). AreAgentRows b p.observations h rows) stages actions);
        tree = means ∙ (λ j. tree_doing (own_seen j)
            (λ t x. get_or (get_or (sym (front root_agent) j).fixed t []) x 0) ((stages ∙ sym full) j));
        classes = λ t lt. subst (λ (n : ℕ). HasRowEachClass n rows t (get_or (get_or k.past i []) t no_classes))
            own_seen (subst (λ (l : List PastClasses). HasRowEachClass p.observations rows t
            (get_or l t no_classes)) (sym past) (each t (omega (arith, stages))));
      }

-- ---- all agents

-- one agent's rows more
pub rows_more : (m : Model) (k : KeptFront) (all all' : SharedPolicy) (i : ℕ) (new : AgentRows)
    → all' ≡ all ++ new ∷ [] → length all ≡ i
    → ((j : ℕ) → j < i → AreFullRows m k j (get_or all j [])) → AreFullRows m k i new
    → (j : ℕ) → j < i + 1 → AreFullRows m k j (get_or all' j [])
rows_more m k all all' i new pushed long before own j lt =
    subst (λ (l : SharedPolicy). AreFullRows m k j (get_or l j [])) (sym pushed) (elim (cases_lt j i) [
      | inl early ↦ subst (AreFullRows m k j) (sym (earlier_read all (new ∷ []) j [] (omega arith))) (before j early)
      | inr late ↦
          let same : j ≡ i = omega arith in
          subst (AreFullRows m k j) (sym (last_read all j new [] (omega arith)))
          (subst (λ (z : ℕ). AreFullRows m k z new) (sym same) own)
    ])

rows_of_agents : (h : ℕ) (bs ns : List ℕ) (p : SharedPolicy) → length bs ≡ length p → length ns ≡ length p
    → ((j : ℕ) → j < length p → AreAgentRows (get_or bs j 0) (get_or ns j 0) h (get_or p j []))
    → AreRowsOfAgents h bs ns p
rows_of_agents h [] [] [] eb en are = no_agents
rows_of_agents h [] ns (rows ∷ p) eb en are = absurd (omega arith)
rows_of_agents h (b ∷ bs) ns [] eb en are = absurd (omega arith)
rows_of_agents h bs (n ∷ ns) [] eb en are = absurd (omega arith)
rows_of_agents h (b ∷ bs) [] (rows ∷ p) eb en are = absurd (omega arith)
rows_of_agents h (b ∷ bs) (n ∷ ns) (rows ∷ p) eb en are =
    and_agent (are 0 (omega arith))
    (rows_of_agents h bs ns p (omega arith) (omega arith) (λ j lt. are (suc j) (omega arith)))

counts_are : (t : ℕ) (p : SharedPolicy) (past : List (List PastClasses)) → length p ≡ length past
    → ((j : ℕ) → j < length p → row_count (get_or p j []) t ≡ (get_or (get_or past j []) t no_classes).count)
    → row_counts p t ≡ past_counts past t
counts_are t [] [] e are = refl
counts_are t [] (cs ∷ past) e are = absurd (omega arith)
counts_are t (rows ∷ p) [] e are = absurd (omega arith)
counts_are t (rows ∷ p) (cs ∷ past) e are =
    let first = are 0 (omega arith) in
    let rest = counts_are t p past (omega arith) (λ j lt. are (suc j) (omega arith)) in
    λ j. first j ∷ rest j

trees_are : (f : ℕ) (ns : List ℕ) (ds : List AgentFront) (p : SharedPolicy) → length ns ≡ length p
    → length ds ≡ length p
    → ((j : ℕ) → j < length p → unfolded_tree (get_or p j []) 0 ≡ tree_doing (get_or ns j 0)
    (λ t x. get_or (get_or (get_or ds j root_agent).fixed t []) x 0) f)
    → unfolded p ≡ trees_doing_fixed f ns ds
trees_are f [] ds [] en ed are = refl
trees_are f (n ∷ ns) ds [] en ed are = absurd (omega arith)
trees_are f [] ds (rows ∷ p) en ed are = absurd (omega arith)
trees_are f (n ∷ ns) [] (rows ∷ p) en ed are = absurd (omega arith)
trees_are f (n ∷ ns) (d ∷ ds) (rows ∷ p) en ed are =
    let first = are 0 (omega arith) in
    let rest = trees_are f ns ds p (omega arith) (omega arith) (λ j lt. are (suc j) (omega arith)) in
    λ j. first j ∷ rest j

module _ (m : Model) (k : KeptFront) (is : IsFrontOf m k) (stored : IsStored k) (full : k.front.stage ≡ k.horizon)
    (p : SharedPolicy) (many : length p ≡ length k.front.agents)
    (are : (j : ℕ) → j < length p → AreFullRows m k j (get_or p j [])) where
  pub rows_shared : IsSharedOf m k.horizon p
  rows_shared =
      let actions = agents_of is.front.agents in
      let seen = seen_of is.front.agents in
      let behind = stored.past_agents in record {
        agents = rows_of_agents k.horizon m.actions m.observations p (omega arith) (omega arith)
            (λ j lt. (are j lt).agent);
        cells = λ t lt.
            let room = stored.past_room t (omega arith) in
            let counts = counts_are t p k.past (omega arith) (λ j p. ((are j p).classes t lt).one_each) in
            let turned : m.states * product (past_counts k.past t) ≤ 2 ^ 22 = rw (sym is.states) (omega arith) in
            subst (λ (l : List ℕ). m.states * product l ≤ 2 ^ 22) (sym counts) turned;
      }

  pub rows_full : unfolded p ≡ full_policy m k.front
  rows_full =
      let seen = seen_of is.front.agents in
      trees_are k.front.stage m.observations k.front.agents p (omega arith) (omega arith) (λ j lt. (are j lt).tree)
      ∙ full_policy_is m k.front
