-- Actors that walk the rows of a shared policy: what they may be asked, and that they answer its trees.
use Rattle.std.proofs.Common.{◌≡◌, ℕ, zero, suc, ◌^◌, ◌<◌, List, [], ◌∷◌, length, get_or, sym, ◌∙◌}
use Rattle.std.proofs.Common.{subst, arith}
use Rattle.std.specs.Prelude.{replicate}
use Rattle.std.proofs.lemmas.List.{get_or-map, length-map, length-replicate}
use Rattle.dp_spec.specs.Model.{IsModel, Model}
use Rattle.dp_spec.specs.PolicyTree.{IsPolicyTree, PolicyTree, no_trees, node, root_action, subtree}
use Rattle.dp_spec.specs.SharedPolicy.{AgentRows, AreAgentRows, IsSharedOf, SharedPolicy, first_count, row_at}
use Rattle.dp_spec.specs.SharedPolicy.{row_count, unfolded, unfolded_tree}
use Rattle.dp_spec.specs.JointNumbers.{product}
use Rattle.dp_spec.proofs.JointNumberLaws.{below_at, length-parts_of, parts_below}
use Rattle.dp_laws.proofs.Trees.{root_action_below, subtree_fits}
use Rattle.dp_policy.specs.SharedRows.{AreKept, remaining_after}
use Rattle.dp_laws.proofs.SharedTrees.{first_count_is, row_nexts, unfolded_is_policy}
use Rattle.dp_policy.specs.Trees.{tree_of}
use Rattle.dp_policy.proofs.JoinedRows.{rows_alike, rows_of_agent}
use Rattle.dp_policy.proofs.JoinedTrees.{tree_of_agent}
use Rattle.dp_sim.specs.Acting.{HasActionAfter}
use Rattle.dp_sim.proofs.TreesAlong.{has_action_after, history_within}
use Rattle.dp_cli.specs.ShownPolicies.{history_of}
use Rattle.dp_cli.proofs.ShownTexts.{get_or-replicate, product-replicate}

-- the tree of an agent is that of its first row
pub tree_of_rows : (p : SharedPolicy) (i : ℕ) → i < length p
    → tree_of (unfolded p) i ≡ unfolded_tree (get_or p i []) 0
tree_of_rows p i lt = get_or-map (λ (stages : AgentRows). unfolded_tree stages 0) p i [] (node 0 no_trees) lt

-- the horizon of rows that are kept is that for which they are a shared policy
pub kept_horizon : (m : Model) → IsModel m → (h k : ℕ) (p : SharedPolicy) → IsSharedOf m h p → AreKept k p → k ≡ h
kept_horizon m is h k p shared kept =
    let some : 0 < length p = omega (arith, rows_alike shared.agents, is.sizes.some_agent) in
    sym (kept.stages 0 some) ∙ (rows_of_agent shared.agents 0 some).of_horizon

-- what an actor may be asked: fewer own observations than steps, each of them one that the first row goes on after
pub record MayAsk (h : ℕ) (stages : AgentRows) (history : List ℕ) : Type 0 where
  pub shorter : length history < h
  pub seen : (t : ℕ) → t < length history → get_or history t 0 < length (row_at stages 0 0).next

-- the action of a tree after fewer own observations than it has steps is its agent's
action_after_below : (b n r : ℕ) (q : PolicyTree) (os : List ℕ) → length os < r
    → ((t : ℕ) → t < length os → get_or os t 0 < n) → IsPolicyTree b n r q → root_action (remaining_after q os) < b
action_after_below b n zero q os short below is = absurd (omega arith)
action_after_below b n (suc r) q [] short below is = root_action_below b n r q is
action_after_below b n (suc r) q (o ∷ os) short below is =
    action_after_below b n r (subtree q o) os (omega arith) (λ t lt. below (suc t) (omega arith))
    (subtree_fits b n r q o (below 0 (omega arith)) is)

-- there is a step where there is a first row
some_stage : (stages : AgentRows) → first_count stages ≡ 1 → 0 < length stages
some_stage [] one = absurd (omega arith)
some_stage (rows ∷ stages) one = omega arith

module _ (m : Model) (h : ℕ) (p : SharedPolicy) (shared : IsSharedOf m h p) (i : ℕ) (lt : i < length p) where
  rows : AreAgentRows (get_or m.actions i 0) (get_or m.observations i 0) h (get_or p i [])
  rows = rows_of_agent shared.agents i lt

  pub some_step : 0 < h
  some_step = omega (arith, some_stage (get_or p i []) rows.one_first, rows.of_horizon)

  is_tree : IsPolicyTree (get_or m.actions i 0) (get_or m.observations i 0) h (unfolded_tree (get_or p i []) 0)
  is_tree =
      let there : i < length (unfolded p) = omega (arith, length-map p (λ (s : AgentRows). unfolded_tree s 0)) in
      subst (IsPolicyTree (get_or m.actions i 0) (get_or m.observations i 0) h) (tree_of_rows p i lt)
      (tree_of_agent (unfolded_is_policy m h p shared) i there)

  pub may_ask : (history : List ℕ) → HasActionAfter (unfolded_tree (get_or p i []) 0) history
      → MayAsk h (get_or p i []) history
  may_ask history has =
      let within = history_within (get_or m.actions i 0) (get_or m.observations i 0) h
      (unfolded_tree (get_or p i []) 0) history some_step is_tree has in
      let first : 0 < row_count (get_or p i []) 0 = omega (arith, first_count_is (get_or p i []), rows.one_first) in
      record {
        shorter = within.0;
        seen = λ t early.
            let later : 1 < length (get_or p i []) = omega (arith, within.0, early, rows.of_horizon) in
            let nexts = row_nexts (get_or m.actions i 0) (get_or m.observations i 0) (get_or p i []) rows.rows 0 0
            later first in
            omega (arith, nexts, within.1 t early);
      }

  -- own history x of length t may be asked, and each of its parts is an observation ..
  pub history_counted : (t x : ℕ) → length (history_of (get_or m.observations i 0) t x) ≡ t
  history_counted t x =
      length-parts_of (replicate t (get_or m.observations i 0)) x ∙ length-replicate t (get_or m.observations i 0)

  pub seen_below : (t x : ℕ) → x < get_or m.observations i 0 ^ t → (k : ℕ) → k < t
      → get_or (history_of (get_or m.observations i 0) t x) k 0 < get_or m.observations i 0
  seen_below t x below k early =
      let n = get_or m.observations i 0 in
      let all : product (replicate t n) ≡ n ^ t = product-replicate t n in
      let counted : length (replicate t n) ≡ t = length-replicate t n in
      subst (λ (y : ℕ). get_or (history_of n t x) k 0 < y) (get_or-replicate t n k early)
      (below_at k (replicate t n) (history_of n t x) (omega (arith, counted))
      (parts_below (replicate t n) x (omega (arith, all))))

  has_history : (t x : ℕ) → t < h → x < get_or m.observations i 0 ^ t
      → HasActionAfter (unfolded_tree (get_or p i []) 0) (history_of (get_or m.observations i 0) t x)
  has_history t x early below =
      let counted = history_counted t x in
      has_action_after (get_or m.actions i 0) (get_or m.observations i 0) h (unfolded_tree (get_or p i []) 0)
      (history_of (get_or m.observations i 0) t x) (omega (arith, counted))
      (λ k lk. seen_below t x below k (omega (arith, counted, lk))) is_tree

  pub history_asked : (t x : ℕ) → t < h → x < get_or m.observations i 0 ^ t
      → MayAsk h (get_or p i []) (history_of (get_or m.observations i 0) t x)
  history_asked t x early below = may_ask (history_of (get_or m.observations i 0) t x) (has_history t x early below)

  -- .. and the action after it is the agent's
  pub action_below : (t x : ℕ) → t < h → x < get_or m.observations i 0 ^ t
      → root_action (remaining_after (unfolded_tree (get_or p i []) 0) (history_of (get_or m.observations i 0) t x))
      < get_or m.actions i 0
  action_below t x early below =
      let counted = history_counted t x in
      action_after_below (get_or m.actions i 0) (get_or m.observations i 0) h (unfolded_tree (get_or p i []) 0)
      (history_of (get_or m.observations i 0) t x) (omega (arith, counted))
      (λ k lk. seen_below t x below k (omega (arith, counted, lk))) is_tree
