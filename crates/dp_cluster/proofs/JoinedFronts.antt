-- What is kept of a front after a join.
use Rattle.std.proofs.Common.{◌≡◌, ℕ, zero, suc, ◌+◌, ◌-◌, ◌*◌, ◌<◌, ◌≤◌, Bool, true, pos, List, [], ◌∷◌, map, length}
use Rattle.std.proofs.Common.{get_or, set, take, refl, sym, ap, ◌∙◌, subst, arith}
use Rattle.std.proofs.Math.Nat.{mul-le-mul_left, mul-le-mul_right}
use Rattle.dp_spec.specs.declared.span.Span.{Span}
use Rattle.dp_spec.specs.Arithmetic.{point}
use Rattle.dp_spec.specs.Front.{class_counts}
use Rattle.dp_spec.specs.JointNumbers.{product}
use Rattle.dp_spec.specs.Merge.{merged_agents, merged_front}
use Rattle.dp_spec.specs.Model.{Model}
use Rattle.dp_spec.specs.Steps.{IsUnassigned}
use Rattle.dp_laws.proofs.MergedFronts.{as_many_merged}
use Rattle.dp_cluster.specs.Advances.{weight_rows}
use Rattle.dp_cluster.specs.AgentParts.{OwnPart}
use Rattle.dp_cluster.specs.Joins.{behind, merged_weight, own_count}
use Rattle.dp_cluster.specs.KeptFronts.{IsFrontOf, IsStored, KeptFront, kept_front}
use Rattle.dp_cluster.proofs.FrontParts.{as_many_counts, field_set, fronts}
use Rattle.dp_cluster.proofs.JoinedWeights.{all_after, all_before, merged_is}
use Rattle.dp_spec.specs.Arithmetic.{arithmetic, exact}
use Rattle.dp_spec.specs.Quantities.{class_weight_in, earned_reward_in}
use Rattle.dp_laws.proofs.MergedTrees.{fixed_joint_action_merged}
use Rattle.dp_laws.proofs.WellFormedSteps.{merged_is_front}
use Rattle.dp_cluster.proofs.OwnParts.{merged_in}
use Rattle.dp_cluster.proofs.WeightRows.{rows_at, rows_length}

merge_set : (parts : List OwnPart) (i a b : ℕ) (p : OwnPart) → i < length parts → p ≡ get_or parts i p
    → fronts (set parts i (merged_in p a b)) ≡ merged_agents i a b (fronts parts)
merge_set [] i a b p lt e = absurd (omega arith)
merge_set (q ∷ qs) zero a b p lt e = ap (λ (z : OwnPart). (merged_in z a b).front ∷ fronts qs) e
merge_set (q ∷ qs) (suc i) a b p lt e = ap (λ l. q.front ∷ l) (merge_set qs i a b p (omega arith) e)

pub after_join : (h : ℕ) (e : Bool) (S f : ℕ) (parts parts' : List OwnPart) (ws ws' : List Span) (r : Span)
    (v : KeptFront)
    (i a b : ℕ) (p q : OwnPart) → kept_front h e S f parts ws r ≡ v → i < length parts → p ≡ get_or parts i p
    → q ≡ merged_in p a b → parts' ≡ set parts i q
    → kept_front h e S f parts' ws' r ≡ record v { front = merged_front v.front i a b; weights = ws' }
after_join h e S f parts parts' ws ws' r v i a b p q is lt read new parts_are =
    let list : parts' ≡ set parts i (merged_in p a b) = parts_are ∙ ap (set parts i) new in
    let seen = ap (map (λ (z : OwnPart). z.observations)) list
    ∙ field_set (λ (z : OwnPart). z.observations) parts i p (merged_in p a b) lt read refl in
    let past = ap (map (λ (z : OwnPart). z.past)) list
    ∙ field_set (λ (z : OwnPart). z.past) parts i p (merged_in p a b) lt read refl in
    let agents = ap fronts list ∙ merge_set parts i a b p lt read in
    (λ j. record {
      horizon = h;
      is_exact = e;
      states = S;
      observations = seen j;
      front = record { stage = f; agents = agents j };
      past = past j;
      weights = ws';
      earned = r;
    })
    ∙ ap (λ (w : KeptFront). record w { front = merged_front w.front i a b; weights = ws' }) is

-- what is kept after a merge, in exact mode
pub merged_kept : (m : Model) (k : KeptFront) → IsFrontOf m k → k.is_exact ≡ true → k.front.stage < k.horizon
    → (i a b : ℕ) → a < b
    → IsUnassigned i a k.front.agents → IsUnassigned i b k.front.agents → (ws : List Span)
    → ((C s : ℕ) → C < product (class_counts (merged_agents i a b k.front.agents)) → s < m.states
    → get_or ws (C * k.states + s) (point (pos 0)) ≡ class_weight_in (exact m.scales) m
    (merged_front k.front i a b) C s)
    → IsFrontOf m (record k { front = merged_front k.front i a b; weights = ws })
merged_kept m k is e lt i a b ab free_a free_b ws weights = record {
  model = is.model;
  some_step = is.some_step;
  horizon = is.horizon;
  mode = is.mode;
  states = is.states;
  observations = is.observations;
  front = merged_is_front m k.horizon k.front i a b is.front lt ab free_a free_b;
  apart = λ no. cc (e, no);
  weights = λ early C s hC hs. weights C s hC hs ∙ ap (λ (x : Bool). class_weight_in (arithmetic x m.scales) m
      (merged_front k.front i a b) C s) (sym e);
  earned = is.earned ∙ ap (λ (act : List ℕ → ℕ). earned_reward_in (arithmetic k.is_exact m.scales)
      m act k.horizon k.front.stage) (sym (fixed_joint_action_merged m k.front i a b));
}

module _ (m : Model) (k : KeptFront) (is : IsFrontOf m k) (e : k.is_exact ≡ true)
    (lt : k.front.stage < k.horizon)
    (i a b : ℕ) (ab : a < b) (free_a : IsUnassigned i a k.front.agents)
    (free_b : IsUnassigned i b k.front.agents)
    (ws : List Span) (rows : ws ≡ weight_rows (merged_weight k i a b) k.states
    (product (take i (class_counts k.front.agents)) * (own_count k i - 1) * behind k i)) where
  pub join_kept : IsFrontOf m (record k { front = merged_front k.front i a b; weights = ws })
  join_kept =
      merged_kept m k is e lt i a b ab free_a free_b ws (λ C s hC hs.
      let below = subst (λ (n : ℕ). C < n) (all_after m k is e lt i a b ab free_a free_b) hC in
      ap (λ l. get_or l (C * k.states + s) (point (pos 0))) rows
      ∙ rows_at (merged_weight k i a b) k.states _ C s (point (pos 0)) below
      (subst (λ (n : ℕ). s < n) (sym is.states) hs)
      ∙ merged_is m k is e lt i a b ab free_a free_b C below s hs)

  fewer : product (class_counts (merged_agents i a b k.front.agents)) ≤ product (class_counts k.front.agents)
  fewer =
      let less : own_count k i - 1 ≤ own_count k i = omega arith in
      let row = mul-le-mul_left (product (take i (class_counts k.front.agents))) less in
      let all = mul-le-mul_right (behind k i) row in
      omega (arith, all_after m k is e lt i a b ab free_a free_b, all_before m k is e lt i a b ab free_a free_b)

  pub join_stored : IsStored k → IsStored (record k { front = merged_front k.front i a b; weights = ws })
  join_stored s =
      let as_many : length (merged_agents i a b k.front.agents) ≡ length k.front.agents =
      sym (as_many_counts (merged_agents i a b k.front.agents)) ∙ as_many_merged i a b k.front.agents
      ∙ as_many_counts k.front.agents in
      record {
        agents = let le = s.agents in omega arith;
        limit = s.limit;
        room = λ early. let le = mul-le-mul_right k.states fewer in let all = s.room early in omega arith;
        weights = λ early. ap length rows ∙ rows_length (merged_weight k i a b) k.states _
            ∙ ap (λ (n : ℕ). n * k.states) (sym (all_after m k is e lt i a b ab free_a free_b));
        past_agents = s.past_agents ∙ sym as_many;
        past_stages = s.past_stages;
        past_room = s.past_room;
      }
