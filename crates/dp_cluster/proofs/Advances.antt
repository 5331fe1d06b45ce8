-- The advance of a front as it is kept: what its calls and sums need, and what it gives.
use Rattle.std.proofs.Common.{◌≡◌, ℕ, suc, ◌+◌, ◌*◌, ◌^◌, ◌<◌, ◌≤◌, Bool, true, false, inl, inr, pos, List, []}
use Rattle.std.proofs.Common.{length, get_or, sym, ap, ◌∙◌, subst, arith}
use Rattle.std.proofs.lemmas.List.{length-map}
use Rattle.dp_spec.specs.declared.span.Span.{Span}
use Rattle.dp_spec.specs.declared.scales.Scales.{Scales}
use Rattle.dp_spec.specs.Arithmetic.{Arithmetic, arithmetic, point, span_add}
use Rattle.dp_spec.specs.Calls.{Calls, calls_in, size}
use Rattle.dp_spec.specs.Front.{Front, class_counts, fixed_joint_action}
use Rattle.dp_spec.specs.JointNumbers.{product}
use Rattle.dp_spec.specs.Model.{Model, joint_actions, joint_observations}
use Rattle.dp_spec.specs.Quantities.{class_weight_in, earned_reward_in, span_sum, weighted_reward_in}
use Rattle.dp_spec.specs.Quantities.{weights_after_in}
use Rattle.dp_spec.specs.Sizes.{reward_size}
use Rattle.dp_spec.specs.SizesOfEarnings.{earned_size}
use Rattle.dp_spec.specs.SizesOfFronts.{class_reward_size}
use Rattle.dp_spec.specs.Steps.{advanced_agents, advanced_front, is_complete}
use Rattle.dp_spec.specs.WellFormed.{IsFront, KeepsHistoriesApart}
use Rattle.dp_base.proofs.NaturalSumLaws.{nat_sum_le}
use Rattle.dp_laws.proofs.AdvancedFronts.{as_many_agents, counts_are_pairs}
use Rattle.dp_spec.specs.ClassSteps.{chosen_joint_action, pair_number}
use Rattle.dp_laws.proofs.SizeLaws.{mode_can_refine, mode_can_reward, mode_can_update_weights}
use Rattle.dp_laws.proofs.EqualWeights.{weighted_reward_in_ext, weights_after_in_ext, weights_same}
use Rattle.dp_laws.proofs.SizeSums.{size_add, earned_size_le, reward_size_le, span_sum_part}
use Rattle.dp_laws.proofs.WellFormedSteps.{advanced_is_front}
use Rattle.dp_laws.proofs.Zeros.{mode_keeps_zero}
use Rattle.dp_value.specs.WeightUpdates.{AreUpdatable}
use Rattle.dp_cluster.specs.Advances.{IsAdvanceable, weight_rows}
use Rattle.dp_cluster.specs.AgentParts.{OwnPart}
use Rattle.dp_cluster.specs.KeptFronts.{IsFrontOf, IsStored, KeptFront, kept_front, kept_weight, part_fronts}
use Rattle.dp_cluster.specs.KeptFronts.{part_observations, part_past}
use Rattle.dp_cluster.specs.PastClasses.{PastClasses, past_after, past_counts}
use Rattle.dp_value.specs.Rewards.{IsRewardable}
use Rattle.dp_laws.proofs.AdvancedSpans.{advanced_earned_in, pair_weight_in}
use Rattle.dp_spec.specs.Wide.{has_room}
use Rattle.dp_laws.proofs.TrueFits.{room_is_within}
use Rattle.dp_laws.proofs.FrontRoom.{advanced_keeps_apart, apart_classes}
use Rattle.dp_cluster.proofs.ChosenActions.{agents_of, chosen_below}
use Rattle.dp_cluster.proofs.ClassesBehind.{after_length, after_room, after_stages}
use Rattle.dp_laws.proofs.ClassSteps.{mode_steps}
use Rattle.dp_cluster.proofs.Pairs.{product_pairs, seen_product}
use Rattle.dp_laws.proofs.SpanSums.{span_add_assoc, span_add_none}
use Rattle.dp_cluster.proofs.WeightRows.{rows_at, rows_length}

-- ---- from a front that can be advanced

module _ (A : Arithmetic) (C : Calls) (m : Model) (k : KeptFront) (is : IsAdvanceable A C m k) where
  abbrev pub F : Front
  F = k.front

  abbrev pub counts : List ℕ
  counts = class_counts F.agents

  abbrev pub act : ℕ → ℕ
  act = chosen_joint_action m F

  pub act_below : (D : ℕ) → D < product counts → act D < joint_actions m
  act_below D lt = chosen_below m k.horizon F is.model is.front D lt

  module _ (D : ℕ) (lt : D < product counts) (ws : ℕ → Span)
      (are : (s : ℕ) → s < k.states → ws s ≡ kept_weight k D s) where
    same : (s : ℕ) → s < m.states → ws s ≡ class_weight_in A m F D s
    same s p = are s (subst (λ (n : ℕ). s < n) (sym is.states) p) ∙ is.weights D s lt p

    pub pushable : AreUpdatable A C m ws
    pushable = record {
      horizon = k.horizon;
      can = is.update;
      time = F.stage;
      early = is.early;
      weights = weights_same A.is_exact m F.stage (class_weight_in A m F D) ws (λ s p. sym (same s p))
          (is.classes D lt);
    }

    pub rewardable : (r : ℕ) → F.stage + suc r ≡ k.horizon → IsRewardable A C m r ws
    rewardable r e = record {
      horizon = k.horizon;
      update = is.update;
      can = is.reward;
      time = F.stage;
      left = e;
      weights = weights_same A.is_exact m F.stage (class_weight_in A m F D) ws (λ s p. sym (same s p))
          (is.classes D lt);
    }

    -- a pushed weight is that of the joint class of the next stage
    pub pushed_is : (o t : ℕ) → o < joint_observations m
        → weights_after_in A m ws (act D) o t ≡ class_weight_in A m (advanced_front m F)
        (pair_number counts m.observations D o) t
    pushed_is o t po =
        weights_after_in_ext A m ws (class_weight_in A m F D) (act D) o t same
        ∙ sym (pair_weight_in A m k.horizon F is.front is.steps D o t lt po)

    pub rewarded_is : (r : ℕ) → weighted_reward_in A m r ws (act D)
        ≡ weighted_reward_in A m r (class_weight_in A m F D) (act D)
    rewarded_is r = weighted_reward_in_ext A m r ws (class_weight_in A m F D) (act D) same

  -- ---- what is earned, joint class by joint class
  abbrev pub earned_to : ℕ → ℕ → Span
  earned_to r n = span_add k.earned (span_sum n (λ D. weighted_reward_in A m r (class_weight_in A m F D)
      (act D)))

  pub earned_start : (r : ℕ) → k.earned ≡ earned_to r 0
  earned_start r = sym (span_add_none k.earned)

  pub earned_next : (r n : ℕ) (total reward : Span) → total ≡ earned_to r n
      → reward ≡ weighted_reward_in A m r (class_weight_in A m F n) (act n)
      → span_add total reward ≡ earned_to r (suc n)
  earned_next r n total reward e f = (λ j. span_add (e j) (f j)) ∙ span_add_assoc k.earned _ _

  pub earned_room : (r n : ℕ) → F.stage + suc r ≡ k.horizon → n ≤ product counts
      → size (earned_to r n) < 2 ^ 127
  unfolding class_reward_size
  earned_room r n e le =
      let W = λ (D : ℕ). weighted_reward_in A m r (class_weight_in A m F D) (act D) in
      let before : size k.earned ≤ earned_size A m (fixed_joint_action m F) k.horizon F.stage =
      subst (λ (w : Span). size w ≤ earned_size A m (fixed_joint_action m F) k.horizon F.stage) (sym is.earned)
      (earned_size_le A m (fixed_joint_action m F) k.horizon F.stage) in
      let part = span_sum_part n (product counts) W le in
      let parts = nat_sum_le (product counts) (λ D. size (W D))
      (λ D. reward_size A m r (class_weight_in A m F D) (act D))
      (λ D p. reward_size_le A m r (class_weight_in A m F D) (act D)) in
      let all = is.room r e in
      let both = size_add k.earned (span_sum n W) in
      omega arith

  pub earned_end : (r n : ℕ) (total : Span) → F.stage + suc r ≡ k.horizon → n ≡ product counts
      → total ≡ earned_to r n
      → total ≡ earned_reward_in A m (fixed_joint_action m (advanced_front m F)) k.horizon (suc F.stage)
  earned_end r n total e all is_total =
      is_total ∙ ap (earned_to r) all ∙ ap (λ (w : Span). span_add w
      (span_sum (product counts) (λ D. weighted_reward_in A m r (class_weight_in A m F D) (act D)))) is.earned
      ∙ sym (advanced_earned_in A m k.horizon F is.front is.steps k.horizon r e)

-- ---- a front of a model can be advanced in the arithmetic of its mode

-- in outward mode its stage is within the limit of stage cells, since it has one joint class for each joint history
stage_cells : (m : Model) (k : KeptFront) → IsFrontOf m k → IsStored k → k.front.stage < k.horizon
    → k.is_exact ≡ false
    → m.states * joint_observations m ^ k.front.stage ≤ 2 ^ 22
stage_cells m k is stored lt e =
    let classes = apart_classes m k.horizon k.front is.front (is.apart e) in
    let room = stored.room lt in
    let turned : m.states * product (class_counts k.front.agents) ≤ 2 ^ 22 = rw (sym is.states) (omega arith) in
    subst (λ (n : ℕ). m.states * n ≤ 2 ^ 22) classes turned

mode_advanceable : (m : Model) (k : KeptFront) → IsFrontOf m k → IsStored k → k.front.stage < k.horizon
    → IsAdvanceable (arithmetic k.is_exact m.scales) (calls_in k.is_exact m.scales) m k
mode_advanceable m k is stored lt =
    let can = mode_can_refine m is.model k.horizon is.some_step is.horizon k.is_exact is.mode k.front
    is.front lt
    (stage_cells m k is stored lt) in
    record {
      model = is.model;
      zeros = mode_keeps_zero k.is_exact m.scales;
      states = is.states;
      observations = is.observations;
      front = is.front;
      early = lt;
      update = mode_can_update_weights m is.model k.horizon is.some_step is.horizon k.is_exact is.mode;
      reward = mode_can_reward m is.model k.horizon is.some_step is.horizon k.is_exact is.mode;
      steps = mode_steps m is.model k.horizon k.front is.front k.is_exact is.apart;
      classes = λ D p. can.weights D;
      weights = λ D s p q. is.weights lt D s p q;
      earned = is.earned;
      room = λ r e. can.rewards r (chosen_joint_action m k.front) e
          (λ D p. chosen_below m k.horizon k.front is.model is.front D p);
    }

-- made of the scales c, in the branch of a test of the mode where it is e
pub advanceable : (e : Bool) (c : Scales) (m : Model) (k : KeptFront) → IsFrontOf m k → IsStored k
    → k.front.stage < k.horizon
    → c ≡ m.scales → k.is_exact ≡ e
    → IsAdvanceable (arithmetic e c) (calls_in e c) m k
advanceable e c m k is stored lt same branch =
    subst (λ (c : Scales). IsAdvanceable (arithmetic e c) (calls_in e c) m k) (sym same)
    (subst (λ (b : Bool). IsAdvanceable (arithmetic b m.scales) (calls_in b m.scales) m k) branch
    (mode_advanceable m k is stored lt))

-- ---- room

-- before the horizon a front with room has at most 2^22 weights
room_weights : (m : Model) (h : ℕ) (F : Front) → F.stage < h → has_room m h F ≡ true
    → m.states * product (class_counts F.agents) ≤ 2 ^ 22
room_weights m h F lt room =
    elim ((room_is_within m h F).0 room) [
      | inl full ↦ absurd (omega arith)
      | inr cells ↦ cells.0
    ]

-- how many joint classes the advanced front has
advanced_count : (m : Model) (h : ℕ) (F : Front) → IsFront m h F
    → product (class_counts (advanced_front m F).agents) ≡ product
    (class_counts F.agents) * joint_observations m
advanced_count m h F front =
    ap product (counts_are_pairs m h F front)
    ∙ product_pairs (class_counts F.agents) m.observations (as_many_agents front.agents)
    ∙ ap (λ (z : ℕ). product (class_counts F.agents) * z) (sym (seen_product m))

-- so has the advanced front
pub advanced_weights_few : (m : Model) (k : KeptFront) → IsFrontOf m k
    → has_room m k.horizon (advanced_front m k.front) ≡ true
    → suc k.front.stage < k.horizon → product (class_counts k.front.agents) * joint_observations m * m.states
    ≤ 2 ^ 22
advanced_weights_few m k is room early =
    let few = room_weights m k.horizon (advanced_front m k.front) early room in
    let moved = subst (λ (n : ℕ). m.states * n ≤ 2 ^ 22) (advanced_count m k.horizon k.front is.front) few in
    omega arith

-- ---- what is kept of the next stage

module _ (m : Model) (k : KeptFront) (is : IsFrontOf m k) (lt : k.front.stage < k.horizon)
    (all : is_complete k.front.agents ≡ true) (parts : List OwnPart) (ws : List Span) (earned : Span)
    (fronts_are : part_fronts parts ≡ advanced_agents m.observations k.front.stage k.front.agents)
    (seen_are : part_observations parts ≡ m.observations)
    (past_are : part_past parts ≡ past_after k.front.agents k.past) where
  abbrev A : Arithmetic
  A = arithmetic k.is_exact m.scales

  abbrev G : Front
  G = advanced_front m k.front

  abbrev next : KeptFront
  next = kept_front k.horizon k.is_exact k.states (suc k.front.stage) parts ws earned

  pub next_front : next.front ≡ G
  next_front = λ j. record { stage = suc k.front.stage; agents = fronts_are j }

  -- how many joint classes there are
  pub next_count : product (class_counts next.front.agents) ≡ product
      (class_counts k.front.agents) * joint_observations m
  next_count =
      ap (λ l. product (class_counts l)) fronts_are ∙ advanced_count m k.horizon k.front is.front

  module _ (room : suc k.front.stage < k.horizon → product (class_counts k.front.agents) * joint_observations
      m * m.states ≤ 2 ^ 22) (rows : suc k.front.stage < k.horizon
      → ws ≡ weight_rows (class_weight_in A m G) m.states (product
      (class_counts k.front.agents) * joint_observations m))
      (earned_is : earned ≡ earned_reward_in A m (fixed_joint_action m G) k.horizon (suc k.front.stage)) where
    next_weights : suc k.front.stage < k.horizon → (C s : ℕ) → C < product (class_counts next.front.agents)
        → s < m.states
        → kept_weight next C s ≡ class_weight_in A m next.front C s
    next_weights early C s hC hs =
        ap (λ (n : ℕ). get_or ws (C * n + s) (point (pos 0))) is.states
        ∙ ap (λ l. get_or l (C * m.states + s) (point (pos 0))) (rows early)
        ∙ rows_at (class_weight_in A m G) m.states (product (class_counts
        k.front.agents) * joint_observations m)
        C s (point (pos 0)) (subst (λ (n : ℕ). C < n) next_count hC) hs
        ∙ ap (λ (z : Front). class_weight_in A m z C s) (sym next_front)

    pub next_kept : IsFrontOf m next
    next_kept = record {
      model = is.model;
      some_step = is.some_step;
      horizon = is.horizon;
      mode = is.mode;
      states = is.states;
      observations = seen_are;
      front = subst (λ (z : Front). IsFront m k.horizon z) (sym next_front)
          (advanced_is_front m k.horizon k.front is.front lt all);
      apart = λ e. subst (λ (z : Front). KeepsHistoriesApart m z) (sym next_front)
          (advanced_keeps_apart m k.front (is.apart e));
      weights = next_weights;
      earned = earned_is ∙ ap (λ (z : Front). earned_reward_in A m (fixed_joint_action m z) k.horizon z.stage)
          (sym next_front);
    }

    pub next_stored : IsStored k → IsStored next
    next_stored stored =
        let as_many : length next.past ≡ length k.front.agents = ap length past_are
        ∙ after_length k.front.agents k.past stored.past_agents in
        let agents = length-map parts (λ (p : OwnPart). p.front) in
        let parts_many = length-map parts (λ (p : OwnPart). p.past) in record {
          agents = let n = sym (agents_of next_kept.front.agents) in let alike = is.model.sizes.agents_limit in
              omega arith;
          limit = lt;
          room = λ early. let le = room early in rw (next_count, is.states) le;
          weights = λ early. ap length (rows early) ∙ rows_length (class_weight_in A m G) m.states _
              ∙ (λ j. sym next_count j * sym is.states j);
          past_agents = omega arith;
          past_stages = subst (λ (z : List (List PastClasses)). (i : ℕ) → i < length z
              → length (get_or z i []) ≡ suc k.front.stage) (sym past_are)
              (after_stages k.front.stage k.front.agents k.past stored.past_agents stored.past_stages);
          past_room = subst (λ (z : List (List PastClasses)). (t : ℕ) → t < suc k.front.stage
              → product (past_counts z t) * k.states ≤ 2 ^ 22) (sym past_are)
              (after_room k.front.stage k.states (2 ^ 22) k.front.agents k.past stored.past_agents stored.past_stages
              stored.past_room (stored.room lt));
        }
