-- What the steps of a front keep: its model, its mode, its weights and what it has earned.
use Rattle.std.proofs.Common.{◌≡◌, ℕ, ◌+◌, ◌*◌, ◌^◌, ◌<◌, ◌≤◌, Bool, cond, eqb, pos, List, [], ◌∷◌, map, length}
use Rattle.std.proofs.Common.{get_or, set, zero, suc, refl, sym, ap, ◌∙◌, subst, arith}
use Rattle.std.specs.List.{range_with_len}
use Rattle.std.proofs.lemmas.List.{length-map}
use Rattle.std.proofs.lemmas.List.FromFn.{length-map-range_with_len}
use Rattle.dp_spec.specs.declared.span.Span.{Span}
use Rattle.dp_spec.specs.Arithmetic.{Arithmetic, arithmetic, point}
use Rattle.dp_spec.specs.Front.{Front, class_counts, fixed_joint_action, joint_class}
use Rattle.dp_spec.specs.JointNumbers.{product}
use Rattle.dp_spec.specs.Mode.{is_exact_mode}
use Rattle.dp_spec.specs.Model.{IsModel, Model, joint_observations, start_at}
use Rattle.dp_spec.specs.Quantities.{class_weight_in, earned_reward_in, history_weight_in, span_history_sum}
use Rattle.dp_spec.specs.Steps.{IsUnassigned, chosen_front, root_agent, root_front, with_choice}
use Rattle.dp_spec.specs.WellFormed.{IsFront, KeepsHistoriesApart}
use Rattle.dp_laws.proofs.AdvancedFronts.{class_in_range}
use Rattle.dp_laws.proofs.ChosenFronts.{actions_chosen, counts_chosen, joint_class_chosen}
use Rattle.dp_laws.proofs.FrontRoom.{chosen_keeps_apart, root_apart}
use Rattle.dp_laws.proofs.RootFront.{root_is_front}
use Rattle.dp_laws.proofs.WellFormedSteps.{chosen_is_front}
use Rattle.dp_cluster.specs.AgentParts.{OwnPart, root_part}
use Rattle.dp_cluster.specs.KeptFronts.{IsFrontOf, IsStored, KeptFront, kept_front}
use Rattle.dp_cluster.proofs.FrontParts.{as_many_counts, choice_set, field_set, fronts}
use Rattle.dp_cluster.proofs.OwnParts.{chosen_in, made_at}
use Rattle.dp_laws.proofs.SpanSums.{where_same}

-- ---- a choice

module _ (A : Arithmetic) (m : Model) (F : Front) (i c a : ℕ) where
  abbrev G : Front
  G = chosen_front F i c a

  weights_chosen : class_weight_in A m G ≡ class_weight_in A m F
  unfolding class_weight_in
  weights_chosen = λ k C s. span_history_sum (joint_observations m) F.stage
      (λ H. cond (eqb (joint_class_chosen m F i c a k H) C) (history_weight_in A m (actions_chosen m F i c a k)
      H s) (point (pos 0)))

pub chosen_kept : (m : Model) (k : KeptFront) (i c a : ℕ) → IsFrontOf m k → k.front.stage < k.horizon
    → IsUnassigned i c k.front.agents → a < get_or m.actions i 0
    → IsFrontOf m (record k { front = chosen_front k.front i c a })
chosen_kept m k i c a is lt free action =
    let counts = counts_chosen i c a k.front.agents in
    record {
      model = is.model;
      some_step = is.some_step;
      horizon = is.horizon;
      mode = is.mode;
      states = is.states;
      observations = is.observations;
      front = chosen_is_front m k.horizon k.front i c a is.front lt free action;
      apart = λ e. chosen_keeps_apart m k.front i c a (is.apart e);
      weights = λ p C s hC hs.
          is.weights p C s (subst (λ (z : List ℕ). C < product z) counts hC) hs
          ∙ ap (λ (w : ℕ → ℕ → Span). w C s) (sym (weights_chosen (arithmetic k.is_exact m.scales)
          m k.front i c a));
      earned = is.earned ∙ ap (λ (act : List ℕ → ℕ). earned_reward_in (arithmetic k.is_exact m.scales)
          m act k.horizon k.front.stage) (sym (actions_chosen m k.front i c a));
    }

-- what is kept after a choice, from the parts
pub after_assign : (h : ℕ) (e : Bool) (S f : ℕ) (parts parts' : List OwnPart) (ws ws' : List Span) (r : Span)
    (v : KeptFront)
    (i c a : ℕ) (p q : OwnPart) → kept_front h e S f parts ws r ≡ v → i < length parts → p ≡ get_or parts i p
    → q ≡ chosen_in p c a → parts' ≡ set parts i q → ws' ≡ ws
    → kept_front h e S f parts' ws' r ≡ record v { front = chosen_front v.front i c a }
after_assign h e S f parts parts' ws ws' r v i c a p q is lt read new parts_are weights =
    let list : parts' ≡ set parts i (chosen_in p c a) = parts_are ∙ ap (set parts i) new in
    let seen = ap (map (λ (z : OwnPart). z.observations)) list
    ∙ field_set (λ (z : OwnPart). z.observations) parts i p (chosen_in p c a) lt read refl in
    let past = ap (map (λ (z : OwnPart). z.past)) list
    ∙ field_set (λ (z : OwnPart). z.past) parts i p (chosen_in p c a) lt read refl in
    let agents = ap fronts list ∙ choice_set parts i c a p lt read in
    (λ j. record {
      horizon = h;
      is_exact = e;
      states = S;
      observations = seen j;
      front = record { stage = f; agents = agents j };
      past = past j;
      weights = weights j;
      earned = r;
    })
    ∙ ap (λ (w : KeptFront). record w { front = chosen_front w.front i c a }) is

pub stored_chosen : (k : KeptFront) (i c a : ℕ) → IsStored k
    → IsStored (record k { front = chosen_front k.front i c a })
stored_chosen k i c a s =
    let counts = counts_chosen i c a k.front.agents in
    let as_many : length (with_choice i c a k.front.agents) ≡ length k.front.agents =
    sym (as_many_counts (with_choice i c a k.front.agents)) ∙ ap length counts ∙ as_many_counts k.front.agents in
    record {
      agents = let le = s.agents in omega arith;
      limit = s.limit;
      room = λ lt. subst (λ (z : List ℕ). product z * k.states ≤ 2 ^ 22) (sym counts) (s.room lt);
      weights = λ lt. s.weights lt ∙ ap (λ (z : List ℕ). product z * k.states) (sym counts);
      past_agents = s.past_agents ∙ sym as_many;
      past_stages = s.past_stages;
      past_room = s.past_room;
    }

-- ---- the root

one_class_each : (bs : List ℕ) → product (class_counts (map (λ n. root_agent) bs)) ≡ 1
one_class_each [] = refl
one_class_each (b ∷ bs) = let rest = one_class_each bs in omega arith

root_product : (m : Model) → product (class_counts (root_front m).agents) ≡ 1
unfolding root_front
root_product m = one_class_each m.actions

root_joint : (m : Model) (h C : ℕ) → IsModel m → C < product (class_counts (root_front m).agents)
    → joint_class m (root_front m) [] ≡ C
unfolding root_front
root_joint m h C is lt =
    let in_range = class_in_range m h (root_front m) (root_is_front m h is) [] tt in
    let one = root_product m in omega arith

root_weight : (A : Arithmetic) (m : Model) (h C s : ℕ) → IsModel m
    → C < product (class_counts (root_front m).agents)
    → class_weight_in A m (root_front m) C s ≡ A.start (start_at m s)
unfolding class_weight_in root_front
root_weight A m h C s is lt = ap (λ (z : ℕ). cond (eqb z C) (A.start (start_at m s)) (point (pos 0)))
    (root_joint m h C is lt) ∙ where_same C (A.start (start_at m s)) _

root_earned : (A : Arithmetic) (m : Model) (h : ℕ) → point (pos 0)
    ≡ earned_reward_in A m (fixed_joint_action m (root_front m)) h (root_front m).stage
unfolding root_front
root_earned A m h = refl

same_agents : (bs ns : List ℕ) → length ns ≡ length bs → map (λ (p : OwnPart). p.front) (map root_part ns)
    ≡ map (λ n. root_agent) bs
same_agents [] [] e = refl
same_agents [] (n ∷ ns) e = absurd (omega arith)
same_agents (b ∷ bs) [] e = absurd (omega arith)
same_agents (b ∷ bs) (n ∷ ns) e = ap (λ l. root_agent ∷ l) (same_agents bs ns (omega arith))

same_seen : (ns : List ℕ) → map (λ (p : OwnPart). p.observations) (map root_part ns) ≡ ns
same_seen [] = refl
same_seen (n ∷ ns) = ap (λ l. n ∷ l) (same_seen ns)

pub root_front_is : (m : Model) → IsModel m → (parts : List OwnPart) → parts ≡ map root_part m.observations
    → record { stage = 0; agents = map (λ (p : OwnPart). p.front) parts } ≡ root_front m
unfolding root_front
root_front_is m is parts e =
    let agents = ap (map (λ (p : OwnPart). p.front)) e ∙ same_agents m.actions m.observations is.sizes.alike in
    λ j. record { stage = 0; agents = agents j }

module _ (m : Model) (is : IsModel m) (h : ℕ) (some : 0 < h) (limit : h ≤ 24) (e : Bool)
    (mode : e ≡ is_exact_mode m h) (S : ℕ) (states : S ≡ m.states) (parts : List OwnPart)
    (are : parts ≡ map root_part m.observations) (ws : List Span)
    (weights : ws ≡ map (λ s. (arithmetic e m.scales).start (start_at m s)) (range_with_len 0 m.states)) where
  abbrev k : KeptFront
  k = kept_front h e S 0 parts ws (point (pos 0))

  front_is : k.front ≡ root_front m
  front_is = root_front_is m is parts are

  root_weights : (F : Front) → F ≡ root_front m → (C s : ℕ) → C < product (class_counts F.agents) → s < m.states
      → get_or ws (C * S + s) (point (pos 0)) ≡ class_weight_in (arithmetic e m.scales) m F C s
  root_weights F same C s hC hs =
      let hC' : C < product (class_counts (root_front m).agents) = subst
      (λ (z : Front). C < product (class_counts z.agents)) same hC in
      let none : C ≡ 0 = let one = root_product m in omega arith in
      let place : C * S + s ≡ s = rw none (omega arith) in
      ap (λ (p : ℕ). get_or ws p (point (pos 0))) place ∙ ap (λ l. get_or l s (point (pos 0))) weights
      ∙ made_at m.states s (point (pos 0)) (λ s. (arithmetic e m.scales).start (start_at m s)) hs
      ∙ sym (root_weight (arithmetic e m.scales) m h C s is hC')
      ∙ ap (λ (z : Front). class_weight_in (arithmetic e m.scales) m z C s) (sym same)

  pub root_kept : IsFrontOf m k
  root_kept = record {
    model = is;
    some_step = some;
    horizon = limit;
    mode = mode;
    states = states;
    observations = ap (map (λ (p : OwnPart). p.observations)) are ∙ same_seen m.observations;
    front = subst (λ (F : Front). IsFront m h F) (sym front_is) (root_is_front m h is);
    apart = λ x. subst (λ (F : Front). KeepsHistoriesApart m F) (sym front_is) (root_apart m);
    weights = λ lt C s hC hs. root_weights k.front front_is C s hC hs;
    earned = root_earned (arithmetic e m.scales) m h ∙ ap (λ (F : Front). earned_reward_in
        (arithmetic e m.scales)
        m (fixed_joint_action m F) h F.stage) (sym front_is);
  }

  pub root_stored : IsStored k
  root_stored = record {
    agents = let n = ap (λ l. length (map (λ (p : OwnPart). p.front) l)) are
        ∙ length-map (map root_part m.observations) (λ (p : OwnPart). p.front)
        ∙ length-map m.observations root_part in let alike = is.sizes.alike in let le = is.sizes.agents_limit in
        omega arith;
    limit = omega arith;
    room = λ lt.
        let one : product (class_counts k.front.agents) ≡ 1 = ap
        (λ (F : Front). product (class_counts F.agents))
        front_is ∙ root_product m in
        let few = is.sizes.states_limit in rw one (omega arith);
    weights = λ lt.
        let one : product (class_counts k.front.agents) ≡ 1 = ap
        (λ (F : Front). product (class_counts F.agents))
        front_is ∙ root_product m in
        ap length weights ∙ length-map-range m.states ∙ sym states ∙ rw one (omega arith);
    past_agents = length-map parts (λ (p : OwnPart). p.past) ∙ sym (length-map parts (λ (p : OwnPart). p.front));
    past_stages = λ i lt. ap (λ l. length (get_or (map (λ (p : OwnPart). p.past) l) i [])) are
        ∙ none_yet m.observations i;
    past_room = λ t lt. absurd (omega arith);
  }
    where
      none_yet : (ns : List ℕ) (i : ℕ) → length (get_or (map (λ (p : OwnPart). p.past) (map root_part ns)) i []) ≡ 0
      none_yet [] i = refl
      none_yet (n ∷ ns) zero = refl
      none_yet (n ∷ ns) (suc i) = none_yet ns i

      length-map-range : (n : ℕ) → length (map (λ s. (arithmetic e m.scales).start (start_at m s))
          (range_with_len 0 n)) ≡ n
      length-map-range n = length-map-range_with_len (λ s. (arithmetic e m.scales).start (start_at m s)) 0 n
