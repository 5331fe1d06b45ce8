-- The choice of the one class without an action, and the front after it.
use Rattle.std.proofs.Common.{◌≡◌, ℕ, zero, suc, ◌+◌, ◌*◌, ◌<◌, ◌≤◌, Bool, true, false, List, [], ◌∷◌, length, get_or}
use Rattle.std.proofs.Common.{drop, Option, None, Some, add-one, length-append, refl, sym, ap, subst, ◌∙◌, arith}
use Rattle.std.specs.Prelude.{◌==◌, ◌||◌, is_none, is_some, not, nat_lt, replicate, IfSome}
use Rattle.std.specs.List.{flat_map, range_with_len}
use Rattle.std.proofs.lemmas.Bool.Decides.{nat_tests}
use Rattle.std.proofs.lemmas.List.{length-replicate}
use Rattle.dp_laws.proofs.ChosenFronts.{counts_chosen}
use Rattle.dp_laws.proofs.TreeDepth.{choice_assigns_one}
use Rattle.dp_laws.proofs.WellFormedSteps.{advanced_is_front, chosen_is_front}
use Rattle.dp_spec.proofs.JointNumberLaws.{positive_left, positive_right}
use Rattle.dp_spec.specs.Arithmetic.{Arithmetic}
use Rattle.dp_spec.specs.Front.{AgentFront, Front, class_counts}
use Rattle.dp_spec.specs.JointNumbers.{product}
use Rattle.dp_spec.specs.Mode.{is_exact_mode}
use Rattle.dp_spec.specs.Model.{Model}
use Rattle.dp_spec.specs.Qualities.{chosen_of, places_of}
use Rattle.dp_spec.specs.Steps.{IsUnassigned, advanced_agent, advanced_agents, advanced_front, all_chosen}
use Rattle.dp_spec.specs.Steps.{chosen_front, front_after_choice, is_complete, with_choice}
use Rattle.dp_spec.specs.WellFormed.{IsFront}
use Rattle.dp_spec.specs.Wide.{has_room, is_room, is_wide, none_count, unassigned_count}
use Rattle.dp_cluster.proofs.AdvancedParts.{some_class}
use Rattle.dp_cluster.proofs.ChosenActions.{agents_of}
use Rattle.dp_cluster.proofs.WideFronts.{counted_agent, counted_agents, counted_all, counted_none, counted_one}
use Rattle.dp_cluster.proofs.WideFronts.{not_last}
use Rattle.dp_cluster.specs.KeptFronts.{KeptFront}
use Rattle.dp_game.proofs.AdvancedLook.{chosen_look}
use Rattle.dp_search.specs.declared.held_front.HeldFront.{HeldFront}
use Rattle.dp_search.specs.Expansions.{mode_bound}
use Rattle.dp_search.specs.FrontPlaces.{agent_places_of, place_at, places_below}
use Rattle.dp_search.specs.FrontPlanners.{IsPlannerFront}
use Rattle.dp_search.specs.HeldFronts.{IsHeldFront, front_meant}
use Rattle.dp_search.specs.LastChoices.{IsLastStep}
use Rattle.dp_search.specs.Paths.{IsPath}
use Rattle.dp_search.proofs.FrontSteps.{after_complete}
use Rattle.dp_search.proofs.PlaceLists.{agent_more, place_more, place_skipped}
use Rattle.dp_search.proofs.UnfinishedFronts.{after_choice_unfinished}

-- ---- a front has a place for each class without an action

module _ (A : Arithmetic) (m : Model) (h look : ℕ) (F : Front) where
  below_more : (i n : ℕ) → n < length (chosen_of F i) → (o : Option ℕ) → get_or (chosen_of F i) n None ≡ o
      → length (places_below A m h look F i n) + none_count (drop n (chosen_of F i)) ≡ none_count (chosen_of F i)
      → length (places_below A m h look F i (suc n)) + none_count (drop (suc n) (chosen_of F i))
      ≡ none_count (chosen_of F i)
  below_more i n lt None at before =
      let many = ap (λ l. length l) (place_more A m h look F i n at) in
      let both = length-append (places_below A m h look F i n) (place_at A m h look F i n ∷ []) in
      let next = counted_one (chosen_of F i) n (length (places_below A m h look F i n))
      (none_count (chosen_of F i)) lt (ap (λ o. is_none o) at) before in
      let step = ap (λ z. none_count (drop z (chosen_of F i))) (add-one n) in
      omega (arith, many, both, next, step)
  below_more i n lt (Some a) at before =
      let same = ap (λ l. length l) (place_skipped A m h look F i n a at) in
      let next = counted_none (chosen_of F i) n (length (places_below A m h look F i n))
      (none_count (chosen_of F i)) lt (ap (λ o. is_none o) at) before in
      let step = ap (λ z. none_count (drop z (chosen_of F i))) (add-one n) in
      omega (arith, same, next, step)

  below_counted : (i n : ℕ) → n ≤ length (chosen_of F i)
      → length (places_below A m h look F i n) + none_count (drop n (chosen_of F i)) ≡ none_count (chosen_of F i)
  below_counted i zero le = omega arith
  below_counted i (suc n) le =
      below_more i n (omega arith) (get_or (chosen_of F i) n None) refl (below_counted i n (omega arith))

  agent_counted : (i : ℕ) → length (agent_places_of A m h look F i) ≡ none_count (chosen_of F i)
  agent_counted i =
      counted_all (chosen_of F i) (length (chosen_of F i)) (length (agent_places_of A m h look F i))
      (none_count (chosen_of F i)) (omega arith) (below_counted i (length (chosen_of F i)) (omega arith))

  agents_counted : (n : ℕ) → n ≤ length F.agents
      → length (flat_map (agent_places_of A m h look F) (range_with_len 0 n)) + unassigned_count (drop n F.agents)
      ≡ unassigned_count F.agents
  agents_counted zero le = omega arith
  agents_counted (suc n) le =
      let before = flat_map (agent_places_of A m h look F) (range_with_len 0 n) in
      let many = ap (λ l. length l) (agent_more A m h look F n) in
      let both = length-append before (agent_places_of A m h look F n) in
      let next = counted_agent F.agents n (length before) (unassigned_count F.agents)
      (length (agent_places_of A m h look F n)) (omega arith) (agent_counted n)
      (agents_counted n (omega arith)) in
      let step = ap (λ z. unassigned_count (drop z F.agents)) (add-one n) in
      omega (arith, many, both, next, step)

  pub places_counted : length (places_of A m h look F) ≡ unassigned_count F.agents
  places_counted =
      counted_agents F.agents (length F.agents) (length (places_of A m h look F)) (unassigned_count F.agents)
      (omega arith) (agents_counted (length F.agents) (omega arith))

-- ---- the choice for the last of them completes a front

all_given : (os : List (Option ℕ)) → none_count os ≡ 0 → all_chosen os ≡ true
all_given [] e = refl
all_given (None ∷ os) e = absurd (omega arith)
all_given (Some a ∷ os) e = all_given os e

none_left_complete : (ds : List AgentFront) → unassigned_count ds ≡ 0 → is_complete ds ≡ true
none_left_complete [] e = refl
none_left_complete (d ∷ ds) e =
    rw (all_given d.chosen (omega arith)) (none_left_complete ds (omega arith))

pub last_completes : (ds : List AgentFront) (i c a : ℕ) → unassigned_count ds ≡ 1 → IsUnassigned i c ds
    → is_complete (with_choice i c a ds) ≡ true
last_completes ds i c a one free =
    none_left_complete (with_choice i c a ds) (omega (arith, choice_assigns_one i c a ds free, one))

-- a choice keeps room
pub chosen_room : (m : Model) (h : ℕ) (F : Front) (i c a : ℕ) → has_room m h (chosen_front F i c a) ≡ has_room m h F
unfolding has_room
chosen_room m h F i c a = ap (λ (ns : List ℕ). F.stage == h || is_room m (product ns)) (counts_chosen i c a F.agents)

-- ---- after an advance each agent has a class without an action

all_none : (n : ℕ) → none_count (replicate n None) ≡ n
all_none zero = refl
all_none (suc n) = ap suc (all_none n)

advanced_many : (f : ℕ) (ns : List ℕ) (ds : List AgentFront)
    → 0 < product (class_counts (advanced_agents ns f ds))
    → length (advanced_agents ns f ds) ≤ unassigned_count (advanced_agents ns f ds)
unfolding advanced_agent
advanced_many f [] ds some = omega arith
advanced_many f (n ∷ ns) [] some = omega arith
advanced_many f (n ∷ ns) (d ∷ ds) some =
    let nothing : Option ℕ = None in
    let k = length d.chosen * n in
    let own = length (replicate k nothing) in
    let others = product (class_counts (advanced_agents ns f ds)) in
    omega (
      arith,
      positive_left own others 0 some,
      length-replicate k nothing,
      all_none k,
      advanced_many f ns ds (positive_right own others 0 some),
    )

-- nothing is to be shown of what is not there
if_none : {X : Type 0} (P : X → Type 0) (o : Option X) → o ≡ None → IfSome o P
if_none P o none = subst (λ o. IfSome o P) (sym none) tt

-- ---- the front after it

not_one : (n : ℕ) → 2 ≤ n → (n == 1) ≡ false
not_one n le = grind (arith, nat_tests)

before_end : (f h : ℕ) → f < h → false ≡ not (nat_lt f h)
before_end f h lt = grind (arith, nat_tests)

module _ (m : Model) (h look : ℕ) (k : KeptFront) (is : IsPlannerFront m h k) (last : IsLastStep look k)
    (some_look : 0 < look) (i c a : ℕ) (free : IsUnassigned i c k.front.agents)
    (action : a < get_or m.actions i 0) where
  abbrev F : Front
  F = k.front

  front : IsFront m h F
  front = subst (λ (n : ℕ). IsFront m n F) is.horizon is.of_model.front

  step : suc F.stage < h
  step = subst (λ (n : ℕ). suc F.stage < n) is.horizon last.step

  complete : is_complete (with_choice i c a F.agents) ≡ true
  complete = last_completes F.agents i c a last.last free

  exact : is_exact_mode m h ≡ true
  exact = sym (is.of_model.mode ∙ ap (is_exact_mode m) is.horizon) ∙ last.exact

  after : front_after_choice m F i c a ≡ advanced_front m (chosen_front F i c a)
  after = after_complete m F i c a complete

  next : IsFront m h (advanced_front m (chosen_front F i c a))
  next = advanced_is_front m h (chosen_front F i c a) (chosen_is_front m h F i c a front (omega (arith, step)) free
      action) (omega (arith, step)) complete

  -- the bound is that of the deeper look before the advance
  pub deeper_is : mode_bound m h look (front_after_choice m F i c a)
      ≡ mode_bound m h (suc look) (chosen_front F i c a)
  deeper_is = chosen_look m is.of_model.model h look F front exact i c a free action complete step some_look

  next_early : (front_after_choice m F i c a).stage < h
  next_early = subst (λ (G : Front). G.stage < h) (sym after) step

  next_narrow : false ≡ is_wide m h 0 (front_after_choice m F i c a)
  next_narrow =
      let G = advanced_front m (chosen_front F i c a) in
      let some = some_class m h G is.of_model.model next in
      let as_many = agents_of next.agents in
      let before = agents_of front.agents in
      let many = advanced_many F.stage m.observations (with_choice i c a F.agents) some in
      not_last m h 0 G (omega arith)
      (not_one (unassigned_count G.agents) (omega (arith, as_many, before, many, last.agents)))
      ∙ ap (is_wide m h 0) (sym after)

  -- held without being made
  pub last_held : (merging : Bool) (s : HeldFront) → front_meant m s ≡ front_after_choice m F i c a
      → IsPath m h merging s.path.value → s.full ≡ None → s.wide ≡ false
      → s.bound ≡ mode_bound m h look (front_after_choice m F i c a) → IsHeldFront m h look merging s
  last_held merging s meant path none wide bound =
      let back = sym meant in
      record {
        path = path;
        unfinished = λ early. ap (λ (G : Front). is_complete G.agents) meant
            ∙ after_choice_unfinished m h F i c a is.of_model.model (subst (IsFront m h) (sym after) next);
        is_full = ap is_some none ∙ before_end _ h next_early ∙ ap (λ (G : Front). not (nat_lt G.stage h)) back;
        full = if_none _ s.full none;
        same = if_none _ s.full none;
        wide = wide ∙ next_narrow ∙ ap (is_wide m h 0) back;
        bound = bound ∙ ap (mode_bound m h look) back;
      }
