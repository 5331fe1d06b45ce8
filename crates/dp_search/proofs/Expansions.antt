-- What a planner's step keeps.
use Rattle.std.proofs.Common.{◌≡◌, ℕ, zero, suc, ◌+◌, ◌<◌, ◌≤◌, Bool, true, false, ℤ, List, [], ◌∷◌, ◌++◌, map, All}
use Rattle.std.proofs.Common.{length, get_or, add-one, refl, sym, ap, subst, ◌∙◌, arith}
use Rattle.std.proofs.Common.{max}
use Rattle.std.specs.List.{range_with_len}
use Rattle.std.proofs.lemmas.List.{length-map, map-append}
use Rattle.std.specs.Prelude.{IfOk, IfSome, IsTrue, Option, Some, Result, Ok, Err}
use Rattle.std.proofs.lemmas.List.Elements.{All-append}
use Rattle.std.proofs.lemmas.List.FromFn.{length-map-range_with_len}
use Rattle.dp_laws.proofs.FrontRoom.{merging_keeps_room}
use Rattle.dp_laws.proofs.Leaves.{some_action}
use Rattle.dp_laws.proofs.Modes.{arithmetic_says}
use Rattle.dp_spec.specs.Arithmetic.{Arithmetic, arithmetic, outward}
use Rattle.dp_spec.specs.Fitting.{front_bound}
use Rattle.dp_spec.specs.Front.{Front}
use Rattle.dp_spec.specs.Merge.{merged_front}
use Rattle.dp_spec.specs.Mode.{is_exact_mode}
use Rattle.dp_spec.specs.Model.{Model}
use Rattle.dp_spec.specs.Qualities.{HasNoEquivalent, Place, places_of}
use Rattle.dp_spec.specs.Space.{Space}
use Rattle.dp_spec.specs.WholeTree.{HasChildren}
use Rattle.dp_spec.specs.FrontSpace.{IsAllowed, IsPicked, fronts_after}
use Rattle.dp_spec.specs.declared.scales.Scales.{Scales}
use Rattle.dp_spec.specs.declared.step.Step.{Step}
use Rattle.dp_spec.specs.declared.step.Step.TheVariants.{Branch, Merge}
use Rattle.dp_model.specs.Horizons.{fit_of}
use Rattle.dp_spec.specs.Pairs.{IsPair}
use Rattle.dp_spec.specs.Steps.{IsUnassigned, chosen_front, front_after_choice, is_complete}
use Rattle.dp_spec.specs.WellFormed.{IsFront}
use Rattle.dp_spec.specs.Wide.{has_room}
use Rattle.dp_cluster.specs.KeptFronts.{IsFrontOf, KeptFront}
use Rattle.dp_search.specs.declared.options.PlanOpts.{PlanOpts}
use Rattle.dp_search.specs.declared.planner.Child.{Child}
use Rattle.dp_search.specs.declared.planner.Expanded.{Expanded}
use Rattle.dp_search.specs.declared.held_front.HeldFront.{HeldFront}
use Rattle.dp_search.specs.Expansions.{IsChild, mode_bound}
use Rattle.dp_search.specs.HeldFronts.{IsExpansion, IsHeldChild, front_meant}
use Rattle.dp_search.specs.FrontPlanners.{IsPlannerFront, planner_space, widest}
use Rattle.dp_search.proofs.PlaceLists.{below_more}
use Rattle.dp_search.proofs.UnfinishedFronts.{after_choice_unfinished, merged_unfinished, same_stage_chosen}

-- the bound of a kept front in its own mode
pub own_mode : (m : Model) (h look : ℕ) (k : KeptFront) → IsPlannerFront m h k
    → front_bound (arithmetic k.is_exact m.scales) m k.horizon look k.front ≡ mode_bound m h look k.front
own_mode m h look k is =
    ap (λ e. front_bound (arithmetic e m.scales) m k.horizon look k.front) is.of_model.mode
    ∙ ap (λ (n : ℕ). mode_bound m n look k.front) is.horizon

module _ (m : Model) (h look : ℕ) (k : KeptFront) (is : IsPlannerFront m h k) (lt : k.front.stage < h) where
  -- after a merge
  module _ (i a b : ℕ) (pair : IsPair m k.front i a b) (next : KeptFront)
      (merged : next.front ≡ merged_front k.front i a b) (of_model : IsFrontOf m next)
      (horizon : next.horizon ≡ k.horizon) where
    pub merged_of_planner : IsPlannerFront m h next
    merged_of_planner = record {
      of_model = of_model;
      horizon = horizon ∙ is.horizon;
      room = ap (has_room m h) merged ∙ merging_keeps_room m h k.front i a b pair.second is.room;
    }

    pub merged_is_child : (x : ℤ) → x ≡ mode_bound m h look next.front
        → IsChild m h look (record { front = next; bound = x })
    merged_is_child x bound = record {
      of_planner = merged_of_planner;
      unfinished = λ early. ap (λ (G : Front). is_complete G.agents) merged
          ∙ merged_unfinished k.front i a b pair.order pair.first pair.second;
      bound = bound;
    }

  -- after a choice
  module _ (i c a : ℕ) (next : KeptFront) (after : next.front ≡ front_after_choice m k.front i c a)
      (next_is : IsPlannerFront m k.horizon next) where
    pub next_of_planner : IsPlannerFront m h next
    next_of_planner = subst (λ (n : ℕ). IsPlannerFront m n next) is.horizon next_is

    pub next_is_child : (x : ℤ) → x ≡ mode_bound m h look next.front
        → IsChild m h look (record { front = next; bound = x })
    next_is_child x bound = record {
      of_planner = next_of_planner;
      unfinished = λ early. ap (λ (G : Front). is_complete G.agents) after
          ∙ after_choice_unfinished m k.horizon k.front i c a next_is.of_model.model
          (subst (IsFront m k.horizon) after (subst (λ (n : ℕ). IsFront m n next.front) next_is.horizon
          next_is.of_model.front));
      bound = bound;
    }

    pub chosen_is_next : next.front.stage ≡ k.front.stage → chosen_front k.front i c a ≡ next.front
    chosen_is_next same =
        let stage : (front_after_choice m k.front i c a).stage ≡ k.front.stage =
        sym (ap (λ (G : Front). G.stage) after) ∙ same in
        sym (after ∙ same_stage_chosen m k.front i c a stage)

-- ---- how many children there are

first_le : (a b : ℕ) → a ≤ max a b
first_le a b = omega arith

second_le : (a b n : ℕ) → n ≤ b → n ≤ max a b
second_le a b n le = omega arith

pub within_widest : (ns : List ℕ) (i : ℕ) → get_or ns i 0 ≤ widest ns
within_widest [] i = omega arith
within_widest (n ∷ ns) zero = first_le n (widest ns)
within_widest (n ∷ ns) (suc i) = second_le n (widest ns) (get_or ns i 0) (within_widest ns i)

-- ---- one child

pub single : {X : Type 0} (P : X → Type 0) (x : X) → P x → All P (x ∷ [])
single P x holds k d lt = at k lt
  where
    at : (k : ℕ) → k < 1 → P (get_or (x ∷ []) k d)
    at zero lt = holds
    at (suc k) lt = absurd (omega arith)

pub child_more : {X Y : Type 0} (f : X → Y) (g : ℕ → Y) (n : ℕ) (xs : List X) (x : X)
    → map f xs ≡ map g (range_with_len 0 n) → f x ≡ g n
    → map f (xs ++ x ∷ []) ≡ map g (range_with_len 0 (n + 1))
child_more f g n xs x before next =
    map-append f xs (x ∷ []) ∙ (λ j. before j ++ next j ∷ [])
    ∙ sym (map-append g (range_with_len 0 n) (n ∷ []))
    ∙ ap (map g) (sym (below_more n))
    ∙ ap (λ (k : ℕ). map g (range_with_len 0 k)) (sym (add-one n))

pub all_more : {X : Type 0} (P : X → Type 0) (xs : List X) (x : X) → All P xs → P x → All P (xs ++ x ∷ [])
all_more P xs x before next = All-append P xs (x ∷ []) before (single P x next)

-- ---- an expansion of a front

-- exact arithmetic is that of the exact mode
mode_of : (e : Bool) (c : Scales) → IsTrue (arithmetic e c).is_exact → e ≡ true
unfolding outward
mode_of true c exact = refl
mode_of false c exact = exact

module _ (m : Model) (h : ℕ) (opts : PlanOpts) (k : KeptFront) (is : IsPlannerFront m h k)
    (lt : k.front.stage < h) where
  abbrev A : Arithmetic
  A = arithmetic (is_exact_mode m h) m.scales

  same_mode : k.is_exact ≡ is_exact_mode m h
  same_mode = is.of_model.mode ∙ ap (is_exact_mode m) is.horizon

  -- the places of a front in its own mode
  pub own_places : (look : ℕ) → places_of (arithmetic k.is_exact m.scales) m k.horizon look k.front
      ≡ places_of A m h look k.front
  own_places look =
      ap (λ (n : ℕ). places_of (arithmetic k.is_exact m.scales) m n look k.front) is.horizon
      ∙ ap (λ e. places_of (arithmetic e m.scales) m h look k.front) same_mode

  module _ (May : List Place → ℕ → Type 0) (x : Expanded HeldFront) (s : Step) (step : x.step ≡ s)
      (fronts : map (λ (c : Child HeldFront). front_meant m c.front) x.children.items ≡ fronts_after m k.front s)
      (children : All (IsHeldChild m h opts.look opts.merge) x.children.items) where
    abbrev S : Space
    S = planner_space m (fit_of m h) opts May

    as_many : length x.children.items ≡ length (fronts_after m k.front s)
    as_many = sym (length-map x.children.items (λ (c : Child HeldFront). front_meant m c.front))
        ∙ ap (λ l. length l) fronts

    expands : IsAllowed A m h opts.look opts.merge May k.front s → HasChildren s (length x.children.items)
        → length x.children.items ≤ widest m.actions
        → IsExpansion S m h opts.look (widest m.actions) opts.merge k.front x
    expands allowed some few = record {
      of_planner = λ j d lt. (children j d lt).held;
      allowed = subst (S.May k.front) (sym step) allowed;
      fronts = fronts ∙ ap (S.next k.front) (sym step);
      bounds = λ j d lt. (children j d lt).bound;
      some = subst (λ (s : Step). HasChildren s (length x.children.items)) (sym step) some;
      few = few;
    }

  pub branch_expands : (May : List Place → ℕ → Type 0) (x : Expanded HeldFront) (i c : ℕ)
      → x.step ≡ Branch i c
      → map (λ (c : Child HeldFront). front_meant m c.front) x.children.items ≡ fronts_after m k.front (Branch i c)
      → All (IsHeldChild m h opts.look opts.merge) x.children.items → IsUnassigned i c k.front.agents
      → IsPicked May (places_of A m h opts.look k.front) i c
      → (opts.merge ≡ true → is_exact_mode m h ≡ true → HasNoEquivalent m k.front)
      → IsExpansion (planner_space m (fit_of m h) opts May) m h opts.look (widest m.actions) opts.merge k.front x
  branch_expands May x i c step fronts children free picked no_pair =
      let many = as_many May x (Branch i c) step fronts children in
      let own = length-map-range_with_len (front_after_choice m k.front i c) 0 (get_or m.actions i 0) in
      let some = some_action m k.horizon k.front i c is.of_model.model is.of_model.front free in
      let few = within_widest m.actions i in
      expands May x (Branch i c) step fronts children (
        lt,
        free,
        (λ merging exact. no_pair merging (mode_of (is_exact_mode m h) m.scales exact)),
        picked,
      )
      (omega (arith, many, own, some)) (omega (arith, many, own, few))

  pub merge_expands : (May : List Place → ℕ → Type 0) (x : Expanded HeldFront) (i a b : ℕ)
      → x.step ≡ Merge i a b
      → map (λ (c : Child HeldFront). front_meant m c.front) x.children.items ≡ merged_front k.front i a b ∷ []
      → All (IsHeldChild m h opts.look opts.merge) x.children.items → IsPair m k.front i a b → k.is_exact ≡ true
      → opts.merge ≡ true
      → IsExpansion (planner_space m (fit_of m h) opts May) m h opts.look (widest m.actions) opts.merge k.front x
  merge_expands May x i a b step fronts children pair exact merging =
      let one = as_many May x (Merge i a b) step fronts children in
      let some = some_action m k.horizon k.front i a is.of_model.model is.of_model.front pair.first in
      let few = within_widest m.actions i in
      expands May x (Merge i a b) step fronts children (
        lt,
        pair.order,
        pair.first,
        pair.second,
        pair.equivalent,
        arithmetic_says (is_exact_mode m h) m.scales
            (sym same_mode ∙ exact),
        merging,
      ) one (omega (arith, one, some, few))

-- what follows from three facts of an answer
pub if_ok_all : {X E : Type 0} (P Q R T : X → Type 0) → ((x : X) → P x → Q x → R x → T x) → (r : Result X E)
    → IfOk r P → IfOk r Q → IfOk r R → IfOk r T
if_ok_all P Q R T follows (Ok x) p q r = follows x p q r
if_ok_all P Q R T follows (Err e) p q r = tt

-- and of one that there is
pub of_some : {X : Type 0} (P : X → Type 0) (o : Option X) (x : X) → o ≡ Some x → IfSome o P → P x
of_some P o x is fact = subst (λ o. IfSome o P) is fact
