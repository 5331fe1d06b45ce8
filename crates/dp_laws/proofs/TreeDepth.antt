-- On a path of a tree that fits a front there are at most as many inner nodes as own histories.
-- Each choice and each merge leaves one unassigned class less, and an advance opens at most one class for each own
-- history of the next length.
use Rattle.std.proofs.Common.{◌≡◌, inl, inr, ℕ, zero, suc, ◌+◌, ◌-◌, ◌*◌, ◌^◌, ◌<◌, ◌≤◌, Bool, true, false, ℤ, List}
use Rattle.std.proofs.Common.{[], ◌∷◌, length, get_or, set, Option, Some, None, refl, ap, arith}
use Rattle.std.proofs.lemmas.List.{length-replicate}
use Rattle.std.proofs.Math.ListN.{length-set}
use Rattle.std.proofs.Math.Nat.{mul-le-mul_right, pow-suc}
use Rattle.dp_laws.proofs.ClassCounts.{classes_within_histories}
use Rattle.dp_laws.proofs.MergedAgents.{length-without}
use Rattle.dp_laws.proofs.RootFront.{root_is_front}
use Rattle.dp_spec.specs.Arithmetic.{Arithmetic}
use Rattle.dp_spec.specs.BoundTree.{BoundTree, BoundTrees, branch, depth_of, greatest_depth, leaf, merge}
use Rattle.dp_spec.specs.BoundTree.{more_bound_trees, no_bound_trees}
use Rattle.dp_spec.specs.Certificate.{Certificate, FitsRoot, IsValid, arithmetic_for}
use Rattle.dp_spec.specs.Fitting.{FitEachAction, FitsFront}
use Rattle.dp_spec.specs.Front.{AgentFront, Front}
use Rattle.dp_spec.specs.Merge.{merged_agents, merged_front, without}
use Rattle.dp_spec.specs.Mode.{own_history_count}
use Rattle.dp_spec.specs.Model.{IsModel, Model}
use Rattle.dp_spec.specs.Steps.{IsUnassigned, advanced_agent, advanced_agents, advanced_if, all_chosen, chosen_front}
use Rattle.dp_spec.specs.Steps.{front_after_choice, is_complete, root_front, with_choice}
use Rattle.dp_spec.specs.Wide.{is_wide, none_count, unassigned_count}
use Rattle.std.proofs.lemmas.Bool.Decides.{nat_tests}
use Rattle.dp_spec.specs.WellFormed.{AreAgentFronts, IsFront}
use Rattle.dp_spec.specs.WellFormed.AreAgentFronts.{and_agent, no_agents}
use Rattle.std.proofs.lemmas.Bool.{and_parts, cases_lt}

-- ---- how many classes have no action
none_count-set : (os : List (Option ℕ)) (c a : ℕ) → c < length os → get_or os c None ≡ None
    → suc (none_count (set os c (Some a))) ≡ none_count os
none_count-set [] c a h e = absurd (omega arith)
none_count-set (None ∷ os) zero a h e = refl
none_count-set (Some b ∷ os) zero a h e = cc
none_count-set (None ∷ os) (suc c) a h e = ap suc (none_count-set os c a (omega arith) e)
none_count-set (Some b ∷ os) (suc c) a h e = none_count-set os c a (omega arith) e

none_count-without : (os : List (Option ℕ)) (c : ℕ) → c < length os → get_or os c None ≡ None
    → suc (none_count (without c os)) ≡ none_count os
none_count-without [] c h e = absurd (omega arith)
none_count-without (None ∷ os) zero h e = refl
none_count-without (Some b ∷ os) zero h e = cc
none_count-without (None ∷ os) (suc c) h e = ap suc (none_count-without os c (omega arith) e)
none_count-without (Some b ∷ os) (suc c) h e = none_count-without os c (omega arith) e

none_count-le-length : (os : List (Option ℕ)) → none_count os ≤ length os
none_count-le-length [] = omega arith
none_count-le-length (None ∷ os) = omega (arith, none_count-le-length os)
none_count-le-length (Some a ∷ os) = omega (arith, none_count-le-length os)

none_count-chosen : (os : List (Option ℕ)) → all_chosen os ≡ true → none_count os ≡ 0
none_count-chosen [] e = refl
none_count-chosen (None ∷ os) e = cc
none_count-chosen (Some a ∷ os) e = none_count-chosen os e

pub choice_assigns_one : (i c a : ℕ) (ds : List AgentFront) → IsUnassigned i c ds
    → suc (unassigned_count (with_choice i c a ds)) ≡ unassigned_count ds
choice_assigns_one i c a [] free = absurd free
choice_assigns_one zero c a (d ∷ ds) free = omega (arith, none_count-set d.chosen c a free.0 free.1)
choice_assigns_one (suc i) c a (d ∷ ds) free = omega (arith, choice_assigns_one i c a ds free)

pub merge_joins_one : (i a b : ℕ) (ds : List AgentFront) → IsUnassigned i b ds
    → suc (unassigned_count (merged_agents i a b ds)) ≡ unassigned_count ds
merge_joins_one i a b [] free = absurd free
merge_joins_one zero a b (d ∷ ds) free = omega (arith, none_count-without d.chosen b free.0 free.1)
merge_joins_one (suc i) a b (d ∷ ds) free = omega (arith, merge_joins_one i a b ds free)

pub complete_has_none : (ds : List AgentFront) → is_complete ds ≡ true → unassigned_count ds ≡ 0
complete_has_none [] e = refl
complete_has_none (d ∷ ds) e = let both = and_parts (all_chosen d.chosen) (is_complete ds) e in
    omega (arith, none_count-chosen d.chosen both.0, complete_has_none ds both.1)

-- ---- how many own histories there are
-- those of length t
abbrev pub histories_of_length : List ℕ → ℕ → ℕ
histories_of_length [] t = 0
histories_of_length (n ∷ ns) t = n ^ t + histories_of_length ns t

pub shorter_histories : (ns : List ℕ) (t : ℕ)
    → own_history_count ns (suc t) ≡ own_history_count ns t + histories_of_length ns t
shorter_histories [] t = refl
shorter_histories (n ∷ ns) t = omega (arith, shorter_histories ns t)

history_count-le : (ns : List ℕ) (f r h : ℕ) → f + r ≡ h → own_history_count ns f ≤ own_history_count ns h
history_count-le ns f zero h e = let e' : f ≡ h = omega arith in rw e' (omega arith)
history_count-le ns f (suc r) h e = let next = history_count-le ns (suc f) r h (omega arith) in
    omega (arith, shorter_histories ns f)

pub longer_histories : (ns : List ℕ) (f h : ℕ) → f < h → own_history_count ns (suc f) ≤ own_history_count ns h
longer_histories ns f h lt = history_count-le ns (suc f) (h - suc f) h (omega arith)

-- ---- the classes of each agent are at most its own histories of the stage
abbrev pub ClassesWithin : ℕ → List ℕ → List AgentFront → Type 0
ClassesWithin f ns [] = Unit {0}
ClassesWithin f [] (d ∷ ds) = ⊥
ClassesWithin f (n ∷ ns) (d ∷ ds) = (length d.chosen ≤ n ^ f) × ClassesWithin f ns ds

choice_within : (f i c a : ℕ) (ns : List ℕ) (ds : List AgentFront) → ClassesWithin f ns ds
    → ClassesWithin f ns (with_choice i c a ds)
choice_within f i c a ns [] w = tt
choice_within f i c a [] (d ∷ ds) w = absurd w
choice_within f zero c a (n ∷ ns) (d ∷ ds) w = (omega (arith, w.0, length-set d.chosen c (Some a)), w.1)
choice_within f (suc i) c a (n ∷ ns) (d ∷ ds) w = (w.0, choice_within f i c a ns ds w.1)

merge_within : (f i a b : ℕ) (ns : List ℕ) (ds : List AgentFront) → IsUnassigned i b ds → ClassesWithin f ns ds
    → ClassesWithin f ns (merged_agents i a b ds)
merge_within f i a b ns [] free w = tt
merge_within f i a b [] (d ∷ ds) free w = absurd w
merge_within f zero a b (n ∷ ns) (d ∷ ds) free w = (omega (arith, w.0, length-without b d.chosen free.0), w.1)
merge_within f (suc i) a b (n ∷ ns) (d ∷ ds) free w = (w.0, merge_within f i a b ns ds free w.1)

next_classes : (n f : ℕ) (d : AgentFront) → length d.chosen ≤ n ^ f
    → length (advanced_agent n f d).chosen ≤ n ^ suc f
unfolding advanced_agent
next_classes n f d h = let nothing : Option ℕ = None in omega
    (arith, length-replicate (length d.chosen * n) nothing, pow-suc n f, mul-le-mul_right n h)

advance_within : (f : ℕ) (ns : List ℕ) (ds : List AgentFront) → ClassesWithin f ns ds
    → ClassesWithin (suc f) ns (advanced_agents ns f ds)
advance_within f [] [] w = tt
advance_within f (n ∷ ns) [] w = tt
advance_within f [] (d ∷ ds) w = absurd w
advance_within f (n ∷ ns) (d ∷ ds) w = (next_classes n f d w.0, advance_within f ns ds w.1)

pub unassigned_within : (f : ℕ) (ns : List ℕ) (ds : List AgentFront) → ClassesWithin f ns ds
    → unassigned_count ds ≤ histories_of_length ns f
unassigned_within f ns [] w = omega arith
unassigned_within f [] (d ∷ ds) w = absurd w
unassigned_within f (n ∷ ns) (d ∷ ds) w = omega (
  arith,
  w.0,
  none_count-le-length d.chosen,
  unassigned_within f ns ds w.1,
)

-- ---- the depth of a tree below a front
-- d inner nodes on a path from a front are at most its unassigned classes and the longer own histories
abbrev IsDepthBelow : Model → ℕ → Front → ℕ → Type 0
IsDepthBelow m h F d = d + own_history_count m.observations (suc F.stage)
    ≤ unassigned_count F.agents + own_history_count m.observations h

after_advance : (m : Model) (h : ℕ) (F : Front) (t : Bool) → is_complete F.agents ≡ t → F.stage < h
    → ClassesWithin F.stage m.observations F.agents →
    ClassesWithin (advanced_if m F t).stage m.observations (advanced_if m F t).agents
    × ((d : ℕ) → ((advanced_if m F t).stage < h → IsDepthBelow m h (advanced_if m F t) d)
    → (h ≤ (advanced_if m F t).stage → d ≡ 0) → IsDepthBelow m h F d)
after_advance m h F false some lt w = (w, λ d below none. below lt)
after_advance m h F true all lt w =
    let ns = m.observations in
    let f = F.stage in
    let w' = advance_within f ns F.agents w in
    let none = complete_has_none F.agents all in
    let opened = unassigned_within (suc f) ns (advanced_agents ns f F.agents) w' in (
      w',
      λ d below end. elim (cases_lt (suc f) h) [
        | inl lt' ↦ omega (arith, none, opened, below lt', shorter_histories ns (suc f))
        | inr le ↦ omega (arith, end le, longer_histories ns f h lt)
      ],
    )

after_choice : (m : Model) (h i c a : ℕ) (F : Front) → IsUnassigned i c F.agents → F.stage < h
    → ClassesWithin F.stage m.observations F.agents →
    ClassesWithin (front_after_choice m F i c a).stage m.observations (front_after_choice m F i c a).agents
    × ((d : ℕ) → ((front_after_choice m F i c a).stage < h → IsDepthBelow m h (front_after_choice m F i c a) d)
    → (h ≤ (front_after_choice m F i c a).stage → d ≡ 0) → IsDepthBelow m h F (suc d))
unfolding front_after_choice
after_choice m h i c a F free lt w =
    let next = after_advance m h (chosen_front F i c a) (is_complete (with_choice i c a F.agents)) refl lt
    (choice_within F.stage i c a m.observations F.agents w) in
    let one = choice_assigns_one i c a F.agents free in
    (next.0, λ d below none. omega (arith, one, next.1 d below none))

no_inner_node : (A : Arithmetic) (m : Model) (h look above : ℕ) (T : BoundTree) (F : Front) (cap : ℤ)
    → FitsFront A m h look above T F cap → h ≤ F.stage → depth_of T ≡ 0
no_inner_node A m h look above (leaf x) F cap fits le = refl
no_inner_node A m h look above (branch i c Ts) F cap fits le = absurd (omega (arith, fits.0))
no_inner_node A m h look above (merge i a b T) F cap fits le = absurd (omega (arith, fits.0))

mutual
  tree_depth : (A : Arithmetic) (m : Model) (h look above : ℕ) (T : BoundTree) (F : Front) (cap : ℤ)
      → FitsFront A m h look above T F cap → F.stage < h → ClassesWithin F.stage m.observations F.agents
      → IsDepthBelow m h F (depth_of T)
  tree_depth A m h look above (leaf x) F cap fits lt w = omega
      (arith, longer_histories m.observations F.stage h lt)
  tree_depth A m h look above (branch i c Ts) F cap fits lt w = trees_depth A m h look (suc above)
      Ts F i c 0 cap fits.2 fits.1 lt w
  tree_depth A m h look above (merge i a b T) F cap fits lt w =
      let rest = tree_depth A m h look (suc above) T (merged_front F i a b) _ fits.5 lt
      (merge_within F.stage i a b m.observations F.agents fits.3 w) in
      omega (arith, rest, merge_joins_one i a b F.agents fits.3)

  trees_depth : (A : Arithmetic) (m : Model) (h look above : ℕ) (Ts : BoundTrees) (F : Front) (i c a : ℕ)
      (cap : ℤ)
      → FitEachAction A m h look above Ts F i c a cap → IsUnassigned i c F.agents → F.stage < h
      → ClassesWithin F.stage m.observations F.agents →
      IsDepthBelow m h F (suc (greatest_depth Ts))
  trees_depth A m h look above no_bound_trees F i c a cap fits free lt w = omega
      (arith, longer_histories m.observations F.stage h lt, choice_assigns_one i c 0 F.agents free)
  trees_depth A m h look above (more_bound_trees T Ts) F i c a cap fits free lt w =
      let next = after_choice m h i c a F free lt w in
      let first = next.1 (depth_of T) (λ lt'. tree_depth A m h look above T (front_after_choice m F i c a)
      _ fits.0 lt' next.0) (no_inner_node A m h look above T (front_after_choice m F i c a) _ fits.0) in
      let rest = trees_depth A m h look above Ts F i c (suc a) cap fits.1 free lt w in
      omega (arith, first, rest)

pub fronts_within : {f : ℕ} {bs ns : List ℕ} {ds : List AgentFront} → AreAgentFronts f bs ns ds
    → ClassesWithin f ns ds
fronts_within no_agents = tt
fronts_within {f} (and_agent {b = b} {n = n} {d = d} front fronts) =
    (classes_within_histories b n f d front, fronts_within fronts)

-- a path of a tree that fits a well-formed front has at most as many inner nodes as there are own histories from the
-- stage on
pub depth_below : (A : Arithmetic) (m : Model) (h look above : ℕ) (T : BoundTree) (F : Front) (cap : ℤ)
    → IsFront m h F
    → FitsFront A m h look above T F cap
    → depth_of T + own_history_count m.observations F.stage ≤ own_history_count m.observations h
depth_below A m h look above T F cap front fits =
    let ns = m.observations in
    let w = fronts_within front.agents in
    elim (cases_lt F.stage h) [
      | inl lt ↦ omega (
        arith,
        tree_depth A m h look above T F cap fits lt w,
        unassigned_within F.stage ns F.agents w,
        shorter_histories ns F.stage,
      )
      | inr le ↦ omega (
        arith,
        no_inner_node A m h look above T F cap fits le,
        history_count-le ns F.stage (h - F.stage) h (omega (arith, front.stage_limit)),
      )
    ]

-- a path of a tree that fits the root front has at most as many inner nodes as there are own histories
pub root_depth : (A : Arithmetic) (m : Model) (h look : ℕ) (T : BoundTree) → IsModel m → FitsRoot A m h look T
    → depth_of T ≤ own_history_count m.observations h
root_depth A m h look T model fits = omega (
  arith,
  depth_below A m h look 0 T (root_front m) _
      (root_is_front m h model) fits,
)

-- ---- the limit of 2048
-- with 2048 inner nodes above it each node is wide, where a step is left
wide_below : (m : Model) (h above : ℕ) (F : Front) → F.stage < h → is_wide m h above F ≡ false → above < 2048
unfolding is_wide
wide_below m h above F lt narrow = grind (arith, nat_tests)

mutual
  -- below a node with at most 2048 inner nodes above it there are no more than are missing
  depth_above : (A : Arithmetic) (m : Model) (h look above : ℕ) (T : BoundTree) (F : Front) (least : ℤ)
      → FitsFront A m h look above T F least → above ≤ 2048 → above + depth_of T ≤ 2048
  depth_above A m h look above (leaf x) F least fits le = omega arith
  depth_above A m h look above (branch i c Ts) F least fits le =
      let less = wide_below m h above F fits.0 fits.3 in
      let rest = depths_above A m h look (suc above) Ts F i c 0 least fits.2 (omega arith) in omega arith
  depth_above A m h look above (merge i a b T) F least fits le =
      let less = wide_below m h above F fits.0 fits.7 in
      let rest = depth_above A m h look (suc above) T (merged_front F i a b) _ fits.5 (omega arith) in
      omega arith

  -- the same of the trees of a branch
  depths_above : (A : Arithmetic) (m : Model) (h look above : ℕ) (Ts : BoundTrees) (F : Front) (i c a : ℕ)
      (least : ℤ)
      → FitEachAction A m h look above Ts F i c a least → above ≤ 2048 → above + greatest_depth Ts ≤ 2048
  depths_above A m h look above no_bound_trees F i c a least fits le = omega arith
  depths_above A m h look above (more_bound_trees T Ts) F i c a least fits le =
      let first = depth_above A m h look above T (front_after_choice m F i c a) _ fits.0 le in
      let rest = depths_above A m h look above Ts F i c (suc a) least fits.1 le in omega (arith, first, rest)

-- a path of a tree that fits the root front has at most 2048 inner nodes
pub root_depth_limit : (A : Arithmetic) (m : Model) (h look : ℕ) (T : BoundTree) → FitsRoot A m h look T
    → depth_of T ≤ 2048
root_depth_limit A m h look T fits = omega (
  arith,
  depth_above A m h look 0 T (root_front m) _ fits
      (omega arith),
)

-- so a path of a valid certificate's tree has at most 2048 inner nodes
pub valid_depth : (m : Model) (c : Certificate) → IsValid m c → depth_of c.tree ≤ 2048
valid_depth m c valid = root_depth_limit (arithmetic_for m c) m c.horizon c.look c.tree valid.tree
