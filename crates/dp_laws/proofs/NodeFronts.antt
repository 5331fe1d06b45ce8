-- The fronts of the nodes of a tree that fits: what every step keeps holds of all of them.
use Rattle.std.proofs.Common.{◌≡◌, inl, inr, ℕ, zero, suc, ◌+◌, ◌-◌, ◌*◌, ◌^◌, ◌<◌, ◌≤◌, Bool, true, false, ◌&&◌}
use Rattle.std.proofs.Common.{◌||◌, eqb, IsTrue, ℤ, pos, List, [], ◌∷◌, map, length, get_or, Option, Some, None, refl}
use Rattle.std.proofs.Common.{sym, ap, ◌∙◌, arith}
use Rattle.std.specs.Prelude.{All, nat_le, nat_lt}
use Rattle.std.specs.Int.{int_min}
use Rattle.std.proofs.lemmas.Bool.{cases_lt}
use Rattle.std.proofs.lemmas.Bool.Decides.{nat_tests}
use Rattle.std.proofs.lemmas.List.Elements.{All-append, All-from_recursion}
use Rattle.std.proofs.Math.Nat.{mul-le-mul, mul-le-mul_left, mul-le-mul_right, one-le-pow, pow-le-pow_right, pow-suc}
use Rattle.std.proofs.Math.Nat.{pow-zero}
use Rattle.std.proofs.lemmas.Nat.{mul-pow}
use Rattle.dp_laws.proofs.ClassCounts.{classes_within_histories}
use Rattle.dp_laws.proofs.FrontRoom.{after_choice_apart, choice_keeps_room, merging_keeps_room, root_apart}
use Rattle.dp_laws.proofs.FrontRoom.{root_has_room}
use Rattle.dp_laws.proofs.Leaves.{actions_left}
use Rattle.dp_laws.proofs.MergedAgents.{get_or-without_below, length-without}
use Rattle.dp_laws.proofs.RootFront.{root_is_front}
use Rattle.dp_laws.proofs.TreeDepth.{choice_assigns_one, complete_has_none, fronts_within, histories_of_length}
use Rattle.dp_laws.proofs.TreeDepth.{longer_histories, merge_joins_one, shorter_histories, unassigned_within}
use Rattle.dp_laws.proofs.WellFormedSteps.{after_choice_is_front, merged_is_front}
use Rattle.dp_spec.specs.Arithmetic.{Arithmetic}
use Rattle.dp_spec.specs.BoundTree.{BoundTree, BoundTrees, branch, leaf, merge, more_bound_trees, no_bound_trees}
use Rattle.dp_spec.specs.Certificate.{FitsRoot}
use Rattle.dp_spec.specs.Fitting.{FitEachAction, FitsFront, front_bound}
use Rattle.dp_spec.specs.Front.{AgentFront, Front}
use Rattle.dp_spec.specs.JointNumbers.{product}
use Rattle.dp_spec.specs.Merge.{merged_agents, merged_front, without}
use Rattle.dp_spec.specs.Mode.{IsWithinLimits, own_history_count}
use Rattle.dp_spec.specs.Model.{IsModel, Model, joint_actions, joint_observations}
use Rattle.dp_spec.specs.Qualities.{Node, nodes_of, nodes_of_choices}
use Rattle.dp_spec.specs.Steps.{IsUnassigned, advanced_agents, advanced_if, all_chosen, chosen_front}
use Rattle.dp_spec.specs.Steps.{front_after_choice, is_complete, root_agent, root_front, with_choice}
use Rattle.dp_spec.specs.WellFormed.{AreAgentFronts, IsFront, KeepsHistoriesApart}
use Rattle.dp_spec.specs.WellFormed.AreAgentFronts.{and_agent, no_agents}
use Rattle.dp_spec.specs.Wide.{has_room, is_room, is_wide, next_class_counts, none_count, unassigned_count, widens}
use Rattle.dp_spec.proofs.JointNumberLaws.{positive_left}
use Rattle.dp_spec.proofs.ModelLaws.{some_joint_observation}
use Rattle.dp_base.proofs.AllOfLists.{all_weaker}

-- ---- what every step keeps
module _ (A : Arithmetic) (m : Model) (is : IsModel m) (h look : ℕ) (Kept : Front → ℕ → Type 0)
    (choice : (F : Front) (above i c a : ℕ) → IsFront m h F → F.stage < h → IsUnassigned i c F.agents
    → a < get_or m.actions i 0 → is_wide m h above F ≡ false → Kept F above
    → Kept (front_after_choice m F i c a) (suc above))
    (join : (F : Front) (above i a b : ℕ) → IsFront m h F → F.stage < h → a < b → IsUnassigned i a F.agents
    → IsUnassigned i b F.agents → IsTrue A.is_exact → is_wide m h above F ≡ false → Kept F above
    → Kept (merged_front F i a b) (suc above)) where
  -- holds of a node and of what its front says
  abbrev HoldsOf : Node → Type 0
  HoldsOf n = IsFront m h n.front × Kept n.front n.above

  -- each child of a branch has one more above it
  abbrev KeptAfter : Front → ℕ → ℕ → ℕ → Type 0
  KeptAfter F i c above = (a : ℕ) → a < get_or m.actions i 0 → IsFront m h (front_after_choice m F i c a)
      × Kept (front_after_choice m F i c a) above

  one_holds : (n : Node) → HoldsOf n → All HoldsOf (n ∷ [])
  one_holds n holds = All-from_recursion HoldsOf (n ∷ []) (holds, tt)

  mutual
    nodes_hold : (above : ℕ) (T : BoundTree) (F : Front) (least : ℤ) → FitsFront A m h look above T F least
        → IsFront m h F
        → Kept F above → All HoldsOf (nodes_of A m h look above T F least)
    nodes_hold above (leaf x) F least fits front kept = one_holds
        (record { tree = leaf x; above = above; front = F; cap = least }) (front, kept)
    nodes_hold above (branch i c ks) F least fits front kept =
        All-append HoldsOf (record { tree = branch i c ks; above = above; front = F; cap = least } ∷ [])
        (nodes_of_choices A m h look (suc above) ks F i c 0 least)
        (one_holds (record { tree = branch i c ks; above = above; front = F; cap = least }) (front, kept))
        (choices_hold (suc above) ks F i c 0 least fits.2 (λ a inside. (
          after_choice_is_front m h F i c a front fits.0 fits.1 inside,
          choice F above i c a front fits.0 fits.1 inside fits.3 kept,
        )))
    nodes_hold above (merge i a b k) F least fits front kept =
        All-append HoldsOf (record { tree = merge i a b k; above = above; front = F; cap = least } ∷ [])
        (nodes_of A m h look (suc above) k (merged_front F i a b)
        (int_min least (front_bound A m h look (merged_front F i a b))))
        (one_holds (record { tree = merge i a b k; above = above; front = F; cap = least }) (front, kept))
        (nodes_hold (suc above) k (merged_front F i a b) _ fits.5
        (merged_is_front m h F i a b front fits.0 fits.1 fits.2 fits.3)
        (join F above i a b front fits.0 fits.1 fits.2 fits.3 fits.6 fits.7 kept))

    choices_hold : (above : ℕ) (ks : BoundTrees) (F : Front) (i c a : ℕ) (least : ℤ)
        → FitEachAction A m h look above ks F i c a least
        → KeptAfter F i c above → All HoldsOf (nodes_of_choices A m h look above ks F i c a least)
    choices_hold above no_bound_trees F i c a least fits after = All-from_recursion HoldsOf [] tt
    choices_hold above (more_bound_trees k ks) F i c a least fits after =
        let left = actions_left A m is h look (pos 0) above ks F i c (suc a) least fits.1 in
        let here = after a (omega arith) in
        All-append HoldsOf (nodes_of A m h look above k (front_after_choice m F i c a)
        (int_min least (front_bound A m h look (front_after_choice m F i c a))))
        (nodes_of_choices A m h look above ks F i c (suc a) least)
        (nodes_hold above k (front_after_choice m F i c a) _ fits.0 here.0 here.1)
        (choices_hold above ks F i c (suc a) least fits.1 after)

  -- from the root
  pub root_nodes_hold : (T : BoundTree) → FitsRoot A m h look T → Kept (root_front m) 0
      → All HoldsOf (nodes_of A m h look 0 T (root_front m) (front_bound A m h look (root_front m)))
  root_nodes_hold T fits kept = nodes_hold 0 T (root_front m) _ fits (root_is_front m h is) kept

-- ---- room

-- the fronts of all nodes are well formed and have room
pub nodes_have_room : (A : Arithmetic) (m : Model) (h look : ℕ) (T : BoundTree) → IsModel m
    → FitsRoot A m h look T →
    All (λ n. IsFront m h n.front × (has_room m h n.front ≡ true))
    (nodes_of A m h look 0 T (root_front m) (front_bound A m h look (root_front m)))
nodes_have_room A m h look T is fits =
    root_nodes_hold A m is h look (λ F above. has_room m h F ≡ true)
    (λ F above i c a front lt free inside narrow room. choice_keeps_room m h above F i c a lt free narrow room)
    (λ F above i a b front lt less first second merges narrow room. merging_keeps_room m h F i a b second room)
    T fits (root_has_room m h is)

-- ---- histories apart

pub nodes_keep_apart : (A : Arithmetic) (m : Model) (h look : ℕ) (T : BoundTree) → IsModel m
    → FitsRoot A m h look T → A.is_exact ≡ false →
    All (λ n. KeepsHistoriesApart m n.front) (nodes_of A m h look 0 T (root_front m)
    (front_bound A m h look (root_front m)))
nodes_keep_apart A m h look T is fits rounded =
    all_weaker (λ (n : Node). IsFront m h n.front × KeepsHistoriesApart m n.front)
    (λ (n : Node). KeepsHistoriesApart m n.front) _ (λ n both. both.1)
    (root_nodes_hold A m is h look (λ F above. KeepsHistoriesApart m F)
    (λ F above i c a front lt free inside narrow apart. after_choice_apart m F i c a apart)
    (λ F above i a b front lt less first second merges narrow apart. absurd
    (no_merge A.is_exact rounded merges))
    T fits (root_apart m))
  where
    no_merge : (e : Bool) → e ≡ false → IsTrue e → ⊥
    no_merge e rounded merges = cc

-- ---- within the limits of version 1

-- a class without an action counts
some_none : (os : List (Option ℕ)) (c : ℕ) → c < length os → get_or os c None ≡ None → 0 < none_count os
some_none [] c lt e = absurd (omega arith)
some_none (None ∷ os) c lt e = omega arith
some_none (Some a ∷ os) zero lt e = cc
some_none (Some a ∷ os) (suc c) lt e = some_none os c (omega arith) e

some_left : (os : List (Option ℕ)) → all_chosen os ≡ false → 0 < none_count os
some_left [] e = cc
some_left (None ∷ os) e = omega arith
some_left (Some a ∷ os) e = some_left os e

-- what is not complete has one
incomplete_has_some : (ds : List AgentFront) → is_complete ds ≡ false → 0 < unassigned_count ds
incomplete_has_some [] e = cc
incomplete_has_some (d ∷ ds) e = go (all_chosen d.chosen) refl (incomplete_has_some ds)
  where
    go : (t : Bool) → all_chosen d.chosen ≡ t → (is_complete ds ≡ false → 0 < unassigned_count ds)
        → 0 < unassigned_count (d ∷ ds)
    go false e' rest = omega (arith, some_left d.chosen e')
    go true e' rest = let left : is_complete ds ≡ false = sym (ap (λ (t : Bool). t && is_complete ds) e') ∙ e in
        omega (arith, rest left)

-- so has a merged front, since the first class stays
merged_has_some : (i a b : ℕ) (ds : List AgentFront) → a < b → IsUnassigned i a ds → IsUnassigned i b ds
    → 0 < unassigned_count (merged_agents i a b ds)
merged_has_some i a b [] less first second = absurd first
merged_has_some zero a b (d ∷ ds) less first second =
    let one = length-without b d.chosen second.0 in
    let there = some_none (without b d.chosen) a (omega (arith, one, second.0))
    (get_or-without_below b d.chosen a None less ∙ first.1) in omega arith
merged_has_some (suc i) a b (d ∷ ds) less first second = omega
    (arith, merged_has_some i a b ds less first second)

-- there are own histories of each length
some_histories : (ns : List ℕ) (t : ℕ) → 0 < length ns → 0 < product ns → 0 < histories_of_length ns t
some_histories [] t some seen = absurd (omega arith)
some_histories (n ∷ ns) t some seen = omega (arith, one-le-pow t n (positive_left n (product ns) 0 seen))

-- at the root one class of each agent
root_unassigned : (bs ns : List ℕ) → length ns ≡ length bs → unassigned_count (map (λ n. root_agent) bs)
    ≤ own_history_count ns 1
root_unassigned [] [] e = omega arith
root_unassigned [] (n ∷ ns) e = absurd (omega arith)
root_unassigned (b ∷ bs) [] e = absurd (omega arith)
root_unassigned (b ∷ bs) (n ∷ ns) e = omega (arith, pow-zero n, root_unassigned bs ns (omega arith))

-- an advance opens at most one joint class for each joint history of the next length
next_counts_within : {f : ℕ} {bs ns : List ℕ} {ds : List AgentFront} → AreAgentFronts f bs ns ds
    → product (next_class_counts ns ds) ≤ product ns ^ suc f
next_counts_within {f} no_agents = one-le-pow (suc f) 1 (omega arith)
next_counts_within {f} (and_agent {b = b} {n = n} {ns = ns} {d = d} front fronts) =
    let here : length d.chosen * n ≤ n ^ suc f = rw (pow-suc n f)
    (mul-le-mul_right n (classes_within_histories b n f d front)) in
    rw (mul-pow n (product ns) (suc f)) (mul-le-mul here (next_counts_within fronts))

module _ (m : Model) (is : IsModel m) (h : ℕ) (limits : IsWithinLimits m h) where
  -- as many inner nodes as own histories, and one less
  abbrev IsCounted : Front → ℕ → Type 0
  IsCounted F above =
      (above + unassigned_count F.agents ≤ own_history_count m.observations (suc F.stage))
      × (above < own_history_count m.observations (suc F.stage))

  observing : (0 < length m.observations) × (0 < product m.observations)
  unfolding joint_observations
  observing = let same = is.sizes.alike in let some = is.sizes.some_agent in
      let seen : 0 < product m.observations = some_joint_observation m is in (omega arith, seen)

  advance_counted : (F : Front) (above : ℕ) (t : Bool) (i c a : ℕ) → IsUnassigned i c F.agents
      → is_complete (with_choice i c a F.agents) ≡ t
      → IsFront m h (advanced_if m (chosen_front F i c a) t) → IsCounted F above
      → IsCounted (advanced_if m (chosen_front F i c a) t) (suc above)
  advance_counted F above false i c a free e next counted =
      let one = choice_assigns_one i c a F.agents free in
      let some = incomplete_has_some (with_choice i c a F.agents) e in
      let so_far = counted.0 in (omega arith, omega arith)
  advance_counted F above true i c a free e next counted =
      let ns = m.observations in
      let one = choice_assigns_one i c a F.agents free in
      let none = complete_has_none (with_choice i c a F.agents) e in
      let opened = unassigned_within (suc F.stage) ns (advanced_agents ns F.stage (with_choice i c a F.agents))
      (fronts_within next.agents) in
      let more = shorter_histories ns (suc F.stage) in
      let some = some_histories ns (suc F.stage) observing.0 observing.1 in
      let so_far = counted.0 in (omega arith, omega arith)

  choice_counted : (F : Front) (above i c a : ℕ) → IsFront m h F → F.stage < h → IsUnassigned i c F.agents
      → a < get_or m.actions i 0
      → IsCounted F above → IsCounted (front_after_choice m F i c a) (suc above)
  unfolding front_after_choice
  choice_counted F above i c a front lt free inside counted =
      advance_counted F above (is_complete (with_choice i c a F.agents)) i c a free refl
      (after_choice_is_front m h F i c a front lt free inside) counted

  merge_counted : (F : Front) (above i a b : ℕ) → a < b → IsUnassigned i a F.agents → IsUnassigned i b F.agents
      → IsCounted F above
      → IsCounted (merged_front F i a b) (suc above)
  merge_counted F above i a b less first second counted =
      let one = merge_joins_one i a b F.agents second in
      let some = merged_has_some i a b F.agents less first second in
      let so_far = counted.0 in (omega arith, omega arith)

  root_counted : IsCounted (root_front m) 0
  unfolding root_front
  root_counted =
      let each = root_unassigned m.actions m.observations is.sizes.alike in
      let more = shorter_histories m.observations 0 in
      let some = some_histories m.observations 0 observing.0 observing.1 in (omega arith, omega arith)

  -- an advance finds room
  finds_room : (F : Front) → IsFront m h F → suc F.stage < h
      → is_room m (product (next_class_counts m.observations F.agents)) ≡ true
  unfolding is_room joint_observations
  finds_room F front step =
      let O = product m.observations in
      let n = product (next_class_counts m.observations F.agents) in
      let fewer : O ^ suc F.stage ≤ O ^ (h - 1) = pow-le-pow_right observing.1 (omega arith) in
      let few = next_counts_within front.agents in
      let states = mul-le-mul_left m.states few in
      let states' = mul-le-mul_left m.states fewer in
      let actions = mul-le-mul_left (joint_actions m) few in
      let actions' = mul-le-mul_left (joint_actions m) fewer in
      let cells : m.states * O ^ (h - 1) ≤ 2 ^ 22 = limits.stage_cells in
      let game : joint_actions m * O ^ (h - 1) ≤ 2 ^ 24 = limits.game_cells in
      let first : nat_le (m.states * n) (2 ^ 22) ≡ true = within (m.states * n) (2 ^ 22) (omega arith) in
      let second : nat_le (joint_actions m * n) (2 ^ 24) ≡ true = within (joint_actions m * n) (2 ^ 24)
      (omega arith) in
      rw (first, second) refl
    where
      within : (a b : ℕ) → a ≤ b → nat_le a b ≡ true
      within a b le = grind (arith, nat_tests)

  -- so no node is wide
  narrow : (F : Front) (above : ℕ) → IsFront m h F → IsCounted F above → is_wide m h above F ≡ false
  unfolding is_wide widens
  narrow F above front counted =
      elim (cases_lt F.stage h) [
        | inr le ↦ let no : nat_lt F.stage h ≡ false = below_not F.stage h le in rw no refl
        | inl lt ↦
            let histories = limits.own_histories in
            let longer = longer_histories m.observations F.stage h lt in
            let few : nat_le 2048 above ≡ false = not_at_most 2048 above (omega (arith, counted.1)) in
            elim (cases_lt (suc F.stage) h) [
              | inl step ↦ let room = finds_room F front step in
                  rw (few, room) (nothing (nat_lt F.stage h) (eqb (unassigned_count F.agents) 1)
                  (nat_lt (suc F.stage) h))
              | inr end ↦ let last : nat_lt (suc F.stage) h ≡ false = below_not (suc F.stage) h end in
                  rw (few, last) (none (nat_lt F.stage h) (eqb (unassigned_count F.agents) 1))
            ]
      ]
    where
      below_not : (a b : ℕ) → b ≤ a → nat_lt a b ≡ false
      below_not a b le = grind (arith, nat_tests)

      not_at_most : (a b : ℕ) → b < a → nat_le a b ≡ false
      not_at_most a b lt = grind (arith, nat_tests)

      nothing : (s t u : Bool) → (s && (false || t && (u && false))) ≡ false
      nothing true true true = refl
      nothing true true false = refl
      nothing true false u = refl
      nothing false t u = refl

      none : (s t : Bool) → (s && (false || t && false)) ≡ false
      none true true = refl
      none true false = refl
      none false t = refl

  pub no_wide_node : (A : Arithmetic) (look : ℕ) (T : BoundTree) → FitsRoot A m h look T →
      All (λ n. is_wide m h n.above n.front ≡ false) (nodes_of A m h look 0 T (root_front m)
      (front_bound A m h look (root_front m)))
  no_wide_node A look T fits =
      all_weaker (λ (n : Node). IsFront m h n.front × IsCounted n.front n.above)
      (λ (n : Node). is_wide m h n.above n.front ≡ false) _ (λ n both. narrow n.front n.above both.0 both.1)
      (root_nodes_hold A m is h look IsCounted
      (λ F above i c a front lt free inside narrow counted. choice_counted F above i c a front lt free inside
      counted)
      (λ F above i a b front lt less first second merges narrow counted.
      merge_counted F above i a b less first second counted)
      T fits root_counted)

-- within the limits of version 1 no node is wide
pub no_wide_node_in_one : (A : Arithmetic) (m : Model) (h look : ℕ) (T : BoundTree) → IsModel m
    → IsWithinLimits m h → FitsRoot A m h look T →
    All (λ n. is_wide m h n.above n.front ≡ false) (nodes_of A m h look 0 T (root_front m)
    (front_bound A m h look (root_front m)))
no_wide_node_in_one A m h look T is limits fits = no_wide_node m is h limits A look T fits
