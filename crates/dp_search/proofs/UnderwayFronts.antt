-- Fronts on the way to a full one: what a choice and a merge keep.
use Rattle.std.proofs.Common.{◌≡◌, ◌⊎◌, inl, inr, ℕ, zero, suc, ◌<◌, Bool, true, false, ◌&&◌, ◌||◌, not, eqb, cond}
use Rattle.std.proofs.Common.{List, [], ◌∷◌, length, get_or, Option, refl, sym, ap, subst, ◌∙◌, arith}
use Rattle.std.specs.Prelude.{nat_lt}
use Rattle.std.proofs.lemmas.Bool.Decides.{nat_tests}
use Rattle.dp_spec.specs.Front.{Front, class_counts}
use Rattle.dp_spec.specs.JointNumbers.{product}
use Rattle.dp_spec.specs.Merge.{merged_front}
use Rattle.dp_spec.specs.Model.{Model}
use Rattle.dp_spec.specs.Pairs.{IsPair}
use Rattle.dp_spec.specs.Steps.{IsUnassigned, chosen_front, front_after_choice, is_complete}
use Rattle.dp_spec.specs.WellFormed.{IsFront}
use Rattle.dp_spec.specs.Wide.{has_room, is_room, is_wide, unassigned_count, widens}
use Rattle.dp_laws.proofs.ChosenFronts.{counts_chosen}
use Rattle.dp_laws.proofs.FrontRoom.{choice_next_counts, merging_keeps_room}
use Rattle.dp_laws.proofs.TreeDepth.{choice_assigns_one, merge_joins_one}
use Rattle.dp_cluster.specs.KeptFronts.{IsFrontOf, KeptFront}
use Rattle.dp_cluster.proofs.FrontParts.{as_many_counts}
use Rattle.dp_game.specs.Games.{IsGameOf, KeptGame, own_counts}
use Rattle.dp_game.proofs.OwnChoices.{as_many_own, counts_of}
use Rattle.dp_search.specs.Completions.{HasClassesOf, HasFewerLeft, IsUnderway}
use Rattle.dp_search.specs.FrontPlanners.{IsPlannerFront}
use Rattle.dp_search.specs.FrontPlanning.{IsSearchFront}
use Rattle.dp_search.proofs.FrontSteps.{after_complete, after_incomplete}
use Rattle.dp_search.proofs.UnfinishedFronts.{after_choice_unfinished, merged_unfinished, same_stage_chosen}

-- ---- fronts that do not widen

nothing_wide : (a b : Bool) → (a && (false || b && false)) ≡ false
nothing_wide true true = refl
nothing_wide true false = refl
nothing_wide false b = refl

-- a front that does not widen is not wide below fewer than 2048 steps
pub narrow_is : (m : Model) (h : ℕ) (F : Front) → widens m h F ≡ false → is_wide m h 0 F ≡ false
unfolding is_wide
narrow_is m h F none = rw none (nothing_wide (nat_lt F.stage h) (eqb (unassigned_count F.agents) 1))

-- a choice keeps how many classes come after an advance
pub choice_widens : (m : Model) (h : ℕ) (F : Front) (i c a : ℕ)
    → widens m h (chosen_front F i c a) ≡ widens m h F
unfolding widens
choice_widens m h F i c a =
    ap (λ (cs : List ℕ). nat_lt (suc F.stage) h && not (is_room m (product cs)))
    (choice_next_counts i c a m.observations F.agents)

-- ---- after a choice

-- the stage stays or is the next one
stage_after : (m : Model) (F : Front) (i c a : ℕ)
    → ((front_after_choice m F i c a).stage ≡ F.stage) ⊎ ((front_after_choice m F i c a).stage ≡ suc F.stage)
stage_after m F i c a = go (is_complete (chosen_front F i c a).agents) refl
  where
    go : (t : Bool) → is_complete (chosen_front F i c a).agents ≡ t
        → ((front_after_choice m F i c a).stage ≡ F.stage)
        ⊎ ((front_after_choice m F i c a).stage ≡ suc F.stage)
    go true e = inr (ap (λ (G : Front). G.stage) (after_complete m F i c a e))
    go false e = inl (ap (λ (G : Front). G.stage) (after_incomplete m F i c a e))

module _ (m : Model) (k : KeptFront) (i c a : ℕ) (free : IsUnassigned i c k.front.agents)
    (next : KeptFront) (next_is : IsPlannerFront m k.horizon next)
    (after : next.front ≡ front_after_choice m k.front i c a) where
  stays : next.front.stage ≡ k.front.stage → next.front ≡ chosen_front k.front i c a
  stays same = after ∙ same_stage_chosen m k.front i c a (sym (ap (λ (G : Front). G.stage) after) ∙ same)

  pub choice_underway : widens m k.horizon k.front ≡ false → IsUnderway m k.horizon k.front.stage next
  choice_underway narrow = record {
    of_search = record {
      of_planner = next_is;
      unfinished = λ lt. ap (λ (G : Front). is_complete G.agents) after
          ∙ after_choice_unfinished m k.horizon k.front i c a next_is.of_model.model
          (subst (IsFront m k.horizon) after (subst (λ (n : ℕ). IsFront m n next.front) next_is.horizon
          next_is.of_model.front));
    };
    stage = subst (λ (G : Front). (G.stage ≡ k.front.stage) ⊎ (G.stage ≡ suc k.front.stage)) (sym after)
        (stage_after m k.front i c a);
    narrow = λ same. ap (widens m k.horizon) (stays same) ∙ choice_widens m k.horizon k.front i c a ∙ narrow;
  }

  pub choice_leaves_fewer : (g : KeptGame) → HasClassesOf m k g → HasFewerLeft m k g next
  choice_leaves_fewer g is =
      let one = choice_assigns_one i c a k.front.agents free in
      record {
        some = omega arith;
        fewer = λ same. let there = ap (λ (G : Front). unassigned_count G.agents) (stays same) in omega arith;
        classes = λ same. record {
          counts = is.counts ∙ sym (counts_chosen i c a k.front.agents)
              ∙ ap (λ (G : Front). class_counts G.agents) (sym (stays same));
          actions = is.actions;
        };
      }

-- ---- after a merge

module _ (k : KeptFront) (i a b : ℕ) (next : KeptFront) (merged : next.front ≡ merged_front k.front i a b)
    (horizon : next.horizon ≡ k.horizon) where
  pub merge_of_search : (m : Model) (h : ℕ) → IsSearchFront m h k → IsPair m k.front i a b → IsFrontOf m next
      → IsSearchFront m h next
  merge_of_search m h is pair of_model = record {
    of_planner = record {
      of_model = of_model;
      horizon = horizon ∙ is.of_planner.horizon;
      room = ap (has_room m h) merged
          ∙ merging_keeps_room m h k.front i a b pair.second is.of_planner.room;
    };
    unfinished = λ lt. ap (λ (G : Front). is_complete G.agents) merged
        ∙ merged_unfinished k.front i a b pair.order pair.first pair.second;
  }

  pub merge_leaves_fewer : IsUnassigned i b k.front.agents
      → unassigned_count next.front.agents < unassigned_count k.front.agents
  merge_leaves_fewer second =
      let one = merge_joins_one i a b k.front.agents second in
      let there = ap (λ (G : Front). unassigned_count G.agents) merged in
      omega arith

-- ---- underway

-- at an equal horizon and stage
pub underway_at : (m : Model) (k : KeptFront) (h h' f f' : ℕ) → h ≡ h' → f ≡ f' → IsUnderway m h f k
    → IsUnderway m h' f' k
underway_at m k h h' f f' same stage under =
    subst (λ (x : ℕ). IsUnderway m h' x k) stage (subst (λ (x : ℕ). IsUnderway m x f k) same under)

-- a front that does not widen
pub underway_starts : (m : Model) (h : ℕ) (k : KeptFront) → IsSearchFront m h k → widens m h k.front ≡ false
    → IsUnderway m h k.front.stage k
underway_starts m h k is narrow = record { of_search = is; stage = inl refl; narrow = λ same. narrow }

-- how many classes have no action, as long as the stage is f
abbrev pub left_at : ℕ → KeptFront → ℕ
left_at f k = cond (eqb k.front.stage f) (unassigned_count k.front.agents) 0

-- they become fewer
pub fewer_left : (m : Model) (g : KeptGame) (f : ℕ) (k next : KeptFront) → k.front.stage ≡ f
    → HasFewerLeft m k g next → left_at f next < left_at f k
fewer_left m g f k next at is = go (eqb next.front.stage f) refl
  where
    here : eqb k.front.stage f ≡ true
    here = let e = at in grind (arith, nat_tests)

    back : (x : ℕ) → eqb x f ≡ true → x ≡ f
    back x e = grind (arith, nat_tests)

    go : (t : Bool) → eqb next.front.stage f ≡ t
        → cond t (unassigned_count next.front.agents) 0
        < cond (eqb k.front.stage f) (unassigned_count k.front.agents) 0
    go true e = rw here (is.fewer (back next.front.stage e ∙ sym at))
    go false e = rw here is.some

-- ---- the classes of a game

-- how many classes an agent has
own_count_at : (oss : List (List (Option ℕ))) (i : ℕ) → i < length oss
    → get_or (own_counts oss) i 0 ≡ length (get_or oss i [])
own_count_at [] i lt = absurd (omega arith)
own_count_at (os ∷ oss) zero lt = refl
own_count_at (os ∷ oss) (suc i) lt = own_count_at oss i (omega arith)

-- a class stays where the counts do
pub class_stays : (g g' : KeptGame) (i c : ℕ) → own_counts g'.choices ≡ own_counts g.choices
    → i < length g.choices → c < length (get_or g.choices i []) → c < length (get_or g'.choices i [])
class_stays g g' i c counts agent class =
    let many = ap (λ (cs : List ℕ). length cs) counts in
    let before = own_count_at g.choices i agent in
    let after = own_count_at g'.choices i (omega (arith, as_many_own g.choices, as_many_own g'.choices)) in
    let same = ap (λ (cs : List ℕ). get_or cs i 0) counts in
    omega arith

module _ (m : Model) (k : KeptFront) (g : KeptGame) (is : HasClassesOf m k g) where
  -- an agent of the front is one of the game
  pub agent_of : (i : ℕ) → i < length k.front.agents → i < length g.choices
  agent_of i lt =
      let many = ap (λ (cs : List ℕ). length cs) is.counts in
      omega (arith, as_many_own g.choices, as_many_counts k.front.agents)

  -- a class of the front is one of the game
  pub class_of : (i c : ℕ) → i < length k.front.agents → c < get_or (class_counts k.front.agents) i 0
      → c < length (get_or g.choices i [])
  class_of i c agent class =
      let here = own_count_at g.choices i (agent_of i agent) in
      let same = ap (λ (cs : List ℕ). get_or cs i 0) is.counts in
      omega arith

  -- as many classes, and the same actions
  pub classes_kept : (g' : KeptGame) → own_counts g'.choices ≡ own_counts g.choices → g'.actions ≡ g.actions
      → HasClassesOf m k g'
  classes_kept g' counts actions = record { counts = counts ∙ is.counts; actions = actions ∙ is.actions }

-- the game of a front has its classes
pub game_has_classes : (m : Model) (h look : ℕ) (k : KeptFront) (g : KeptGame) → IsGameOf m h look k.front g
    → HasClassesOf m k g
game_has_classes m h look k g is = record {
  counts = ap own_counts is.choices ∙ counts_of k.front.agents;
  actions = is.actions;
}
