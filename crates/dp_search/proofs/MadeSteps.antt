-- The steps at fronts that were made.
use Rattle.std.proofs.Common.{◌≡◌, ℕ, Bool, true, Option, None, Some, sym, ap, subst, ◌∙◌}
use Rattle.std.specs.Prelude.{IfSome}
use Rattle.std.specs.declared.rc.Rc.{Rc}
use Rattle.std.specs.declared.alloc.Global.{Global}
use Rattle.dp_spec.specs.Front.{Front}
use Rattle.dp_spec.specs.Merge.{merged_front}
use Rattle.dp_spec.specs.Model.{Model}
use Rattle.dp_spec.specs.Qualities.{HasNoEquivalent}
use Rattle.dp_spec.specs.Steps.{chosen_front, front_after_choice}
use Rattle.dp_cluster.specs.KeptFronts.{IsFrontOf, KeptFront}
use Rattle.dp_game.specs.Games.{IsGameOf, KeptGame}
use Rattle.dp_game.proofs.Callers.{action_in_game, unassigned_in_game}
use Rattle.dp_search.specs.declared.path.Choice.{Choice}
use Rattle.dp_search.specs.declared.path.Pair.{Pair}
use Rattle.dp_search.specs.FrontPlanners.{IsPlannerFront}
use Rattle.dp_search.specs.declared.making.Start.{Start}
use Rattle.dp_search.specs.MadeFronts.{IsFreeIn, IsStart}
use Rattle.dp_search.specs.Paths.{IsChoiceAt, IsMergeAt}
use Rattle.dp_search.proofs.Expansions.{merged_of_planner, next_of_planner}
use Rattle.dp_search.proofs.HeldFronts.{if_some_weaker}
use Rattle.dp_search.proofs.Paths.{no_pair_after}
use Rattle.dp_search.proofs.UnfinishedFronts.{same_stage_chosen}

-- the front after a choice
abbrev pub after : Model → Front → Choice → Front
after m F c = front_after_choice m F c.agent c.class c.action

-- a choice that may be made at a front may be made in its game
module _ (m : Model) (h look : ℕ) (merging : Bool) (F : Front) (c : Choice) (at : IsChoiceAt m h merging F c) where
  pub free_in : (g : KeptGame) → IsGameOf m h look F g → IsFreeIn g c
  free_in g game =
      let free = unassigned_in_game m h look F g game c.agent c.class at.unassigned in
      record {
        agent = free.agent;
        class = free.class;
        unassigned = free.is;
        action = action_in_game m h look F g game c.agent c.class c.action at.action;
      }

  pub free_in_kept : (o : Option (Rc KeptGame Global)) → IfSome o (λ g. IsGameOf m h look F g.value)
      → IfSome o (λ g. IsFreeIn g.value c)
  free_in_kept None game = tt
  free_in_kept (Some g) game = free_in g.value game

  pub free_in_own : (o : Option KeptGame) → IfSome o (IsGameOf m h look F) → IfSome o (λ g. IsFreeIn g c)
  free_in_own None game = tt
  free_in_own (Some g) game = free_in g game

-- the front after a choice at front F, which is kept as k
module _ (m : Model) (h look : ℕ) (merging : Bool) (F : Front) (k : KeptFront) (planner : IsPlannerFront m h k)
    (is : k.front ≡ F) (c : Choice) (at : IsChoiceAt m h merging F c) where
  at_front : IsChoiceAt m h merging k.front c
  at_front = subst (λ (G : Front). IsChoiceAt m h merging G c) (sym is) at

  -- in the horizon of the front
  pub own_planner : IsPlannerFront m k.horizon k
  own_planner = subst (λ (n : ℕ). IsPlannerFront m n k) (sym planner.horizon) planner

  pub own_choice : (merges : Bool) × IsChoiceAt m k.horizon merges k.front c
  own_choice = (merging, subst (λ (n : ℕ). IsChoiceAt m n merging k.front c) (sym planner.horizon) at_front)

  -- the start after it
  module _ (s : Start) (own : IsPlannerFront m k.horizon s.front.value)
      (front : s.front.value.front ≡ after m k.front c)
      (same : s.settled ≡ true → s.front.value.front ≡ chosen_front k.front c.agent c.class c.action) where
    next_front : s.front.value.front ≡ after m F c
    next_front = front ∙ ap (λ (G : Front). after m G c) is

    chosen_next : s.settled ≡ true → chosen_front F c.agent c.class c.action ≡ after m F c
    chosen_next on =
        ap (λ (G : Front). chosen_front G c.agent c.class c.action) (sym is) ∙ sym (same on) ∙ next_front

    -- its game follows from the one before at the same stage, where nothing can be merged that could not before
    pub start_after_is : IfSome s.game (λ g. (s.settled ≡ true)
        × IsGameOf m h look (chosen_front F c.agent c.class c.action) g) → IsStart m h look merging (after m F c) s
    start_after_is game = record {
      of_planner =
          next_of_planner m h look k planner at_front.early c.agent c.class c.action s.front.value front own;
      front = next_front;
      game = if_some_weaker _ (IsGameOf m h look (after m F c))
          (λ g known. subst (λ (G : Front). IsGameOf m h look G g) (chosen_next known.0) known.1) s.game game;
      settled = λ on merges exact. subst (HasNoEquivalent m) (chosen_next on)
          (no_pair_after m F c.agent c.class c.action (at.settled merges exact));
    }

-- after a choice at the same stage nothing else changes
pub same_next : (m : Model) (k next : KeptFront) (c : Choice) → next.front ≡ after m k.front c
    → next.front.stage ≡ k.front.stage → next.front ≡ chosen_front k.front c.agent c.class c.action
same_next m k next c front stage =
    front ∙ same_stage_chosen m k.front c.agent c.class c.action
    (sym (ap (λ (G : Front). G.stage) front) ∙ stage)

-- ---- after a merge

module _ (m : Model) (h look : ℕ) (merging : Bool) (F : Front) (start : Start)
    (is : IsStart m h look merging F start) (q : Pair) (at : IsMergeAt m h F q) where
  abbrev before : KeptFront
  before = start.front.value

  merge_at : IsMergeAt m h before.front q
  merge_at = subst (λ (G : Front). IsMergeAt m h G q) (sym is.front) at

  module _ (k : KeptFront) (same : k ≡ before) (next : KeptFront)
      (front : next.front ≡ merged_front k.front q.agent q.first q.second) (horizon : next.horizon ≡ k.horizon)
      (of_model : IsFrontOf m k → IsFrontOf m next) where
    own_front : next.front ≡ merged_front before.front q.agent q.first q.second
    own_front = front ∙ ap (λ (f : KeptFront). merged_front f.front q.agent q.first q.second) same

    pub merged_planner : IsPlannerFront m h next
    merged_planner =
        merged_of_planner m h look before is.of_planner merge_at.early q.agent q.first q.second merge_at.pair next
        own_front (of_model (subst (IsFrontOf m) (sym same) is.of_planner.of_model))
        (horizon ∙ ap (λ (f : KeptFront). f.horizon) same)

    pub merged_is : next.front ≡ merged_front F q.agent q.first q.second
    merged_is = own_front ∙ ap (λ (G : Front). merged_front G q.agent q.first q.second) is.front
