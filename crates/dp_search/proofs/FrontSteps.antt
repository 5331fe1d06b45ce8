-- The steps of a planner's fronts: what is kept by a choice and the advance that may follow, and the bound of a full
-- one.
use Rattle.std.proofs.Common.{◌≡◌, ℕ, ◌+◌, ◌-◌, ◌<◌, Bool, true, false, sym, ap, ◌∙◌, arith}
use Rattle.dp_spec.specs.Arithmetic.{Arithmetic}
use Rattle.dp_spec.specs.Fitting.{front_bound}
use Rattle.dp_spec.specs.Front.{Front, fixed_joint_action}
use Rattle.dp_spec.specs.Model.{Model}
use Rattle.dp_spec.specs.Quantities.{bound_in, earned_reward_in}
use Rattle.dp_spec.specs.Steps.{IsUnassigned, advanced_front, advanced_if, chosen_front, front_after_choice}
use Rattle.dp_spec.specs.Steps.{is_complete}
use Rattle.dp_spec.specs.Wide.{has_room, is_wide}
use Rattle.dp_laws.proofs.FrontRoom.{choice_keeps_room}
use Rattle.dp_cluster.specs.KeptFronts.{IsFrontOf, KeptFront}
use Rattle.dp_search.specs.FrontPlanners.{IsPlannerFront}

-- ---- the bound of a full front

-- it is what the front has earned
pub full_bound : (A : Arithmetic) (m : Model) (h look : ℕ) (F : Front) → F.stage ≡ h
    → front_bound A m h look F ≡ (earned_reward_in A m (fixed_joint_action m F) h F.stage).high
unfolding front_bound
full_bound A m h look F full =
    let none : h - F.stage ≡ 0 = omega arith in
    let same : F.stage + 0 ≡ h = omega arith in
    ap (λ (r : ℕ). bound_in A m r F look) none
    ∙ ap (λ (g : ℕ). (earned_reward_in A m (fixed_joint_action m F) g F.stage).high) same

-- ---- after a choice

pub after_complete : (m : Model) (F : Front) (i c a : ℕ) → is_complete (chosen_front F i c a).agents ≡ true
    → front_after_choice m F i c a ≡ advanced_front m (chosen_front F i c a)
unfolding front_after_choice
after_complete m F i c a e = ap (advanced_if m (chosen_front F i c a)) e

pub after_incomplete : (m : Model) (F : Front) (i c a : ℕ) → is_complete (chosen_front F i c a).agents ≡ false
    → front_after_choice m F i c a ≡ chosen_front F i c a
unfolding front_after_choice
after_incomplete m F i c a e = ap (advanced_if m (chosen_front F i c a)) e

module _ (m : Model) (k : KeptFront) (is : IsPlannerFront m k.horizon k) (i c a : ℕ)
    (lt : k.front.stage < k.horizon)
    (free : IsUnassigned i c k.front.agents) (above : ℕ) (narrow : is_wide m k.horizon above k.front ≡ false)
    (f : KeptFront) (chosen : f ≡ record k { front = chosen_front k.front i c a }) where
  abbrev F : Front
  F = k.front

  front_is : f.front ≡ chosen_front F i c a
  front_is = ap (λ (z : KeptFront). z.front) chosen

  horizon_is : f.horizon ≡ k.horizon
  horizon_is = ap (λ (z : KeptFront). z.horizon) chosen

  after_room : has_room m k.horizon (front_after_choice m F i c a) ≡ true
  after_room = choice_keeps_room m k.horizon above F i c a lt free narrow is.room

  complete_is : (t : Bool) → t ≡ is_complete f.front.agents → is_complete (chosen_front F i c a).agents ≡ t
  complete_is t e = sym (e ∙ ap (λ (z : Front). is_complete z.agents) front_is)

  -- where it is complete
  pub advance_room : (t : Bool) → t ≡ is_complete f.front.agents → t ≡ true
      → has_room m f.horizon (advanced_front m f.front) ≡ true
  advance_room t e holds =
      (λ j. has_room m (horizon_is j) (advanced_front m (front_is j)))
      ∙ ap (has_room m k.horizon) (sym (after_complete m F i c a (complete_is t e ∙ holds))) ∙ after_room

  pub advanced_is : (t : Bool) → t ≡ is_complete f.front.agents → t ≡ true → (next : KeptFront)
      → next.front ≡ advanced_front m f.front → next.front ≡ front_after_choice m F i c a
  advanced_is t e holds next is_next =
      is_next ∙ ap (advanced_front m) front_is ∙ sym (after_complete m F i c a (complete_is t e ∙ holds))

  pub advanced_of_planner : (t : Bool) → t ≡ is_complete f.front.agents → t ≡ true → (next : KeptFront)
      → next.front ≡ advanced_front m f.front → IsFrontOf m next → next.horizon ≡ f.horizon
      → IsPlannerFront m k.horizon next
  advanced_of_planner t e holds next is_next of_model same = record {
    of_model = of_model;
    horizon = same ∙ horizon_is;
    room = ap (has_room m k.horizon) (advanced_is t e holds next is_next) ∙ after_room;
  }

  -- where it is not
  pub chosen_is : (t : Bool) → t ≡ is_complete f.front.agents → t ≡ false
      → f.front ≡ front_after_choice m F i c a
  chosen_is t e fails = front_is ∙ sym (after_incomplete m F i c a (complete_is t e ∙ fails))

  pub chosen_of_planner : (t : Bool) → t ≡ is_complete f.front.agents → t ≡ false → IsFrontOf m f
      → IsPlannerFront m k.horizon f
  chosen_of_planner t e fails of_model = record {
    of_model = of_model;
    horizon = horizon_is;
    room = ap (has_room m k.horizon) (chosen_is t e fails) ∙ after_room;
  }
