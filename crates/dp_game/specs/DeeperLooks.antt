-- The looks of one step more that the bounds of the fronts after a choice have in common.
use Rattle.std.specs.Prelude.{ℕ, suc, ◌-◌, ◌*◌, ◌<◌, ◌≡◌, cond, ℤ, List, map, length, get_or, drop, take}
use Rattle.std.specs.Prelude.{Option, None, Some}
use Rattle.std.specs.List.{range_with_len}
use Rattle.dp_spec.specs.Arithmetic.{Arithmetic, arithmetic}
use Rattle.dp_spec.specs.Front.{AgentFront, Front, class_counts}
use Rattle.dp_spec.specs.JointNumbers.{product}
use Rattle.dp_spec.specs.Model.{Model}
use Rattle.dp_spec.specs.Steps.{all_chosen, chosen_front}
use Rattle.dp_game.specs.Bounders.{KeptBounder}
use Rattle.dp_game.specs.Games.{choices_in}
use Rattle.dp_game.specs.Kept.{greatest_look_in, rows_of}

-- joint class by joint class, the choice of each agent's class, and a look-ahead or none
pub record KeptLooks : Type 0 where
  pub wanted : List (Option ℕ)
  pub looks : List (Option ℤ)

-- where each class in joint class C has an action, the look-ahead of the joint action of these
abbrev pub chosen_look_in : Arithmetic → Model → ℕ → Front → ℕ → List ℕ → List (Option ℕ) → ℕ → Option ℤ
chosen_look_in A m r F look bs wanted C =
    cond (all_chosen (take (length bs) (drop (C * length bs) wanted)))
    (Some (greatest_look_in A m r F look bs wanted C)) None

-- They are those of a front: for its choices, with a look of one step more than the bounder's.
pub record AreDeeperLooksOf (m : Model) (b : KeptBounder) (F : Front) (v : KeptLooks) : Type 0 where
  pub wanted : v.wanted
      ≡ rows_of (choices_in (map (λ (d : AgentFront). d.chosen) F.agents)) (product (class_counts F.agents))
  pub looks : v.looks ≡ map (chosen_look_in (arithmetic b.is_exact m.scales) m (b.horizon - F.stage - 1) F
      (suc b.look) m.actions v.wanted) (range_with_len 0 (product (class_counts F.agents)))

-- They are those of a front from which this one comes by one choice.
pub record AreLooksBefore (m : Model) (b : KeptBounder) (G : Front) (v : KeptLooks) : Type 0 where
  pub before : Front
  pub agent : ℕ
  pub class : ℕ
  pub action : ℕ
  pub chosen : G ≡ chosen_front before agent class action
  pub looks : AreDeeperLooksOf m b before v

-- Each look that there is for a joint class is the greatest look-ahead of the front for the choices that are kept.
pub record AreLooksFor (m : Model) (b : KeptBounder) (F : Front) (look : ℕ) (v : KeptLooks) : Type 0 where
  pub one_each : length v.looks ≡ product (class_counts F.agents)
  pub as_many : length v.wanted ≡ product (class_counts F.agents) * length m.actions
  pub are : (C : ℕ) (x : ℤ) → C < product (class_counts F.agents) → get_or v.looks C None ≡ Some x →
      x ≡ greatest_look_in (arithmetic b.is_exact m.scales) m (b.horizon - F.stage - 1) F look m.actions v.wanted C
