-- Choosing an action for a class changes no weight and nothing that is earned, and equivalence of classes does not
-- depend on choices.
use Rattle.std.specs.Prelude.{ℕ, ◌≡◌, ◌↔◌, List}
use Rattle.dp_spec.specs.Model.{Model}
use Rattle.dp_spec.specs.JointHistory.{earned_reward}
use Rattle.dp_spec.specs.Front.{Front, fixed_joint_action, class_weight}
use Rattle.dp_spec.specs.Steps.{chosen_front}
use Rattle.dp_spec.specs.Merge.{AreEquivalent, place_weight, class_total}

-- two fronts have the same joint actions behind them, earn the same there, and give every class the same weight
pub record WeighAlike (m : Model) (F G : Front) : Type 0 where
  pub actions : (H : List ℕ) → fixed_joint_action m F H ≡ fixed_joint_action m G H
  pub earned : (h t : ℕ) → earned_reward m (fixed_joint_action m F) h t
      ≡ earned_reward m (fixed_joint_action m G) h t
  pub joint_classes : (C s : ℕ) → class_weight m F C s ≡ class_weight m G C s
  pub places : (i c x s : ℕ) → place_weight m F i c x s ≡ place_weight m G i c x s
  pub totals : (i c : ℕ) → class_total m F i c ≡ class_total m G i c

-- a front after a choice and the front before it weigh alike
abbrev pub ChoosingChangesNoWeight : Type 0
ChoosingChangesNoWeight = (m : Model) (F : Front) (i c a : ℕ) → WeighAlike m (chosen_front F i c a) F

-- two classes are equivalent after a choice if and only if they are before it
abbrev pub EquivalenceIgnoresChoices : Type 0
EquivalenceIgnoresChoices =
    (m : Model) (F : Front) (i c a j first second : ℕ) →
    (AreEquivalent m (chosen_front F i c a) j first second) ↔ (AreEquivalent m F j first second)
