-- Worked rows of wide nodes.
use Rattle.std.proofs.Common.{◌≡◌, true, false, [], ◌∷◌, Some, None, refl}
use Rattle.std.specs.Prelude.{replicate}
use Rattle.dp_spec.specs.Model.{joint_actions}
use Rattle.dp_spec.specs.Front.{Front}
use Rattle.dp_spec.specs.Steps.{root_front, front_after_choice, advanced_agent}
use Rattle.dp_spec.specs.Wide.{is_room, widens, is_wide}
use Rattle.dp_spec.proofs.SmallModels.{fan, tiger}

-- at the root front of three steps an advance opens 256 classes, which have room
root_of_fan : widens fan 3 (root_front fan) ≡ false
unfolding fan widens is_room joint_actions root_front
root_of_fan = refl

-- a further advance would open 65536 classes, times 65 states
abbrev waited : Front
waited = front_after_choice fan (root_front fan) 0 0 0

waited_widens : widens fan 3 waited ≡ true
unfolding fan widens is_room joint_actions root_front front_after_choice advanced_agent
waited_widens = refl

-- two steps are no horizon for it
waited_at_the_end : widens fan 2 waited ≡ false
unfolding fan widens is_room joint_actions root_front front_after_choice advanced_agent
waited_at_the_end = refl

-- with 256 unassigned classes it is not yet wide
waited_is_not_wide : is_wide fan 3 1 waited ≡ false
unfolding fan is_wide widens is_room joint_actions root_front front_after_choice advanced_agent
waited_is_not_wide = refl

-- once one of them is left, it is
abbrev pub all_but_one : Front
all_but_one = record {
  stage = 1;
  agents = record {
    fixed = [];
    class_of = [];
    chosen =
        None ∷ replicate 255 (Some 0);
  } ∷ [];
}

pub all_but_one_is_wide : is_wide fan 3 256 all_but_one ≡ true
unfolding fan is_wide widens is_room joint_actions
all_but_one_is_wide = refl

-- 2048 branches and merges above make any node wide, where a step is left
above_2048 : is_wide tiger 1 2048 (root_front tiger) ≡ true
unfolding tiger is_wide widens is_room joint_actions root_front
above_2048 = refl

above_2047 : is_wide tiger 1 2047 (root_front tiger) ≡ false
unfolding tiger is_wide widens is_room joint_actions root_front
above_2047 = refl

full_is_not_wide : is_wide tiger 0 2048 (root_front tiger) ≡ false
unfolding tiger is_wide widens is_room joint_actions root_front
full_is_not_wide = refl
