use Rattle.std.proofs.Common.{◌≡◌, All, Bool, true, map}
use Rattle.std.specs.List.{range_with_len}
use Rattle.dp_spec.specs.Mode.{is_exact_mode}
use Rattle.dp_spec.specs.Qualities.{HasNoEquivalent}
use Rattle.dp_spec.specs.Steps.{front_after_choice}
use Rattle.dp_pomdp.specs.Rooms.{IsRoomFor}
use Rattle.dp_search.specs.declared.held_front.HeldFront.{HeldFront}
use Rattle.dp_search.specs.declared.planner.Child.{Child}
use Rattle.dp_search.specs.HeldFronts.{IsHeldChild, front_meant}
use Rattle.dp_search.specs.Paths.{IsPath}
use Rattle.dp_search.proofs.last_choice.last_children.Given as goal

abbrev pub invariant-loop-action : goal.invariant-loop-action
invariant-loop-action l =
    (map (λ (c : Child HeldFront). front_meant l.model.model c.front) l.children.items
    ≡ map (front_after_choice l.model.model l.front.front l.agent l.class) (range_with_len 0 l.action))
    × ((merging : Bool) → IsPath l.model.model l.bounder.horizon merging l.path.value
    → (merging ≡ true → is_exact_mode l.model.model l.bounder.horizon ≡ true
    → HasNoEquivalent l.model.model l.front.front)
    → All (IsHeldChild l.model.model l.bounder.horizon l.bounder.look merging) l.children.items)
    × IsRoomFor l.bounder.is_exact l.model.model l.bounder.look l.room
