use Rattle.std.proofs.Common.{◌≡◌, ◌-◌, map}
use Rattle.std.specs.List.{range_with_len}
use Rattle.dp_spec.specs.Arithmetic.{arithmetic}
use Rattle.dp_pomdp.specs.Rooms.{IsRoomFor}
use Rattle.dp_game.specs.DeeperLooks.{chosen_look_in}
use Rattle.dp_game.proofs.deeper_looks.chosen_looks.Given as goal

abbrev pub invariant-loop-joint : goal.invariant-loop-joint
invariant-loop-joint l =
    (l.looks.items ≡ map (chosen_look_in (arithmetic l.bounder.is_exact l.model.model.scales) l.model.model
    (l.bounder.horizon - l.front.front.stage - 1) l.front.front l.look l.actions l.wanted)
    (range_with_len 0 l.joint))
    × IsRoomFor l.bounder.is_exact l.model.model l.look l.room
