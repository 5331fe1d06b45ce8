use Rattle.std.proofs.Common.{◌≡◌, ◌-◌}
use Rattle.dp_spec.specs.Arithmetic.{arithmetic}
use Rattle.dp_pomdp.specs.Rooms.{IsRoomFor}
use Rattle.dp_game.specs.Kept.{look_ahead_row, rows_of}
use Rattle.dp_game.proofs.table.look_ahead_table.Given as goal

abbrev pub invariant-loop-joint : goal.invariant-loop-joint
invariant-loop-joint l =
    (l.table.items ≡ rows_of (look_ahead_row (arithmetic l.bounder.is_exact l.model.model.scales) l.model.model
    (l.bounder.horizon - l.front.front.stage - 1) l.front.front l.bounder.look) l.joint)
    × (IsRoomFor l.bounder.is_exact l.model.model l.bounder.look l.room)
