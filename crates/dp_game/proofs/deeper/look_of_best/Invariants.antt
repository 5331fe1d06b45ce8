use Rattle.std.proofs.Common.{◌≡◌, ◌-◌, filter}
use Rattle.dp_base.specs.Sums.{greatest, numbers_below}
use Rattle.dp_spec.specs.Arithmetic.{arithmetic}
use Rattle.dp_spec.specs.JointNumbers.{parts_of}
use Rattle.dp_spec.specs.Quantities.{action_look_ahead_in}
use Rattle.dp_pomdp.specs.Looking.{weights_of}
use Rattle.dp_pomdp.specs.Rooms.{IsRoomFor}
use Rattle.dp_game.specs.Games.{each_agrees}
use Rattle.dp_game.proofs.Agreement.{has_some}
use Rattle.dp_game.proofs.deeper.look_of_best.Given as goal

abbrev pub invariant-loop-action : goal.invariant-loop-action
invariant-loop-action l =
    (l.some ≡ has_some (filter (λ a. each_agrees l.wanted (parts_of l.actions a)) (numbers_below l.action)))
    × (l.best ≡ greatest (λ a. action_look_ahead_in (arithmetic l.bounder.is_exact l.model.model.scales)
    l.model.model (l.bounder.horizon - l.stage - 1) (weights_of l.weights) a l.look)
    (filter (λ a. each_agrees l.wanted (parts_of l.actions a)) (numbers_below l.action)))
    × IsRoomFor l.bounder.is_exact l.model.model l.look l.room
