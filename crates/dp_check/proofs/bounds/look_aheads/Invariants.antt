use Rattle.std.proofs.Common.{◌≡◌}
use Rattle.dp_spec.specs.Model.{joint_actions}
use Rattle.dp_check.specs.Bounding.{IsLookRoom, look_ahead_at, rows_of}
use Rattle.dp_check.proofs.bounds.look_aheads.Given as goal

abbrev pub invariant-loop-class : goal.invariant-loop-class
invariant-loop-class l =
    (l.all.items ≡ rows_of (look_ahead_at l.m.model l.bounds l.front.front) (joint_actions l.m.model) l.class)
    × (IsLookRoom l.m.model l.bounds l.room)
