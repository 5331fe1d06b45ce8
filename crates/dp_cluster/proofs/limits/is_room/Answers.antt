use Rattle.std.proofs.Common.{◌∙◌}
use Rattle.dp_cluster.proofs.Widening.{room_by_actions, room_by_states}
use Rattle.dp_cluster.proofs.limits.is_room.Goals as goal

pub returns-then-from-classes-le-MOST_STATES : goal.returns-then-from-classes-le-MOST_STATES
returns-then-from-classes-le-MOST_STATES c =
    room_by_actions c.args.m.now.model c.args.classes _ _ (c.from.ensures ∙ c.states.ensures.is)
    (c.from-then-from-classes-le-MOST_STATES.ensures ∙ c.joint_actions.ensures.is)
    c.if-from-classes-le-MOST_STATES.true

pub returns-else-from-classes-le-MOST_STATES : goal.returns-else-from-classes-le-MOST_STATES
returns-else-from-classes-le-MOST_STATES c =
    room_by_states c.args.m.now.model c.args.classes _ (c.from.ensures ∙ c.states.ensures.is)
    c.if-from-classes-le-MOST_STATES.false
