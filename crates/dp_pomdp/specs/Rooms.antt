-- What room for look-ahead keeps. (Own.)
use Rattle.std.specs.Prelude.{Bool, ℕ, ◌*◌, ◌≤◌, List}
use Rattle.dp_spec.specs.Arithmetic.{arithmetic}
use Rattle.dp_spec.specs.Model.{Model}
use Rattle.dp_pomdp.specs.Memos.{AreKept, KeptLook, action_of, look_of, row_of}

-- for how many weights there is room, and what was looked ahead before: from weights, from weights by each joint
-- action, and from weights by one
pub record KeptRoom : Type 0 where
  pub buffers : ℕ
  pub looks : List KeptLook
  pub rows : List KeptLook
  pub actions : List KeptLook

-- It is room for looks of at most so many steps over the states of a model, in the arithmetic of a mode: what it
-- keeps are look-aheads.
pub record IsRoomFor (e : Bool) (m : Model) (look : ℕ) (room : KeptRoom) : Type 0 where
  pub long : look * m.states ≤ room.buffers
  pub looks : AreKept (look_of (arithmetic e m.scales) m) room.looks
  pub rows : AreKept (row_of (arithmetic e m.scales) m) room.rows
  pub actions : AreKept (action_of (arithmetic e m.scales) m) room.actions
