use Rattle.std.proofs.Common.{◌≡◌, ◌<◌, ◌-◌, ℕ, pos, length, get_or}
use Rattle.dp_spec.specs.Arithmetic.{arithmetic}
use Rattle.dp_spec.specs.Quantities.{look_ahead_in}
use Rattle.dp_pomdp.specs.Keys.{no_key_weights}
use Rattle.dp_pomdp.specs.Looking.{weights_of}
use Rattle.dp_pomdp.specs.Rooms.{IsRoomFor}
use Rattle.dp_pomdp.proofs.keys.look_aheads.Given as goal

abbrev pub invariant-loop-place : goal.invariant-loop-place
invariant-loop-place l = record {
  filled : length l.values.items ≡ l.place;
  values : (p : ℕ) → p < l.place → get_or l.values.items p (pos 0)
      ≡ look_ahead_in (arithmetic l.fit.exact l.model.model.scales) l.model.model
      (l.fit.horizon - (get_or l.rows p no_key_weights).time)
      (weights_of (get_or l.rows p no_key_weights).weights) 16;
  room : IsRoomFor l.fit.exact l.model.model 16 l.room;
}
