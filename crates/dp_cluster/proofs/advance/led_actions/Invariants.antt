use Rattle.std.proofs.Common.{◌≡◌, ◌<◌, ℕ, None, length, get_or}
use Rattle.dp_cluster.specs.Advances.{IsLed}
use Rattle.dp_cluster.proofs.advance.led_actions.Given as goal

abbrev pub invariant-loop-class : goal.invariant-loop-class
invariant-loop-class l = record {
  many : length l.actions.items ≡ l.class;
  each : (D : ℕ) → D < l.class → IsLed l.m.model l.front D (get_or l.actions.items D None);
}
