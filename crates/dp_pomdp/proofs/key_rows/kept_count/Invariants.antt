use Rattle.std.proofs.Common.{◌≡◌, min}
use Rattle.dp_pomdp.specs.Keys.{keys_below}
use Rattle.dp_pomdp.proofs.key_rows.kept_count.Given as goal

abbrev pub invariant-loop-step : goal.invariant-loop-step
invariant-loop-step l = l.count ≡ min l.most (keys_below l.pairs l._step)
