use Rattle.std.proofs.Common.{◌≡◌, ◌++◌, ◌*ℤ◌, ℤ, map, take}
use Rattle.dp_pomdp.proofs.rows.push_times.Given as goal

abbrev pub invariant-loop-at : goal.invariant-loop-at
invariant-loop-at l = l.row.items ≡ l.fn.row.items ++ map (λ (v : ℤ). l.fn.factor *ℤ v) (take l.at l.values)
