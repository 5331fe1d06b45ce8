use Rattle.std.proofs.Common.{◌≡◌, ◌++◌, map}
use Rattle.std.specs.List.{range_with_len}
use Rattle.dp_spec.specs.Zeros.{nothing}
use Rattle.dp_cluster.proofs.advance.push_nothing.Given as goal

abbrev pub invariant-loop : goal.invariant-loop
invariant-loop l = l.weights.items ≡ l.fn.weights.items ++ map (λ s. nothing) (range_with_len 0 l.counter)
