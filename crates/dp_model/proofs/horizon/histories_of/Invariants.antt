use Rattle.std.proofs.Common.{◌≡◌, ◌*◌, ◌^◌, ◌≤◌}
use Rattle.dp_base.specs.Sums.{nat_sum}
use Rattle.dp_model.proofs.horizon.histories_of.Given as goal

abbrev pub invariant-loop-seen : goal.invariant-loop-seen
invariant-loop-seen l = record {
  so_far : l.count ≡ nat_sum l.seen (λ t. l.observations ^ t);
  limit : l.count ≤ l.seen * 2 ^ 120;
}
