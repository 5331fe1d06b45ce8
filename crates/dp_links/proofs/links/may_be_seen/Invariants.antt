use Rattle.std.proofs.Common.{◌≡◌}
use Rattle.dp_base.specs.Sums.{nat_sum}
use Rattle.dp_spec.specs.Model.{obs_at}
use Rattle.dp_links.proofs.links.may_be_seen.Given as goal

abbrev pub invariant-loop-state : goal.invariant-loop-state
invariant-loop-state l = nat_sum l.state (λ t. obs_at l.model.model l.action t l.joint) ≡ 0
