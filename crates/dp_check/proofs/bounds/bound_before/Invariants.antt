use Rattle.std.proofs.Common.{◌≡◌, ◌+ℤ◌}
use Rattle.dp_base.specs.Sums.{greatest, int_sum}
use Rattle.dp_spec.specs.Bound.{agreeing_actions}
use Rattle.dp_spec.specs.Front.{fixed_joint_action}
use Rattle.dp_spec.specs.Quantities.{earned_reward_in}
use Rattle.dp_check.specs.Bounding.{arithmetic_of, look_ahead_at}
use Rattle.dp_check.proofs.bounds.bound_before.Given as goal

abbrev pub invariant-loop-class : goal.invariant-loop-class
invariant-loop-class l =
    let F = l.front.front in
    l.total
    ≡ (earned_reward_in (arithmetic_of l.m.model l.bounds) l.m.model (fixed_joint_action l.m.model F)
    l.bounds.fit.horizon F.stage).high
    +ℤ int_sum l.class (λ C. greatest (look_ahead_at l.m.model l.bounds F C) (agreeing_actions l.m.model F C))
