use Rattle.std.proofs.Common.{◌≡◌, ◌+ℤ◌, get_or, pos}
use Rattle.dp_base.specs.Sums.{int_sum}
use Rattle.dp_game.proofs.change.bound_with.Given as goal

abbrev pub invariant-loop-joint : goal.invariant-loop-joint
invariant-loop-joint l = l.bound ≡ l.earned +ℤ int_sum l.joint (λ C. get_or l.greatest C (pos 0))
