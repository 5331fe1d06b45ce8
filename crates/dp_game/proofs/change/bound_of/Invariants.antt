use Rattle.std.proofs.Common.{◌≡◌, ◌+◌, ◌*◌, ◌+ℤ◌, get_or, length, pos}
use Rattle.dp_base.specs.Sums.{int_sum}
use Rattle.dp_game.proofs.change.bound_of.Given as goal

abbrev pub invariant-loop-joint : goal.invariant-loop-joint
invariant-loop-joint l = l.bound ≡ l.earned +ℤ int_sum l.joint
    (λ C. get_or l.best (get_or l.numbers C 0 * length l.numbers + C) (pos 0))
