use Rattle.std.proofs.Common.{◌≡◌}
use Rattle.dp_search.specs.Completions.{HasClassesOf, IsUnderway}
use Rattle.dp_search.proofs.UnderwayFronts.{left_at}
use Rattle.dp_search.proofs.completion.after_choices.Given as goal

abbrev pub invariant-loop-alloc : goal.invariant-loop-alloc
invariant-loop-alloc l =
    IsUnderway l.model.model l.front.horizon l.front.front.stage l.reached
    × (l.reached.front.stage ≡ l.front.front.stage → HasClassesOf l.model.model l.reached l.game)

abbrev pub decreases-loop-alloc : goal.decreases-loop-alloc
decreases-loop-alloc l = left_at l.front.front.stage l.reached
