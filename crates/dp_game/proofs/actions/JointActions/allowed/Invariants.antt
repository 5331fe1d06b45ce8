use Rattle.std.proofs.Common.{◌≡◌, ◌-◌, ◌++◌, filter}
use Rattle.dp_base.specs.Sums.{numbers_below}
use Rattle.dp_spec.specs.JointNumbers.{parts_of, product}
use Rattle.dp_game.specs.Games.{allowed_actions, each_agrees}
use Rattle.dp_game.proofs.actions.JointActions.allowed.Given as goal

abbrev pub invariant-loop-step : goal.invariant-loop-step
invariant-loop-step l =
    l.allowed.items ++ filter (λ a. each_agrees l.wanted.items (parts_of l.self a))
    (numbers_below (product l.self - l.step)) ≡ allowed_actions l.self l.wanted.items
