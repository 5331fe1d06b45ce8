use Rattle.std.proofs.Common.{◌≡◌, filter, get_or, pos}
use Rattle.dp_base.specs.Sums.{numbers_below}
use Rattle.dp_spec.specs.Bound.{all_agree}
use Rattle.dp_spec.specs.Front.{class_counts}
use Rattle.dp_spec.specs.JointNumbers.{parts_of}
use Rattle.dp_check.proofs.Choices.{best_in}
use Rattle.dp_check.proofs.bounds.class_bound.Given as goal

abbrev pub invariant-loop-action : goal.invariant-loop-action
invariant-loop-action l =
    l.best ≡ best_in (λ a. get_or l.row a (pos 0)) (filter (λ a. all_agree l.front.front.agents
    (parts_of (class_counts l.front.front.agents) l.class) (parts_of l.m.model.actions a))
    (numbers_below l.action))
