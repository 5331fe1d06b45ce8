use Rattle.std.proofs.Common.{◌≡◌, true}
use Rattle.std.specs.List.{list_all}
use Rattle.std.specs.Ordering.{int_eq}
use Rattle.dp_spec.specs.Model.{reward_at}
use Rattle.dp_writer.specs.ModelRows.{each_below}
use Rattle.dp_writer.proofs.rewards.is_only_in_row.Given as goal

-- the rewards so far are this one
abbrev pub invariant-loop-seen : goal.invariant-loop-seen
invariant-loop-seen l =
    list_all (λ x. int_eq x l.fn.reward) (each_below (reward_at l.model.model l.action l.state l.next) l.seen) ≡ true
