use Rattle.std.proofs.Common.{◌≡◌, true}
use Rattle.std.specs.List.{list_all}
use Rattle.std.specs.Ordering.{int_eq}
use Rattle.dp_writer.specs.ModelRows.{each_below, reward_row}
use Rattle.dp_writer.proofs.rewards.is_only_reward.Given as goal

-- the rewards so far are this one
abbrev pub invariant-loop-next : goal.invariant-loop-next
invariant-loop-next l =
    list_all (λ row. list_all (λ x. int_eq x l.fn.reward) row)
    (each_below (reward_row l.model.model l.action l.state) l.next) ≡ true
