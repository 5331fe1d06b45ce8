use Rattle.std.proofs.Common.{◌≡◌, pos}
use Rattle.dp_base.specs.Sums.{int_sum}
use Rattle.dp_spec.specs.Merge.{placed_number}
use Rattle.dp_game.specs.Extended.{game_kept}
use Rattle.dp_game.specs.Games.{best_entry, own_counts, with_own_choice}
use Rattle.dp_game.proofs.Changes.{IsChanging}
use Rattle.dp_game.proofs.change.change_class.Given as goal

abbrev pub invariant-loop-other : goal.invariant-loop-other
invariant-loop-other l =
    IsChanging (game_kept l.actions l.choices l.best (pos 0)) l.agent l.class l.fn.choice l.other l.numbers
    × (l.change.gone ≡ int_sum l.other (λ y. best_entry (game_kept l.actions l.choices l.best (pos 0))
    (placed_number l.agent (own_counts l.choices) l.class y)))
    × (l.change.come ≡ int_sum l.other (λ y. best_entry
    (with_own_choice (game_kept l.actions l.choices l.best (pos 0)) l.agent l.class l.fn.choice)
    (placed_number l.agent (own_counts l.choices) l.class y)))
