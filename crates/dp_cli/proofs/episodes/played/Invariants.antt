use Rattle.std.proofs.Common.{◌≡◌, ◌++◌, ◌-◌}
use Rattle.dp_spec.specs.SharedPolicy.{unfolded}
use Rattle.dp_cli.specs.EpisodeTexts.{episodes_text}
use Rattle.dp_cli.proofs.episodes.played.Given as goal

abbrev pub invariant-loop-number : goal.invariant-loop-number
invariant-loop-number g l =
    episodes_text l.model.model l.policy.horizon (unfolded l.policy.rows) 0 l.episodes (g.R.Rng.stream l.fn.rng)
    ≡ l.text.items ++ episodes_text l.model.model l.policy.horizon (unfolded l.policy.rows) l.number
    (l.episodes - l.number) (g.R.Rng.stream l.rng)
