use Rattle.std.proofs.Common.{◌≡◌, ◌++◌, drop}
use Rattle.dp_cli.specs.EpisodeTexts.{steps_text}
use Rattle.dp_cli.proofs.episodes.push_steps.Given as goal

abbrev pub invariant-loop-time : goal.invariant-loop-time
invariant-loop-time l =
    l.fn.text.items ++ steps_text 0 l.steps ≡ l.text.items ++ steps_text l.time (drop l.time l.steps)
