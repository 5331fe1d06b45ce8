use Rattle.dp_search.specs.Completions.{HasClassesOf}
use Rattle.dp_search.proofs.completion.choose_each.Given as goal

abbrev pub invariant-loop-agent : goal.invariant-loop-agent
invariant-loop-agent l = HasClassesOf l.model.model l.front l.game
