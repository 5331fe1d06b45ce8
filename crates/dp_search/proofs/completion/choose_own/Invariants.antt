use Rattle.dp_search.specs.Completions.{HasClassesOf}
use Rattle.dp_search.proofs.completion.choose_own.Given as goal

abbrev pub invariant-loop-class : goal.invariant-loop-class
invariant-loop-class l = HasClassesOf l.model.model l.front l.game
