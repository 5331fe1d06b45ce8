use Rattle.dp_search.specs.Completions.{HasClassesOf}
use Rattle.dp_search.proofs.completion.choose_well.Given as goal

abbrev pub invariant-loop : goal.invariant-loop
invariant-loop l = HasClassesOf l.model.model l.front l.game
