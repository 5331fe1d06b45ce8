use Rattle.dp_search.specs.FrontPlanners.{IsPlannerFront}
use Rattle.dp_search.proofs.large_game.reached.Given as goal

abbrev pub invariant-loop-choice : goal.invariant-loop-choice
invariant-loop-choice l = IsPlannerFront l.model.model l.fn.fit.horizon l.front
