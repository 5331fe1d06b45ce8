use Rattle.std.proofs.Common.{◌≡◌, drop, max}
use Rattle.dp_search.specs.FrontPlanners.{widest}
use Rattle.dp_search.proofs.front_planner.widest.Given as goal

abbrev pub invariant-loop-agent : goal.invariant-loop-agent
invariant-loop-agent l = max l.most (widest (drop l.agent l.model.model.actions)) ≡ widest l.model.model.actions
