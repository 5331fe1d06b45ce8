use Rattle.std.proofs.Common.{◌≡◌, ◌-◌, []}
use Rattle.dp_search.specs.SearchStates.{IsState, Runs}
use Rattle.dp_search.proofs.search.grow_all.Given as goal

abbrev pub invariant-loop-top : goal.invariant-loop-top
invariant-loop-top g l =
    Runs (g.X.Planner.meaning l.planner) (g.X.Planner.space l.planner) (g.X.Planner.constants l.planner)
    (g.X.Planner.width l.planner) l.budget l.state []
    × IsState (g.X.Planner.IsFront l.planner) (g.X.Planner.IsPolicy l.planner) (g.X.Planner.worth l.planner)
    l.state
    × g.X.Planner.IsRoom l.planner l.room
    × (l.state.inner ≡ 0 → g.X.Planner.IsBestConstant l.planner l.state.policy)

abbrev pub decreases-loop-top : goal.decreases-loop-top
decreases-loop-top g l = l.budget - l.state.inner
