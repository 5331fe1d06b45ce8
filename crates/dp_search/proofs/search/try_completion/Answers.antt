use Rattle.std.proofs.Common.{[], rules}
use Rattle.dp_search.proofs.TriedPolicies.{held_are_open}
use Rattle.dp_search.proofs.search.try_completion.Goals as goal

pub completion-requires-clause-early : goal.completion-requires-clause-early
completion-requires-clause-early g c =
    let S = g.X.Planner.space c.args.planner.now in
    let meaning = g.X.Planner.meaning c.args.planner.now in
    let are = held_are_open meaning S _ _ _ c.args.state.now [] c.requires.runs.1 in
    let all = are.0 in
    search (rules, all, c.in-Some.ensures.item)

pub completion-requires-clause-narrow : goal.completion-requires-clause-narrow
completion-requires-clause-narrow g c =
    let S = g.X.Planner.space c.args.planner.now in
    let meaning = g.X.Planner.meaning c.args.planner.now in
    let are = held_are_open meaning S _ _ _ c.args.state.now [] c.requires.runs.1 in
    let all = are.1 in
    (c.in-Some.leaf.now.above, search (rules, all, c.in-Some.ensures.item))
