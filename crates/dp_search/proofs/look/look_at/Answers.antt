use Rattle.std.proofs.Common.{sym, subst, ◌≤ℤ◌, ℤ}
use Rattle.std.proofs.lemmas.Result.{IfOk-weaker}
use Rattle.dp_search.specs.SearchStates.{open_leaf}
use Rattle.dp_search.proofs.TriedPolicies.{full_leaf_runs}
use Rattle.dp_search.proofs.look.look_at.Goals as goal

pub returns-in_ok-policy-clause-runs : goal.returns-in_ok-policy-clause-runs
returns-in_ok-policy-clause-runs g c =
    let S = g.X.Planner.space c.args.planner.now in
    let constants = g.X.Planner.constants c.args.planner.now in
    let width = g.X.Planner.width c.args.planner.now in
    let meaning = g.X.Planner.meaning c.args.planner.now in
    let lower = c.try_policy.new.state.lower in
    let full = sym c.if-is_full.ensures in
    IfOk-weaker c.try_policy.result _ _ (λ _ tried budget rest running.
    full_leaf_runs meaning S constants width budget c.args.state.now c.try_policy.new.state rest
    (open_leaf meaning c.args.leaf) c.try_policy.ensures.arena c.try_policy.ensures.held
    c.try_policy.ensures.inner
    c.try_policy.ensures.raised full
    (subst (λ (z : ℤ). z ≤ℤ lower) c.in_ok-policy.ensures.worth tried) running)
    c.try_policy.ensures.tried
