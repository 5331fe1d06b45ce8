use Rattle.std.proofs.Common.{ℕ, List, sym, subst}
use Rattle.dp_spec.specs.PolicyTree.{IsPolicyOf, PolicyTree}
use Rattle.dp_policy.specs.Trees.{joint_policy}
use Rattle.dp_laws.proofs.ConstantPolicies.{constant_policy_fits}
use Rattle.dp_search.proofs.constants.tree_worth.Goals as goal

pub worth-requires-clause-policy : goal.worth-requires-clause-policy
worth-requires-clause-policy c =
    let m = c.args.model.now.model in
    let policy = c.in_ok-policy.policy in
    subst (λ (h : ℕ). IsPolicyOf m h (joint_policy policy)) (sym c.in_ok-policy.ensures.horizon)
    (subst (λ (qs : List PolicyTree). IsPolicyOf m c.args.fit.horizon qs) (sym c.in_ok-policy.ensures.policy)
    (constant_policy_fits m c.invariant.ensures.model c.args.fit.horizon c.args.action c.requires.action))
