use Rattle.std.proofs.Common.{ℕ, List, sym, subst}
use Rattle.dp_spec.specs.ConstantPolicy.{constant_policy}
use Rattle.dp_spec.specs.PolicyTree.{IsPolicyOf, PolicyTree}
use Rattle.dp_policy.specs.Trees.{joint_policy}
use Rattle.dp_laws.proofs.ConstantPolicies.{constant_policy_fits}
use Rattle.dp_search.proofs.VersionPolicies.{IsFormOf, constant_made, is_second, plain_made}
use Rattle.dp_search.proofs.policies.constant_of_version.Goals as goal
use Rattle.dp_search.proofs.policies.constant_of_version.Goals.{In_ok-rows-2}

pub plain-requires-clause-policy : goal.plain-requires-clause-policy
plain-requires-clause-policy c =
    let m = c.args.model.now.model in
    let policy = c.in_ok-policy.policy in
    subst (λ (h : ℕ). IsPolicyOf m h (joint_policy policy)) (sym c.in_ok-policy.ensures.horizon)
    (subst (λ (qs : List PolicyTree). IsPolicyOf m c.args.fit.horizon qs) (sym c.in_ok-policy.ensures.policy)
    (constant_policy_fits m c.invariant.ensures.model c.args.fit.horizon c.args.action c.requires.action))

first_kept : (c : goal.After-drop-policy-inside-then-version-eq1)
    → IsFormOf c.args.model.now.model c.args.fit c.args.version
    (constant_policy c.args.model.now.model c.args.fit.horizon c.args.action) c.in_ok-rows.rows
first_kept c =
    let m = c.args.model.now.model in
    let fit = c.args.fit in
    plain_made m fit c.args.version (constant_policy m fit.horizon c.args.action) c.invariant.ensures.model
    c.if-version-eq1.true (c.requires.within.first c.if-version-eq1.true)
    (constant_policy_fits m c.invariant.ensures.model fit.horizon c.args.action c.requires.action) _ _
    c.in_ok-policy.ensures.horizon c.in_ok-policy.ensures.policy c.in_ok-rows.rows c.in_ok-rows.ensures

pub returns-in_ok-rows-clause-policy : goal.returns-in_ok-rows-clause-policy
returns-in_ok-rows-clause-policy c = (first_kept c).policy

pub returns-in_ok-rows-clause-means : goal.returns-in_ok-rows-clause-means
returns-in_ok-rows-clause-means c = (first_kept c).means

pub returns-in_ok-rows-clause-worth : goal.returns-in_ok-rows-clause-worth
returns-in_ok-rows-clause-worth c = (first_kept c).worth

second_kept : (c : In_ok-rows-2) → IsFormOf c.args.model.now.model c.args.fit c.args.version
    (constant_policy c.args.model.now.model c.args.fit.horizon c.args.action) c.in_ok-rows-2.rows
second_kept c =
    let m = c.args.model.now.model in
    let two = is_second m c.args.fit.horizon c.args.version c.requires.within c.if-version-eq1.false in
    constant_made m c.args.fit c.args.version c.args.action c.invariant.ensures.model two c.requires.some_step
    c.requires.action c.in_ok-rows-2.rows c.in_ok-rows-2.ensures

pub returns-in_ok-rows-2-clause-policy : goal.returns-in_ok-rows-2-clause-policy
returns-in_ok-rows-2-clause-policy c = (second_kept c).policy

pub returns-in_ok-rows-2-clause-means : goal.returns-in_ok-rows-2-clause-means
returns-in_ok-rows-2-clause-means c = (second_kept c).means

pub returns-in_ok-rows-2-clause-worth : goal.returns-in_ok-rows-2-clause-worth
returns-in_ok-rows-2-clause-worth c = (second_kept c).worth
