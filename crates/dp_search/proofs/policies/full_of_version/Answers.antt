use Rattle.std.proofs.Common.{ℕ, List, subst, sym, ◌∙◌}
use Rattle.dp_spec.specs.FullPolicy.{full_policy}
use Rattle.dp_spec.specs.Mode.{IsWithinLimits}
use Rattle.dp_spec.specs.PolicyTree.{IsPolicyOf, PolicyTree}
use Rattle.dp_spec.specs.SharedPolicy.{IsSharedOf}
use Rattle.dp_policy.specs.Trees.{joint_policy}
use Rattle.dp_search.proofs.VersionPolicies.{IsFormOf, is_second, plain_made, reduced_made}
use Rattle.dp_search.proofs.policies.full_of_version.Goals as goal

first_kept : (c : goal.After-drop-policy-inside-then-version-eq1)
    → IsFormOf c.args.model.now.model c.args.fit c.args.version
    (full_policy c.args.model.now.model c.args.front.now.front) c.in_ok-rows.rows
first_kept c =
    let m = c.args.model.now.model in
    let h = c.args.fit.horizon in
    let qs = full_policy m c.args.front.now.front in
    let of_front = subst (λ (z : ℕ). IsPolicyOf m z (joint_policy c.in_ok-policy.policy)) c.requires.horizon
    c.in_ok-policy.ensures.of_model in
    let of_model : IsPolicyOf m h qs = subst (λ (rs : List PolicyTree). IsPolicyOf m h rs)
    c.in_ok-policy.ensures.policy of_front in
    plain_made m c.args.fit c.args.version qs c.invariant.ensures.model c.if-version-eq1.true
    (c.requires.within.first c.if-version-eq1.true) of_model _ _
    (c.in_ok-policy.ensures.horizon ∙ c.requires.horizon) c.in_ok-policy.ensures.policy c.in_ok-rows.rows
    c.in_ok-rows.ensures

pub returns-in_ok-rows-clause-policy : goal.returns-in_ok-rows-clause-policy
returns-in_ok-rows-clause-policy c = (first_kept c).policy

pub returns-in_ok-rows-clause-worth : goal.returns-in_ok-rows-clause-worth
returns-in_ok-rows-clause-worth c = (first_kept c).worth

pub full_policy-requires-clause-limits : goal.full_policy-requires-clause-limits
full_policy-requires-clause-limits c =
    subst (IsWithinLimits c.args.model.now.model) (sym c.requires.horizon)
    (c.requires.within.first c.if-version-eq1.true)

pub reduce-requires : goal.reduce-requires
reduce-requires c =
    let m = c.args.model.now.model in
    subst (λ (z : ℕ). IsSharedOf m z c.in_ok-rows-2.rows.rows) (sym c.in_ok-rows-2.ensures.horizon)
    c.in_ok-rows-2.ensures.of_model

second_kept : (c : goal.After-drop-rows-inside-else-version-eq1)
    → IsFormOf c.args.model.now.model c.args.fit c.args.version
    (full_policy c.args.model.now.model c.args.front.now.front) c.in_ok-form.form
second_kept c =
    let m = c.args.model.now.model in
    let fit = c.args.fit in
    let two = is_second m fit.horizon c.args.version c.requires.within c.if-version-eq1.false in
    let some = (c.requires.within.second two).0 in
    reduced_made m fit c.args.version (full_policy m c.args.front.now.front) c.invariant.ensures.model two some
    c.in_ok-rows-2.rows (c.in_ok-rows-2.ensures.horizon ∙ c.requires.horizon)
    (subst (λ (z : ℕ). IsSharedOf m z c.in_ok-rows-2.rows.rows) c.requires.horizon
    c.in_ok-rows-2.ensures.of_model)
    c.in_ok-rows-2.ensures.policy c.in_ok-form.form c.in_ok-form.ensures

pub returns-in_ok-form-clause-policy : goal.returns-in_ok-form-clause-policy
returns-in_ok-form-clause-policy c = (second_kept c).policy

pub returns-in_ok-form-clause-worth : goal.returns-in_ok-form-clause-worth
returns-in_ok-form-clause-worth c = (second_kept c).worth
