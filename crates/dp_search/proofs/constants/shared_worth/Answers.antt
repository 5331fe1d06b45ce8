use Rattle.std.proofs.Common.{sym, subst}
use Rattle.dp_spec.specs.SharedPolicy.{IsSharedOf}
use Rattle.dp_policy.specs.SharedRows.{HorizonRows}
use Rattle.dp_search.proofs.ConstantPolicies.{constant_rows_fit}
use Rattle.dp_search.proofs.constants.shared_worth.Goals as goal

pub new-requires-clause-policy : goal.new-requires-clause-policy
new-requires-clause-policy c =
    let m = c.args.model.now.model in
    subst (λ (p : HorizonRows). IsSharedOf m p.horizon p.rows) (sym c.in_ok-rows.ensures)
    (constant_rows_fit m c.args.fit.horizon c.args.action c.invariant.ensures.model c.requires.some_step
    c.requires.action)

pub worth_shared-requires-clause-policy : goal.worth_shared-requires-clause-policy
worth_shared-requires-clause-policy c =
    let m = c.args.model.now.model in
    subst (λ (p : HorizonRows). IsSharedOf m p.horizon p.rows) (sym c.in_ok-rows.ensures)
    (constant_rows_fit m c.args.fit.horizon c.args.action c.invariant.ensures.model c.requires.some_step
    c.requires.action)
