use Rattle.std.proofs.Common.{sym, ◌∙◌}
use Rattle.std.proofs.lemmas.Result.{IfOk-weaker}
use Rattle.dp_search.proofs.ConstantPolicies.{is_first, rows_worth, trees_worth}
use Rattle.dp_search.proofs.constants.low_worth.Goals as goal

pub returns-then-has_rows : goal.returns-then-has_rows
returns-then-has_rows c =
    let m = c.args.model.now.model in
    let fit = c.args.fit in
    let same = rows_worth m c.invariant.ensures.model fit.horizon c.args.action c.args.version fit.exact
    c.requires.some_step c.requires.action c.requires.within (sym c.if-has_rows.ensures) in
    IfOk-weaker c.shared_worth.result _ _ (λ x is. is ∙ same) c.shared_worth.ensures

pub returns-else-has_rows : goal.returns-else-has_rows
returns-else-has_rows c =
    let m = c.args.model.now.model in
    let fit = c.args.fit in
    let one = is_first m fit.horizon c.args.version fit.exact c.requires.within (sym c.if-has_rows.ensures) in
    let same = trees_worth m c.invariant.ensures.model fit.horizon c.args.action c.args.version fit.exact
    c.requires.some_step c.requires.action c.requires.within one in
    IfOk-weaker c.tree_worth.result _ _ (λ x is. is ∙ same) c.tree_worth.ensures
