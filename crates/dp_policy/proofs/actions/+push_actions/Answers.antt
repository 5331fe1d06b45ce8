use Rattle.std.proofs.Common.{◌++◌, ◌∷◌, [], sym, ap, ◌∙◌}
use Rattle.dp_policy.specs.ActionRows.{actions_below}
use Rattle.dp_policy.specs.TreeValue.{policy_tree}
use Rattle.dp_policy.proofs.TreeRows.{actions_at_root}
use Rattle.dp_policy.proofs.TreeValues.{action_is}
use Rattle.dp_policy.proofs.actions.+push_actions.Goals as goal

pub returns-then-steps-eq0 : goal.returns-then-steps-eq0
returns-then-steps-eq0 t c =
    let row = c.args.row.now.items in
    let tree = c.args.tree.now in
    c.in_ok-push.ensures.items
    ∙ ap (λ a. row ++ a ∷ []) (action_is tree)
    ∙ ap (λ k. row ++ actions_below k (policy_tree tree)) (sym c.if-steps-eq0.true)

pub loop-kid-init : goal.loop-kid-init
loop-kid-init t c = ap (λ l. c.args.row.now.items ++ l) (actions_at_root c.args.steps c.args.tree.now
    c.if-steps-eq0.false)
