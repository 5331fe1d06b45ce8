use Rattle.std.proofs.Common.{◌-◌, refl, arith}
use Rattle.dp_tree.proofs.TreeValues.{bound_tree_branch}
use Rattle.dp_cert.proofs.tree_text.branch_with.Goals as goal

pub returns-then-left-eq0 : goal.returns-then-left-eq0
returns-then-left-eq0 c = (c.if-left-eq0.true, bound_tree_branch c.args.agent c.args.class c.args.kids)

pub returns : goal.returns
returns c = (c.args.left - 1, omega (arith, c.if-left-eq0.false), refl)
