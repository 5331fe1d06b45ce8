use Rattle.std.proofs.Common.{rules}
use Rattle.dp_spec.specs.BoundTree.{branch}
use Rattle.dp_check.proofs.EntrySteps.{and_not, and_so}
use Rattle.dp_check.proofs.enter.may_branch.Goals as goal

pub returns-then-not-may_refine : goal.returns-then-not-may_refine
returns-then-not-may_refine c = λ ks. and_not _ _ _ (c.may_refine.ensures (branch c.args.agent c.args.class ks))
    (search (rules, c.if-not-may_refine.true))

pub returns : goal.returns
returns c = λ ks. and_so _ _ _ _ (c.may_refine.ensures (branch c.args.agent c.args.class ks))
    (search (rules, c.if-not-may_refine.false)) c.is_unassigned.ensures
