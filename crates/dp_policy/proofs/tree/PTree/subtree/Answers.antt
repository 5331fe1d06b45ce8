use Rattle.std.proofs.Common.{arith, ap, ◌∙◌}
use Rattle.dp_policy.specs.declared.tree.PTree.TheViews.{out-PTree}
use Rattle.dp_policy.specs.TreeValue.{policy_tree}
use Rattle.dp_policy.proofs.TreeValues.{kids_counted, kid_is}
use Rattle.dp_policy.proofs.tree.PTree.subtree.Goals as goal

pub index-requires : goal.index-requires
index-requires c = let k = kids_counted c.args.self.now in let same = (out-PTree c.args.self.now).kids.ok.0 in
    omega arith

pub returns : goal.returns
returns c = ap policy_tree c.index.ensures ∙ kid_is c.args.self.now c.args.seen _ c.requires
