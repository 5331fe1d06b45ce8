use Rattle.std.proofs.Common.{map, ap, ◌∙◌, arith}
use Rattle.dp_spec.specs.PolicyTree.{node}
use Rattle.dp_policy.specs.TreeValue.{policy_tree, policy_trees}
use Rattle.dp_policy.proofs.ConstantTrees.{constant_leaf, constant_node}
use Rattle.dp_policy.proofs.TreeValues.{made_is}
use Rattle.dp_policy.proofs.trees_of_action.+constant_tree.Goals.{then-steps-gt1+else-loop-seen-test, else-steps-gt1}
use Rattle.dp_policy.proofs.trees_of_action.+constant_tree.Goals as goal

pub returns : goal.returns
returns t c =
    made_is _
    ∙ elim c.if-steps-gt1.branch [
      | then-steps-gt1+else-loop-seen-test w ↦
          ap (λ v. node c.args.action (policy_trees (map policy_tree v.items))) w.kids-is
          ∙ constant_node c.args.observations c.args.steps c.args.action w.loop-seen._seen _ w.if-steps-gt1.true
          w.loop-seen.invariant (omega (arith, w.loop-seen-test.false, w.loop-seen.auto._seen-end))
      | else-steps-gt1 w ↦
          ap (λ v. node c.args.action (policy_trees (map policy_tree v.items))) w.kids-is
          ∙ constant_leaf c.args.observations c.args.steps c.args.action _ w.if-steps-gt1.false
          (ap (map policy_tree) c.new-kids.ensures.items)
    ]
