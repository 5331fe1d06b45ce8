use Rattle.std.proofs.Common.{◌≢◌, ◌<◌, length, ◌∙◌, arith, below_more, get_or-set_other, get_or-set_same}
use Rattle.std.proofs.lemmas.List.{length-map}
use Rattle.std.proofs.Math.ListN.{length-set}
use Rattle.dp_policy.specs.TreeValue.{policy_tree}
use Rattle.dp_policy.specs.Trees.{joint_policy}
use Rattle.dp_value.proofs.JointTreeLists.{are_trees}
use Rattle.dp_value.proofs.joint_trees.trees_of.Goals as goal

pub loop-agent-preserved : goal.loop-agent-preserved
loop-agent-preserved c =
    let all = c.loop-agent.invariant.all in
    let few = c.agents-agent-end.ensures.limit in
    record {
      all = length-set c.loop-agent.trees c.loop-agent.agent c.tree.result ∙ all;
      are = below_more _ _
          (λ i lt d. let ne : i ≢ c.loop-agent.agent = omega (arith, lt) in
          rw get_or-set_other (c.loop-agent.invariant.are i lt d))
          (λ d. let lt : c.loop-agent.agent < length c.loop-agent.trees =
          omega (arith, all, few, c.loop-agent-test.true) in rw get_or-set_same c.tree.ensures);
    }

pub returns : goal.returns
returns c =
    let p = c.args.policy.now in
    let few = c.agents-agent-end.ensures.limit in
    let end = c.agents-agent-end.ensures.is in
    are_trees (length p.trees) c.loop-agent.trees (joint_policy p) (length-map p.trees policy_tree)
    (omega (arith, c.loop-agent.invariant.all, few, end))
    (λ i lt d. c.loop-agent.invariant.are i (omega (arith, lt, end, c.loop-agent-test.false)) d)
