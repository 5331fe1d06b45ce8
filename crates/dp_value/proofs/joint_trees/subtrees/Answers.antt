use Rattle.std.proofs.Common.{◌≢◌, ◌<◌, length, sym, ◌∙◌, arith, below_more, get_or-set_other, get_or-set_same}
use Rattle.std.proofs.Math.ListN.{length-set}
use Rattle.dp_spec.specs.PolicyTree.{subtree}
use Rattle.dp_value.specs.JointTrees.{first_trees}
use Rattle.dp_value.proofs.JointTreeLists.{are_after, has_subtree, tree_in}
use Rattle.dp_value.proofs.joint_trees.subtrees.Goals as goal

pub subtree-requires : goal.subtree-requires
subtree-requires c =
    let m = c.args.model.now.model in
    let n = length m.actions in
    let i = c.loop-agent.agent in
    let li : i < n = omega (arith, c.agents-agent-end.ensures.is, c.loop-agent-test.true) in
    let is = tree_in n c.args.trees.now i c.index-trees-agent.result li
    (omega (arith, c.type_inv.trees, c.agents-agent-end.ensures.limit, c.loop-agent-test.true)) in
    let has = has_subtree m c.args.rest (first_trees n c.args.trees.now) c.requires.policy
    (sym c.invariant.ensures.model.sizes.alike) c.args.seen i c.requires.some c.requires.seen li in
    rw (is, c.local_obs.ensures) has

pub loop-agent-preserved : goal.loop-agent-preserved
loop-agent-preserved c =
    let all = c.loop-agent.invariant.all in
    let n = length c.args.model.now.model.actions in
    let few = c.agents-agent-end.ensures.limit in
    let end = c.agents-agent-end.ensures.is in
    let i = c.loop-agent.agent in
    let li : i < n = omega (arith, end, c.loop-agent-test.true) in
    record {
      all = length-set c.loop-agent.after i c.subtree.result ∙ all;
      are = below_more _ _
          (λ k lt d. let ne : k ≢ c.loop-agent.agent = omega (arith, lt) in
          rw get_or-set_other (c.loop-agent.invariant.are k lt d))
          (λ d. let lt : c.loop-agent.agent < length c.loop-agent.after =
          omega (arith, all, few, c.loop-agent-test.true) in
          rw get_or-set_same (c.subtree.ensures
          ∙ (λ j. subtree (tree_in n c.args.trees.now i c.index-trees-agent.result li
          (omega (arith, c.type_inv.trees, c.agents-agent-end.ensures.limit, c.loop-agent-test.true)) j)
          (c.local_obs.ensures j))));
    }

pub returns : goal.returns
returns c =
    let m = c.args.model.now.model in
    let n = length m.actions in
    let few = c.agents-agent-end.ensures.limit in
    let end = c.agents-agent-end.ensures.is in
    are_after m c.args.rest (first_trees n c.args.trees.now) c.requires.policy
    (sym c.invariant.ensures.model.sizes.alike) c.args.seen c.loop-agent.after
    (omega (arith, c.loop-agent.invariant.all, few, end))
    (λ i lt d. c.loop-agent.invariant.are i (omega (arith, lt, end, c.loop-agent-test.false)) d)
