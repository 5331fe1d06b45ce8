use Rattle.std.proofs.Common.{◌≢◌, ℕ, ◌<◌, length, take, sym, ap, subst, ◌∙◌, arith, below_more, get_or-set_other}
use Rattle.std.proofs.Common.{get_or-set_same}
use Rattle.std.proofs.Math.ListN.{length-set}
use Rattle.dp_spec.specs.PolicyTree.{root_action}
use Rattle.dp_spec.specs.Model.{joint_actions}
use Rattle.dp_model.specs.Parts.{AreParts}
use Rattle.dp_value.specs.JointTrees.{first_trees}
use Rattle.dp_value.proofs.JointTreeLists.{actions_are_parts, root_actions, root_below, root_is, tree_in}
use Rattle.dp_value.proofs.joint_trees.joint_action.Goals as goal

pub loop-agent-preserved : goal.loop-agent-preserved
loop-agent-preserved c =
    let all = c.loop-agent.invariant.all in
    let n = length c.args.model.now.model.actions in
    let few = c.agents-agent-end.ensures.limit in
    let end = c.agents-agent-end.ensures.is in
    let i = c.loop-agent.agent in
    let li : i < n = omega (arith, end, c.loop-agent-test.true) in
    record {
      all = length-set c.loop-agent.actions i c.root_action.result ∙ all;
      are = below_more _ _
          (λ k lt. let ne : k ≢ c.loop-agent.agent = omega (arith, lt) in
          rw get_or-set_other (c.loop-agent.invariant.are k lt))
          (let lt : c.loop-agent.agent < length c.loop-agent.actions =
          omega (arith, all, few, c.loop-agent-test.true) in
          rw get_or-set_same (c.root_action.ensures
          ∙ ap root_action (tree_in n c.args.trees.now i c.index-trees-agent.result li
          (omega (arith, c.type_inv.trees, c.agents-agent-end.ensures.limit, c.loop-agent-test.true)))));
    }

pub joint_action_of-requires : goal.joint_action_of-requires
joint_action_of-requires c =
    let m = c.args.model.now.model in
    let end = c.agents-agent-end.ensures.is in
    let few = c.agents-agent-end.ensures.limit in
    let qs = first_trees (length m.actions) c.args.trees.now in
    subst (λ (k : ℕ). AreParts m.actions (take k c.loop-agent.actions)) (sym c.agents.ensures.is)
    (actions_are_parts m c.args.rest qs c.requires.policy c.loop-agent.actions
    (omega (arith, c.loop-agent.invariant.all, few, end))
    (λ i lt. c.loop-agent.invariant.are i (omega (arith, lt, end, c.loop-agent-test.false))))

pub returns-clause-is : goal.returns-clause-is
returns-clause-is c =
    let m = c.args.model.now.model in
    let end = c.agents-agent-end.ensures.is in
    let few = c.agents-agent-end.ensures.limit in
    let qs = first_trees (length m.actions) c.args.trees.now in
    root_is m qs (take c.agents.result c.loop-agent.actions) c.joint_action_of.result c.joint_action_of.ensures
    (ap (λ (k : ℕ). take k c.loop-agent.actions) c.agents.ensures.is
    ∙ root_actions m c.args.rest qs c.requires.policy c.loop-agent.actions
    (omega (arith, c.loop-agent.invariant.all, few, end))
    (λ i lt. c.loop-agent.invariant.are i (omega (arith, lt, end, c.loop-agent-test.false))))

pub returns-clause-action : goal.returns-clause-action
returns-clause-action c =
    let m = c.args.model.now.model in
    let end = c.agents-agent-end.ensures.is in
    let few = c.agents-agent-end.ensures.limit in
    let qs = first_trees (length m.actions) c.args.trees.now in
    let is = root_is m qs (take c.agents.result c.loop-agent.actions) c.joint_action_of.result
    c.joint_action_of.ensures
    (ap (λ (k : ℕ). take k c.loop-agent.actions) c.agents.ensures.is
    ∙ root_actions m c.args.rest qs c.requires.policy c.loop-agent.actions
    (omega (arith, c.loop-agent.invariant.all, few, end))
    (λ i lt. c.loop-agent.invariant.are i (omega (arith, lt, end, c.loop-agent-test.false)))) in
    subst (λ (a : ℕ). a < joint_actions m) (sym is) (root_below m c.args.rest qs c.requires.policy)
