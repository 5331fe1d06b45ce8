use Rattle.std.proofs.Common.{◌≤◌, ◌+◌, [], ◌∷◌, ◌++◌, List, add-one, length, drop, map, sym, subst, ap, ◌∙◌, arith}
use Rattle.std.proofs.lemmas.List.{map-append}
use Rattle.dp_spec.specs.ConstantPolicy.{constant_policy, constant_tree, constant_trees}
use Rattle.dp_spec.specs.JointNumbers.{parts_of}
use Rattle.dp_spec.specs.PolicyTree.{PolicyTree}
use Rattle.dp_spec.proofs.JointNumberLaws.{length-parts_of}
use Rattle.dp_laws.proofs.ConstantPolicies.{constant_policy_fits}
use Rattle.dp_policy.specs.Trees.{AreKeptTrees}
use Rattle.dp_policy.specs.TreeValue.{policy_tree}
use Rattle.dp_policy.proofs.ConstantTrees.{constant_policy_is, constant_tree_step, constant_trees_end}
use Rattle.dp_policy.proofs.JoinedTrees.{kept_trees}
use Rattle.dp_policy.proofs.trees_of_action.constant.Goals as goal

pub loop-agent-init : goal.loop-agent-init
loop-agent-init c =
    let m = c.args.model.now.model in
    ap (λ l. map policy_tree l ++ constant_trees m.observations c.args.horizon (parts_of m.actions c.args.a))
    c.new-trees.ensures.items
    ∙ constant_policy_is m c.args.horizon c.args.a

pub loop-agent-preserved : goal.loop-agent-preserved
loop-agent-preserved c =
    let m = c.args.model.now.model in
    let h = c.args.horizon in
    let i = c.loop-agent.agent in
    let parts = parts_of m.actions c.args.a in
    let alike = c.invariant.ensures.model.sizes.alike in
    let counted = length-parts_of m.actions c.args.a in
    let more = ap (map policy_tree) c.in_ok-push.ensures.items
    ∙ map-append policy_tree c.loop-agent.trees.items (c.in_ok-tree.tree ∷ []) in
    ap (λ (p : List PolicyTree). p ++ constant_trees (drop (i + 1) m.observations) h (drop (i + 1) parts)) more
    ∙ rw add-one (constant_tree_step m.observations parts h i _ _ _
    (omega (arith, alike, c.agents-agent-end.ensures.is, c.loop-agent-test.true))
    (omega (arith, counted, c.agents-agent-end.ensures.is, c.loop-agent-test.true)) c.loop-agent.invariant
    (c.in_ok-tree.ensures ∙ (λ j. constant_tree (c.observations-observations.ensures j) h
    (c.local_action.ensures j))))

pub of-requires : goal.of-requires
of-requires c =
    let m = c.args.model.now.model in
    let h = c.args.horizon in
    let alike = c.invariant.ensures.model.sizes.alike in
    let within = c.requires.within in
    let le : length m.observations ≤ c.loop-agent.agent =
    omega (arith, alike, c.agents-agent-end.ensures.is, c.loop-agent-test.false) in
    let is = constant_trees_end m.observations
    (parts_of m.actions c.args.a) h c.loop-agent.agent _ _ le c.loop-agent.invariant in
    subst (AreKeptTrees h) (sym is)
    (kept_trees m c.invariant.ensures.model h within.some_step (let few = within.horizon in omega arith)
    (constant_policy m h c.args.a)
    (constant_policy_fits m c.invariant.ensures.model h c.args.a c.requires.action))
