use Rattle.std.proofs.Common.{◌≡◌, refl, sym, ap, ◌∙◌, arith, rules}
use Rattle.std.specs.Int.{w128}
use Rattle.std.proofs.lemmas.Int.{to_z-of_z}
use mir.Val.{SFits}
use Rattle.dp_spec.specs.BoundTree.{no_bound_trees}
use Rattle.dp_cluster.proofs.ChosenActions.{agents_of}
use Rattle.dp_cluster.proofs.FrontParts.{unassigned_in}
use Rattle.dp_check.specs.Bounding.{arithmetic_of}
use Rattle.dp_check.specs.Walks.{passed, with_branch}
use Rattle.dp_check.proofs.EntrySteps.{branch_children_differ, branch_misplaced, branch_passes, enterable}
use Rattle.dp_check.proofs.enter.enter_branch.Goals as goal

pub returns-then-not-may_branch-clause-is : goal.returns-then-not-may_branch-clause-is
returns-then-not-may_branch-clause-is c = λ ks e.
    branch_misplaced (arithmetic_of c.args.m.now.model c.args.bounds.now)
    c.args.m.now.model c.args.bounds.now.fit.horizon c.args.node.now c.args.agent c.args.class ks
    c.args.tally.now
    (sym (c.may_branch.ensures ks) ∙ search (rules, c.if-not-may_branch.true))

pub actions-actions-requires : goal.actions-actions-requires
actions-actions-requires c =
    let m = c.args.m.now.model in
    let enter = enterable m c.args.bounds.now c.args.node.now c.args.agent c.args.class _ no_bound_trees
    (sym (c.may_branch.ensures no_bound_trees) ∙ search (rules, c.if-not-may_branch.false)) refl in
    let agents = agents_of c.requires.node.front.of_model.front.agents in
    let inside = (unassigned_in c.args.node.now.front.front.agents c.args.agent c.args.class
    enter.unassigned).0 in
    omega (arith, agents, inside)

pub returns-then-children-actions-clause-is : goal.returns-then-children-actions-clause-is
returns-then-children-actions-clause-is c = λ ks e.
    branch_children_differ (arithmetic_of c.args.m.now.model c.args.bounds.now)
    c.args.m.now.model c.args.bounds.now.fit.horizon c.args.node.now c.args.agent c.args.class ks
    c.args.tally.now
    c.actions-actions.result c.actions-actions.ensures (sym (c.may_branch.ensures ks)
    ∙ search (rules, c.if-not-may_branch.false)) (λ same. search (rules, c.if-children-actions.true, e, same))

pub stays_merged-requires-clause-stage : goal.stays_merged-requires-clause-stage
stays_merged-requires-clause-stage c =
    let enter = enterable c.args.m.now.model c.args.bounds.now c.args.node.now c.args.agent c.args.class _
    no_bound_trees (sym (c.may_branch.ensures no_bound_trees) ∙ search (rules, c.if-not-may_branch.false))
    refl in
    enter.stage

pub returns-clause-is : goal.returns-clause-is
returns-clause-is c = λ ks e.
    let A = arithmetic_of c.args.m.now.model c.args.bounds.now in
    let m = c.args.m.now.model in
    let same : c.args.children ≡ c.actions-actions.result = search (rules, c.if-children-actions.false) in
    let fits : SFits w128 c.cap-cap.result = search (rules, c.cap-cap.type_inv) in
    branch_passes A m c.args.bounds.now.fit.horizon c.args.node.now c.args.agent c.args.class ks
    c.args.tally.now
    (sym (c.may_branch.ensures ks) ∙ search (rules, c.if-not-may_branch.false))
    (e ∙ same ∙ c.actions-actions.ensures)
    ∙ ap passed (sym (c.add_branch.ensures ∙ (λ j. with_branch ((to_z-of_z w128 _ fits ∙ c.cap-cap.ensures) j)
    (c.in_ok-merged.ensures j) c.args.tally.now)))

pub returns-clause-stands : goal.returns-clause-stands
returns-clause-stands c = λ e.
    let same : c.args.children ≡ c.actions-actions.result = search (rules, c.if-children-actions.false) in
    enterable c.args.m.now.model c.args.bounds.now c.args.node.now c.args.agent c.args.class c.args.children
    no_bound_trees (sym (c.may_branch.ensures no_bound_trees) ∙ search (rules, c.if-not-may_branch.false))
    (same ∙ c.actions-actions.ensures)
