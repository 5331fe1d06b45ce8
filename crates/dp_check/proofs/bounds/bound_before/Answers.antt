use Rattle.std.proofs.Common.{◌≡◌, suc, ◌<◌, ap, ◌∙◌, arith, rules}
use Rattle.std.specs.Int.{w128}
use Rattle.std.proofs.lemmas.Int.{to_z-of_z}
use mir.Val.{SFits}
use Rattle.dp_spec.specs.declared.span.Span.{Span}
use Rattle.dp_spec.specs.Front.{class_counts}
use Rattle.dp_spec.specs.JointNumbers.{product}
use Rattle.dp_pomdp.proofs.Steps.{offset_fits, offset_next}
use Rattle.dp_check.proofs.FrontBounds.{added, bound_is, bound_small, bound_start, row_room}
use Rattle.dp_check.proofs.bounds.bound_before.Goals as goal

pub row_of-requires : goal.row_of-requires
row_of-requires c =
    let inside : c.loop-class.class < product (class_counts c.args.front.now.front.agents) = omega
    (arith, c.joint_classes-class-end.ensures.is, c.loop-class-test.true) in
    row_room c.args.m.now.model c.args.bounds.now c.requires.bounds c.args.front.now c.requires.front
    c.requires.stage c.args.looks.now c.requires.looks c.loop-class.class c.joint_actions-width.result
    c.joint_actions-width.ensures.is inside

pub overflow_add-total : goal.overflow_add-total
overflow_add-total c =
    let m = c.args.m.now.model in
    let b = c.args.bounds.now in
    let F = c.args.front.now.front in
    let fits : SFits w128 c.class_bound-total.result = search (rules, c.class_bound-total.type_inv) in
    let inside : c.loop-class.class < product (class_counts F.agents) = omega
    (arith, c.joint_classes-class-end.ensures.is, c.loop-class-test.true) in
    offset_fits _ c.loop-class.class _ _ _ c.loop-class.invariant
    (to_z-of_z w128 _ fits ∙ c.class_bound-total.ensures ∙ added m b c.requires.bounds c.args.front.now
    c.requires.front c.requires.stage c.args.looks.now c.requires.looks c.loop-class.class
    c.joint_actions-width.result c.row_of.result.now c.joint_actions-width.ensures.is inside
    c.row_of.ensures.are)
    (bound_small m b c.requires.bounds c.args.front.now c.requires.front c.requires.stage
    (suc c.loop-class.class)
    inside)

pub loop-class-init : goal.loop-class-init
loop-class-init c =
    let fits : SFits w128 c.earned-total.result.high = search (rules, c.earned-total.type_inv) in
    bound_start c.args.m.now.model c.args.bounds.now c.requires.bounds c.args.front.now c.requires.front
    c.requires.stage _ (to_z-of_z w128 _ fits ∙ ap (λ (w : Span). w.high) c.earned-total.ensures.kept)

pub loop-class-preserved : goal.loop-class-preserved
loop-class-preserved c =
    let m = c.args.m.now.model in
    let b = c.args.bounds.now in
    let F = c.args.front.now.front in
    let fits : SFits w128 c.class_bound-total.result = search (rules, c.class_bound-total.type_inv) in
    let inside : c.loop-class.class < product (class_counts F.agents) = omega
    (arith, c.joint_classes-class-end.ensures.is, c.loop-class-test.true) in
    offset_next _ c.loop-class.class _ _ _ c.loop-class.invariant
    (to_z-of_z w128 _ fits ∙ c.class_bound-total.ensures ∙ added m b c.requires.bounds c.args.front.now
    c.requires.front c.requires.stage c.args.looks.now c.requires.looks c.loop-class.class
    c.joint_actions-width.result c.row_of.result.now c.joint_actions-width.ensures.is inside
    c.row_of.ensures.are)
    (bound_small m b c.requires.bounds c.args.front.now c.requires.front c.requires.stage
    (suc c.loop-class.class)
    inside)

pub returns : goal.returns
returns c =
    let m = c.args.m.now.model in
    let b = c.args.bounds.now in
    let all : c.loop-class.class ≡ product (class_counts c.args.front.now.front.agents) = omega
    (arith, c.joint_classes-class-end.ensures.is, c.loop-class-test.false) in
    c.loop-class.invariant ∙ bound_is m b c.requires.bounds c.args.front.now c.requires.front c.requires.stage
    c.loop-class.class all
