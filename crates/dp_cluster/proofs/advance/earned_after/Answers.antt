use Rattle.std.proofs.Common.{◌≡◌, ◌<◌, ◌+◌, ◌-◌, ◌^◌, suc, add-one, sym, ap, subst, ◌∙◌, arith}
use Rattle.dp_spec.specs.declared.span.Span.{Span}
use Rattle.dp_spec.specs.Calls.{size}
use Rattle.dp_spec.specs.Front.{class_counts}
use Rattle.dp_spec.specs.JointNumbers.{product}
use Rattle.dp_cluster.proofs.Advances.{earned_end, earned_next, earned_room, earned_start, earned_to}
use Rattle.dp_cluster.proofs.advance.earned_after.Goals as goal

pub loop-class-init : goal.loop-class-init
loop-class-init g c =
    let A = g.A.Arith.operations c.args.arith.now in
    let C = g.A.Arith.calls c.args.arith.now in
    let m = c.args.m.now.model in
    let k = c.args.front.now in
    let is = c.requires.sizes in
    c.earned-total.ensures.kept ∙ earned_start A C m k is (c.horizon.result - c.stage.result - 1)

pub bounds-actions-class : goal.bounds-actions-class
bounds-actions-class g c =
    let size = c.requires.actions.one_each in omega (
      arith,
      size,
      c.joint_classes-class-end.ensures.is,
      c.loop-class-test.true,
    )

pub earned_from-requires-clause-action : goal.earned_from-requires-clause-action
earned_from-requires-clause-action g c =
    c.requires.actions.are c.loop-class.class (omega (
      arith,
      c.joint_classes-class-end.ensures.is,
      c.loop-class-test.true,
    ))

pub earned_from-requires-clause-rest : goal.earned_from-requires-clause-rest
earned_from-requires-clause-rest g c =
    let early = c.requires.sizes.early in
    omega (arith, c.horizon.ensures, c.stage.ensures)

pub add_spans-total-requires : goal.add_spans-total-requires
add_spans-total-requires g c =
    let A = g.A.Arith.operations c.args.arith.now in
    let C = g.A.Arith.calls c.args.arith.now in
    let m = c.args.m.now.model in
    let k = c.args.front.now in
    let is = c.requires.sizes in
    let early = is.early in
    let e : k.front.stage + suc (c.horizon.result - c.stage.result - 1)
    ≡ k.horizon = omega (arith, c.horizon.ensures, c.stage.ensures) in
    let lt : c.loop-class.class < product (class_counts k.front.agents) = omega
    (arith, c.joint_classes-class-end.ensures.is, c.loop-class-test.true) in
    let step = earned_next A C m k is (c.horizon.result - c.stage.result - 1)
    c.loop-class.class c.loop-class.total c.earned_from.result c.loop-class.invariant c.earned_from.ensures in
    record {
      room = subst (λ (w : Span). size w < 2 ^ 127) (sym step)
          (earned_room A C m k is _ (suc c.loop-class.class) e lt);
    }

pub loop-class-preserved : goal.loop-class-preserved
loop-class-preserved g c =
    let A = g.A.Arith.operations c.args.arith.now in
    let C = g.A.Arith.calls c.args.arith.now in
    let m = c.args.m.now.model in
    let k = c.args.front.now in
    let is = c.requires.sizes in
    let step = earned_next A C m k is (c.horizon.result - c.stage.result - 1)
    c.loop-class.class c.loop-class.total c.earned_from.result c.loop-class.invariant c.earned_from.ensures in
    c.add_spans-total.ensures ∙ step ∙ ap (earned_to A C m k is (c.horizon.result - c.stage.result - 1))
    (sym (add-one c.loop-class.class))

pub returns : goal.returns
returns g c =
    let A = g.A.Arith.operations c.args.arith.now in
    let C = g.A.Arith.calls c.args.arith.now in
    let m = c.args.m.now.model in
    let k = c.args.front.now in
    let is = c.requires.sizes in
    let early = is.early in
    let e : k.front.stage + suc (c.horizon.result - c.stage.result - 1)
    ≡ k.horizon = omega (arith, c.horizon.ensures, c.stage.ensures) in
    let all : c.loop-class.class ≡ product (class_counts k.front.agents) = omega
    (arith, c.joint_classes-class-end.ensures.is, c.loop-class-test.false) in
    earned_end A C m k is _ c.loop-class.class c.loop-class.total e all c.loop-class.invariant
