use Rattle.std.proofs.Common.{◌<◌, ℕ, ap, subst, sym, ◌∙◌}
use Rattle.dp_spec.specs.Model.{joint_actions}
use Rattle.dp_spec.specs.Front.{class_counts}
use Rattle.dp_spec.specs.Quantities.{class_weight_in, weights_after_in}
use Rattle.dp_spec.specs.Steps.{advanced_front}
use Rattle.dp_spec.specs.ClassSteps.{pair_number}
use Rattle.dp_value.specs.WeightUpdates.{weights_of}
use Rattle.dp_cluster.proofs.Advances.{act_below, pushable, pushed_is}
use Rattle.dp_base.proofs.MadeLists.{next_after}
use Rattle.dp_cluster.proofs.advance.push_nexts.Goals as goal

pub weight_after-requires-clause-sizes : goal.weight_after-requires-clause-sizes
weight_after-requires-clause-sizes g c =
    let A = g.A.Arith.operations c.args.arith.now in
    let C = g.A.Arith.calls c.args.arith.now in
    let m = c.args.m.now.model in
    let k = c.args.front.now in
    let is = c.requires.sizes in
    pushable A C m k is c.args.class c.requires.class (weights_of c.class_weights-before.result.now)
    c.class_weights-before.ensures.are

pub loop-state-preserved : goal.loop-state-preserved
loop-state-preserved g c =
    let A = g.A.Arith.operations c.args.arith.now in
    let C = g.A.Arith.calls c.args.arith.now in
    let m = c.args.m.now.model in
    let k = c.args.front.now in
    let is = c.requires.sizes in
    let new = c.weight_after.ensures ∙ ap (λ (a : ℕ). weights_after_in A m
    (weights_of c.class_weights-before.result.now) a c.args.seen c.loop-state.state)
    c.requires.action
    ∙ pushed_is A C m k is c.args.class c.requires.class (weights_of c.class_weights-before.result.now)
    c.class_weights-before.ensures.are c.args.seen c.loop-state.state c.requires.seen in
    next_after (class_weight_in A m (advanced_front m k.front)
    (pair_number (class_counts k.front.agents) m.observations c.args.class c.args.seen))
    c.args.weights.now.items c.loop-state.weights.items _ c.loop-state.state _ new c.in_ok-push.ensures.items
    c.loop-state.invariant

pub weight_after-requires-clause-action : goal.weight_after-requires-clause-action
weight_after-requires-clause-action g c =
    let m = c.args.m.now.model in
    subst (λ (a : ℕ). a < joint_actions m) (sym c.requires.action)
    (act_below (g.A.Arith.operations c.args.arith.now) (g.A.Arith.calls c.args.arith.now) m c.args.front.now
    c.requires.sizes c.args.class c.requires.class)
