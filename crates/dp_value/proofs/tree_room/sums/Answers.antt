use Rattle.std.proofs.Common.{◌≡◌, suc, ◌-◌, length, sym, arith}
use Rattle.dp_spec.specs.Model.{start_at}
use Rattle.dp_policy.specs.Trees.{joint_policy}
use Rattle.dp_value.specs.JointTrees.{first_trees}
use Rattle.dp_value.specs.WeightUpdates.{weights_of}
use Rattle.dp_value.proofs.TreeWorths.{same_evaluable, some_trees, trees_held, worth_from_start}
use Rattle.dp_value.proofs.tree_room.sums.Goals as goal

pub trees_of-trees-requires : goal.trees_of-trees-requires
trees_of-trees-requires g c =
    some_trees c.args.model.now.model c.requires.sizes.model c.args.policy.now.horizon c.args.policy.now
    c.requires.sizes.policy

pub worth_from-requires-clause-sizes : goal.worth_from-requires-clause-sizes
worth_from-requires-clause-sizes g c =
    let A = g.A.Arith.operations c.args.arith.now in
    let m = c.args.model.now.model in
    let p = c.args.policy.now in
    let steps : p.horizon ≡ suc (c.horizon.result - 1) = omega (arith, c.horizon.ensures.is, c.requires.some) in
    let trees = trees_held m p.horizon p c.trees_of-trees.result c.requires.sizes.policy
    c.trees_of-trees.ensures in
    same_evaluable A (g.A.Arith.calls c.args.arith.now) m p.horizon (suc (c.horizon.result - 1))
    (λ s. A.start (start_at m s)) (weights_of c.start_weights.new.weights)
    (joint_policy p) (first_trees (length m.actions) c.trees_of-trees.result) c.requires.sizes
    c.start_weights.ensures steps (sym trees)

pub returns : goal.returns
returns g c =
    let A = g.A.Arith.operations c.args.arith.now in
    let m = c.args.model.now.model in
    let p = c.args.policy.now in
    let steps : suc (c.horizon.result - 1) ≡ p.horizon = omega (arith, c.horizon.ensures.is, c.requires.some) in
    let trees = trees_held m p.horizon p c.trees_of-trees.result c.requires.sizes.policy
    c.trees_of-trees.ensures in
    worth_from_start A m p.horizon (suc (c.horizon.result - 1)) (weights_of c.start_weights.new.weights)
    (joint_policy p) (first_trees (length m.actions) c.trees_of-trees.result)
    c.worth_from.result c.worth_from.ensures c.start_weights.ensures steps trees
