use Rattle.std.proofs.Common.{◌≡◌, List, sym, ap, subst, ◌∙◌}
use Rattle.std.proofs.lemmas.Result.{IfOk-weaker}
use Rattle.dp_spec.specs.declared.node.ArenaNode.{ArenaNode}
use Rattle.dp_spec.specs.BoundTree.{inner_count}
use Rattle.dp_spec.specs.Arena.{IsTreeAt, inner_nodes}
use Rattle.dp_spec.specs.WholeTree.{IsArena}
use Rattle.dp_tree.specs.Nodes.{Nodes}
use Rattle.dp_tree.specs.TreeValue.{bound_tree}
use Rattle.dp_tree.proofs.Within.{some_node, counted_below}
use Rattle.dp_tree.proofs.arena.NodeArena.finish.Goals as goal

pub build-requires-clause-node : goal.build-requires-clause-node
build-requires-clause-node c = rw c.deref.ensures.value (some_node c.self.inside.nodes.items c.self.invariant.arena)

pub returns-clause-counted : goal.returns-clause-counted
returns-clause-counted c =
    let same = c.deref.ensures.value ∙ ap (λ (v : Nodes). v.nodes) c.self.view_is in
    let arena = subst (λ (z : List ArenaNode). IsArena z) (sym c.deref.ensures.value) c.self.invariant.arena in
    IfOk-weaker c.build.result (λ t. IsTreeAt c.deref.result.now 0 (bound_tree t)) (λ t. inner_count (bound_tree t)
    ≡ inner_nodes c.args.self.nodes) (λ t at. counted_below c.args.self.nodes c.deref.result.now (bound_tree t)
    same arena at) c.build.ensures
