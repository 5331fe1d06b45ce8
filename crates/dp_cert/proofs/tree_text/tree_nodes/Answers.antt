use Rattle.std.proofs.Common.{subst, ◌∙◌, arith}
use Rattle.std.specs.Prelude.{Option}
use Rattle.std.proofs.lemmas.Result.{err_from_is_err_and}
use Rattle.dp_tree.specs.declared.tree.Tree.{Tree}
use Rattle.dp_cert.specs.OpenNodes.{IsOpenAt, behind_node, frames_of}
use Rattle.dp_cert.proofs.OpenTrees.{node_behind, open_start, place_fails}
use Rattle.dp_cert.proofs.tree_text.tree_nodes.Goals as goal

pub loop-waiting-init : goal.loop-waiting-init
loop-waiting-init c = record {
  same = open_start c.new-waiting.result.items c.args.from.line c.args.from.rest.now
      c.new-waiting.ensures.items;
  few = rw c.new-waiting.ensures.items (omega arith);
}

pub returns-in_err-tree : goal.returns-in_err-tree
returns-in_err-tree c =
    let l = c.loop-waiting in
    let F = frames_of l.waiting.items in
    let p = err_from_is_err_and c.from_residual-in_err-tree.result c.from_residual-in_err-tree.ensures.1 in
    rw (p.1, p.2) (place_fails _ c.in_ok-node.node F (frames_of c.place.new.waiting.items)
    _ c.in_ok-node.behind.line c.in_ok-node.behind.rest.now
    (l.invariant.same ∙ node_behind c.in_ok-node.node F l.at.line c.in_ok-node.behind.line l.at.rest.now
    c.in_ok-node.behind.rest.now c.in_ok-node.ensures.gives)
    c.in_err-tree.ensures.places)

pub returns-in-Some : goal.returns-in-Some
returns-in-Some c =
    let l = c.loop-waiting in
    let F = frames_of l.waiting.items in
    let places = subst (λ (o : Option Tree). IsOpenAt (behind_node c.in_ok-node.node F)
    (frames_of c.place.new.waiting.items) o) c.in-Some.is c.in_ok-tree.ensures.places in
    l.invariant.same ∙ node_behind c.in_ok-node.node F l.at.line c.in_ok-node.behind.line l.at.rest.now
    c.in_ok-node.behind.rest.now c.in_ok-node.ensures.gives
    ∙ places c.in_ok-node.behind.line c.in_ok-node.behind.rest.now
