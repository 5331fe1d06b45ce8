use Rattle.std.proofs.Common.{rules, ◌≡◌, ◌++◌, suc, List, add-one, map, drop, sym, ap, subst, ◌∙◌, arith}
use Rattle.std.specs.Prelude.{codes}
use Rattle.std.proofs.lemmas.List.{append-nil}
use Rattle.dp_spec.specs.BoundTree.{BoundTree, branch}
use Rattle.dp_tree.specs.TreeValue.{bound_tree, bound_trees}
use Rattle.dp_tree.proofs.TreeValues.{bound_tree_leaf, bound_tree_branch, bound_tree_merge}
use Rattle.dp_cert.specs.CertificateBytes.{children_bytes, node_bytes, three_bytes}
use Rattle.dp_cert.specs.TypedNumbers.{HasTypedNumbers, HaveTypedNumbers}
use Rattle.dp_cert.proofs.TreeSizeSteps.{child_count_is, mapped_drop, mapped_end, mapped_length}
use Rattle.dp_cert.proofs.WrittenTrees.{behind, branch_start, on_ok, on_same, one_child}
use Rattle.dp_cert.proofs.write.+push_tree.Goals as goal

pub loop-kid-init : goal.loop-kid-init
loop-kid-init t c =
    let items = c.deref-kid-items.result.now in
    let ks = bound_trees (map bound_tree items) in
    let is = ap bound_tree c.in-Branch.is ∙ bound_tree_branch c.in-Branch.agent c.in-Branch.class
    c.in-Branch.kids
    ∙ ap (λ ts. branch c.in-Branch.agent c.in-Branch.class (bound_trees (map bound_tree ts)))
    (sym c.deref-kid-items.ensures.value) in
    let count = c.len.ensures ∙ sym c.deref-kid-items.ensures.len ∙ sym (mapped_length bound_tree items)
    ∙ sym (child_count_is (map bound_tree items)) in
    let written = branch_start c.args.text.now.items c.push_three.new.text.items c.in-Branch.agent c.in-Branch.class
    c.len.result
    ks c.in_ok-push_three-in-Branch.ensures count
    ∙ ap (λ (T : BoundTree). c.args.text.now.items ++ node_bytes T) (sym is) in
    (written, λ kids. subst HasTypedNumbers (sym is) (search rules, search rules, kids))

pub loop-kid-preserved : goal.loop-kid-preserved
loop-kid-preserved t c =
    let l = c.loop-kid in
    let items = c.deref-kid-items.result.now in
    let e = mapped_drop bound_tree items l.kid-index c.kid-item.result c.loop-kid-test.true c.kid-item.is in
    let so_far = subst (λ (ts : List BoundTree). l.text.items ++ children_bytes (bound_trees ts)
    ≡ c.args.text.now.items ++ node_bytes (bound_tree c.args.tree.now)) e l.invariant.0 in
    let behind_one = ap (λ k. bound_trees (map bound_tree (drop k items))) (add-one l.kid-index) in
    let typed = subst (λ (ts : List BoundTree). HaveTypedNumbers (bound_trees ts) → HasTypedNumbers (bound_tree
    c.args.tree.now)) e l.invariant.1 in (
      ap (λ ks. c.push_tree.new.text.items ++ children_bytes ks) behind_one
          ∙ one_child l.text.items c.push_tree.new.text.items _ (bound_tree c.kid-item.result)
          (map bound_tree (drop (suc l.kid-index) items))
          c.in_ok-push_tree-in-Branch.ensures.bytes so_far,
      λ kids. typed (c.in_ok-push_tree-in-Branch.ensures.typed, subst HaveTypedNumbers behind_one kids),
    )

pub returns-in-Leaf-clause-bytes : goal.returns-in-Leaf-clause-bytes
returns-in-Leaf-clause-bytes t c =
    on_ok c.push_value.result (λ e. e ∙ ap (λ (T : BoundTree). c.args.text.now.items ++ node_bytes T)
    (sym (ap bound_tree c.in-Leaf.is ∙ bound_tree_leaf c.in-Leaf.bound))) c.push_value.ensures.bytes

pub returns-in-Leaf-clause-typed : goal.returns-in-Leaf-clause-typed
returns-in-Leaf-clause-typed t c =
    on_same c.push_value.result (subst HasTypedNumbers (sym (ap bound_tree c.in-Leaf.is ∙ bound_tree_leaf
    c.in-Leaf.bound)) c.push_value.ensures.typed)

pub returns-in_ok-push_three-in-Merge-clause-typed : goal.returns-in_ok-push_three-in-Merge-clause-typed
returns-in_ok-push_three-in-Merge-clause-typed t c =
    let i = c.in-Merge.agent in
    let is = ap bound_tree c.in-Merge.is ∙ bound_tree_merge i c.in-Merge.first c.in-Merge.second
    c.in-Merge.kid in
    on_ok c.push_tree-in-Merge.result (λ typed. subst HasTypedNumbers (sym is)
    (search rules, search rules, search rules, subst (λ k. HasTypedNumbers (bound_tree k)) c.deref.ensures typed))
    c.push_tree-in-Merge.ensures.typed

pub returns-in_ok-push_three-in-Merge-clause-bytes : goal.returns-in_ok-push_three-in-Merge-clause-bytes
returns-in_ok-push_three-in-Merge-clause-bytes t c =
    let i = c.in-Merge.agent in
    let is = ap bound_tree c.in-Merge.is ∙ bound_tree_merge i c.in-Merge.first c.in-Merge.second
    c.in-Merge.kid in
    on_ok c.push_tree-in-Merge.result (λ e.
    behind c.args.text.now.items c.push_three-in-Merge.new.text.items c.push_tree-in-Merge.new.text.items
    (three_bytes (codes "M ") i c.in-Merge.first c.in-Merge.second)
    (node_bytes (bound_tree c.in-Merge.kid.value))
    (c.in_ok-push_three-in-Merge.ensures
    ∙ ap (λ k. c.args.text.now.items ++ three_bytes (codes "M ") i c.in-Merge.first k) c.from.ensures)
    (e ∙ ap (λ k. c.push_three-in-Merge.new.text.items ++ node_bytes (bound_tree k)) c.deref.ensures)
    ∙ ap (λ (T : BoundTree). c.args.text.now.items ++ node_bytes T) (sym is)) c.push_tree-in-Merge.ensures.bytes

pub returns-after-loop-kid-clause-bytes : goal.returns-after-loop-kid-clause-bytes
returns-after-loop-kid-clause-bytes t c =
    let l = c.loop-kid in
    let items = c.deref-kid-items.result.now in
    let e = mapped_end bound_tree items l.kid-index (omega (arith, c.loop-kid-test.false)) in
    sym (append-nil l.text.items)
    ∙ subst (λ (ts : List BoundTree). l.text.items ++ children_bytes (bound_trees ts) ≡ c.args.text.now.items
    ++ node_bytes (bound_tree c.args.tree.now)) e l.invariant.0

pub returns-after-loop-kid-clause-typed : goal.returns-after-loop-kid-clause-typed
returns-after-loop-kid-clause-typed t c =
    let l = c.loop-kid in
    let items = c.deref-kid-items.result.now in
    let e = mapped_end bound_tree items l.kid-index (omega (arith, c.loop-kid-test.false)) in
    subst (λ (ts : List BoundTree). HaveTypedNumbers (bound_trees ts)
    → HasTypedNumbers (bound_tree c.args.tree.now)) e
    l.invariant.1 tt
