use Rattle.std.proofs.Common.{rules, suc, map, drop, refl, sym, ap, subst, ◌∙◌, add-one, arith}
use Rattle.dp_spec.specs.BoundTree.{branch}
use Rattle.dp_tree.specs.TreeValue.{bound_tree, bound_trees}
use Rattle.dp_tree.proofs.TreeValues.{bound_tree_leaf, bound_tree_branch, bound_tree_merge}
use Rattle.dp_cert.specs.TreeSizes.{IsSmallTree}
use Rattle.dp_cert.proofs.TreeSizeSteps.{AreSmallFrom, no_room, branch_small, small_branch, branch_children}
use Rattle.dp_cert.proofs.TreeSizeSteps.{small_start, small_further, small_stops, small_end, merge_small, small_merge}
use Rattle.dp_cert.proofs.TreeSizeSteps.{mapped_drop, mapped_length, mapped_end}
use Rattle.dp_cert.proofs.fits.+small_tree.Goals as goal

pub returns-then-most-eq0 : goal.returns-then-most-eq0
returns-then-most-eq0 t c = λ small. no_room c.args.deepest (bound_tree c.args.tree.now)
    (rw c.if-most-eq0.true at small)

pub returns-then-not-may_have : goal.returns-then-not-may_have
returns-then-not-may_have t c = λ small.
    let is = ap bound_tree c.in-Branch.is ∙ bound_tree_branch c.in-Branch.agent c.in-Branch.class
    c.in-Branch.kids in
    let all = subst (IsSmallTree c.args.deepest c.args.most) is small in
    let size = mapped_length bound_tree c.in-Branch.kids.items in
    let few = branch_children c.args.deepest c.args.most c.in-Branch.agent c.in-Branch.class
    (map bound_tree c.in-Branch.kids.items) all in
    let no = c.if-not-may_have.ensures.1 ((
      few.0,
      omega (arith, size, few.1, c.len.ensures, c.in-Branch.kids.ok.0),
      omega (arith, size, few.2, c.len.ensures, c.in-Branch.kids.ok.0),
    )) in absurd cc

pub loop-kid-init : goal.loop-kid-init
loop-kid-init t c = small_start c.args.deepest c.args.most (map bound_tree c.deref-kid-items.result.now)
    (omega (arith, c.if-most-eq0.false)) (c.if-not-may_have.ensures.0 refl).0

pub loop-kid-preserved : goal.loop-kid-preserved
loop-kid-preserved t c =
    let all = map bound_tree c.deref-kid-items.result.now in
    let e = mapped_drop bound_tree c.deref-kid-items.result.now c.loop-kid.kid-index c.kid-item.result
    c.loop-kid-test.true c.kid-item.is in
    let from = subst (AreSmallFrom c.args.deepest c.args.most c.loop-kid.count all) e c.loop-kid.invariant in
    let kid = c.in-Some.ensures in
    rw add-one (small_further c.args.deepest c.args.most c.loop-kid.count c.in-Some.nodes all
    (bound_tree c.kid-item.result) (map bound_tree (drop (suc c.loop-kid.kid-index)
    c.deref-kid-items.result.now)) from kid.0 kid.1)

pub returns-in_default : goal.returns-in_default
returns-in_default t c = λ small.
    let all = map bound_tree c.deref-kid-items.result.now in
    let e = mapped_drop bound_tree c.deref-kid-items.result.now c.loop-kid.kid-index c.kid-item.result
    c.loop-kid-test.true c.kid-item.is in
    let from = subst (AreSmallFrom c.args.deepest c.args.most c.loop-kid.count all) e c.loop-kid.invariant in
    let is = ap bound_tree c.in-Branch.is ∙ bound_tree_branch c.in-Branch.agent c.in-Branch.class
    c.in-Branch.kids
    ∙ ap (λ ts. branch c.in-Branch.agent c.in-Branch.class (bound_trees (map bound_tree ts)))
    (sym c.deref-kid-items.ensures.value) in
    small_stops c.args.deepest c.args.most c.loop-kid.count all (bound_tree c.kid-item.result)
    (map bound_tree (drop (suc c.loop-kid.kid-index) c.deref-kid-items.result.now)) from
    c.in_default.ensures (small_branch c.args.deepest c.args.most c.in-Branch.agent c.in-Branch.class all
    (subst (IsSmallTree c.args.deepest c.args.most) is small))

pub returns-then-deepest-eq0 : goal.returns-then-deepest-eq0
returns-then-deepest-eq0 t c = λ small.
    let is = ap bound_tree c.in-Merge.is ∙ bound_tree_merge c.in-Merge.agent c.in-Merge.first c.in-Merge.second
    c.in-Merge.kid in
    let e = (subst (IsSmallTree c.args.deepest c.args.most) is small).depth in
    omega (arith, e, c.if-deepest-eq0.true)

pub returns-in-Leaf : goal.returns-in-Leaf
returns-in-Leaf t c =
    rw (c.in-Leaf.is, bound_tree_leaf c.in-Leaf.bound) (
      record
          { depth = omega arith; nodes = omega (arith, c.if-most-eq0.false); children = tt },
      omega arith,
    )

pub returns-after-loop-kid : goal.returns-after-loop-kid
returns-after-loop-kid t c =
    let items = c.deref-kid-items.result.now in
    let all = map bound_tree items in
    let e = mapped_end bound_tree items c.loop-kid.kid-index (omega (arith, c.loop-kid-test.false)) in
    let end = small_end c.args.deepest c.args.most c.loop-kid.count all
    (subst (AreSmallFrom c.args.deepest c.args.most c.loop-kid.count all) e c.loop-kid.invariant) in
    let size = mapped_length bound_tree items in
    let few = c.if-not-may_have.ensures.0 refl in
    let small = branch_small c.args.deepest c.args.most c.in-Branch.agent c.in-Branch.class all end.0
    (omega (arith, size, few.1, c.len.ensures, c.deref-kid-items.ensures.len))
    (omega (arith, size, few.2, c.len.ensures, c.deref-kid-items.ensures.len)) in
    rw (
      c.in-Branch.is,
      bound_tree_branch c.in-Branch.agent c.in-Branch.class c.in-Branch.kids,
      ← c.deref-kid-items.ensures.value,
    ) (small, (let n = end.1 in omega (arith, n)))

pub returns-in-Some-small_tree : goal.returns-in-Some-small_tree
returns-in-Some-small_tree t c =
    let kid = c.in-Some-small_tree.ensures in
    let value = c.deref.ensures in
    rw (c.in-Merge.is, bound_tree_merge c.in-Merge.agent c.in-Merge.first c.in-Merge.second c.in-Merge.kid) (
      merge_small c.args.deepest c.args.most c.in-Merge.agent c.in-Merge.first c.in-Merge.second
          (bound_tree c.in-Merge.kid.value) (omega (arith, c.if-deepest-eq0.false))
          (omega (arith, c.if-most-eq0.false)) (rw value at kid.0),
      (let n = rw value at kid.1 in omega (arith, n)),
    )

pub returns-in-None : goal.returns-in-None
returns-in-None t c = λ small.
    let is = ap bound_tree c.in-Merge.is ∙ bound_tree_merge c.in-Merge.agent c.in-Merge.first c.in-Merge.second
    c.in-Merge.kid in
    let all = small_merge c.args.deepest c.args.most c.in-Merge.agent c.in-Merge.first c.in-Merge.second
    (bound_tree c.in-Merge.kid.value) (subst (IsSmallTree c.args.deepest c.args.most) is small) in
    search (rules, c.in-None.ensures, all)
