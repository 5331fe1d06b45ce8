use Rattle.std.proofs.Common.{rules, ◌≡◌, ℤ, map, drop, [], sym, ap, ◌∙◌, arith, to_z}
use Rattle.std.specs.Int.{w128}
use Rattle.std.proofs.lemmas.Int.{to_z-of_z}
use Rattle.dp_spec.specs.BoundTree.{branch, greatest_leaf}
use Rattle.dp_tree.specs.TreeValue.{bound_tree, bound_trees}
use Rattle.dp_tree.proofs.TreeValues.{bound_tree_branch, bound_tree_leaf, bound_tree_merge}
use Rattle.dp_search.proofs.LeavesSoFar.{greatest_at_end, greatest_with, mapped_end}
use Rattle.dp_search.proofs.greatest_leaf.+greatest_bound.Goals as goal

pub returns-in-Leaf : goal.returns-in-Leaf
returns-in-Leaf t c =
    to_z-of_z w128 c.copied.result (search (rules, c.copied.type_inv)) ∙ c.copied.ensures
    ∙ sym (ap greatest_leaf (ap bound_tree c.in-Leaf.is ∙ bound_tree_leaf c.in-Leaf.bound))

pub returns-after-loop-kid : goal.returns-after-loop-kid
returns-after-loop-kid t c =
    let kids = c.in-Branch.kids in
    let items = c.deref-kid-items.result.now in
    let loop = c.loop-kid in
    let greatest : ℤ = to_z w128 loop.greatest-bits in
    let done : map bound_tree (drop loop.kid-index items) ≡ [] =
    mapped_end bound_tree items loop.kid-index (omega (arith, c.loop-kid-test.false)) in
    let is = ap bound_tree c.in-Branch.is ∙ bound_tree_branch c.in-Branch.agent c.in-Branch.class kids
    ∙ ap (λ ts. branch c.in-Branch.agent c.in-Branch.class (bound_trees (map bound_tree ts)))
    (sym c.deref-kid-items.ensures.value) in
    sym (greatest_at_end loop.some greatest loop.invariant.1)
    ∙ ap (greatest_with loop.some greatest) (sym done) ∙ loop.invariant.0 ∙ sym (ap greatest_leaf is)

pub returns-in-Merge : goal.returns-in-Merge
returns-in-Merge t c =
    let kid = c.in-Merge.kid in
    let is = ap bound_tree c.in-Merge.is
    ∙ bound_tree_merge c.in-Merge.agent c.in-Merge.first c.in-Merge.second kid in
    let below = c.greatest_bound-in-Merge in
    to_z-of_z w128 below.result (search (rules, below.type_inv)) ∙ below.ensures
    ∙ ap (λ u. greatest_leaf (bound_tree u)) c.deref.ensures ∙ sym (ap greatest_leaf is)
