use Rattle.std.proofs.Common.{◌≡◌, ℕ, map, ap, subst, ◌∙◌, arith}
use Rattle.std.proofs.lemmas.List.{map-append}
use Rattle.dp_spec.specs.declared.step.Step.{Step}
use Rattle.dp_spec.specs.declared.step.Step.TheVariants as steps
use Rattle.dp_spec.specs.declared.node.NodeKind.TheVariants as kinds
use Rattle.dp_spec.specs.Arena.{kind_at, AreTreesAt}
use Rattle.dp_spec.specs.WholeTree.{HasChildren}
use Rattle.dp_tree.specs.TreeValue.{bound_trees, bound_tree}
use Rattle.dp_tree.proofs.TreeValues.{bound_tree_branch, bound_tree_merge, trees_more}
use Rattle.dp_tree.proofs.arena.+build.Goals as goal

pub overflow_add-first_child : goal.overflow_add-first_child
overflow_add-first_child t c =
    let later = c.requires.arena.later c.args.node c.in-Inner.step c.in-Inner.first_child c.in-Inner.children
    c.requires.node c.in-Inner.is in
    omega (arith, later.1.0, c.requires.small, c.loop-k-test.true)

pub build-requires : goal.build-requires
build-requires t c =
    let later = c.requires.arena.later c.args.node c.in-Inner.step c.in-Inner.first_child c.in-Inner.children
    c.requires.node c.in-Inner.is in (
      omega (arith, c.decreases, later.0, later.1.0, c.requires.node, c.loop-k-test.true),
      (
        c.requires.arena,
        (c.requires.small, omega (arith, later.1.0, c.loop-k-test.true)),
      ),
    )

pub loop-k-preserved : goal.loop-k-preserved
loop-k-preserved t c =
    let more = trees_more c.args.nodes.now (map bound_tree c.loop-k.kids.items) (bound_tree
    c.in_ok-build-in-Branch.field-0) c.in-Inner.first_child c.loop-k.k c.loop-k.invariant
    c.in_ok-build-in-Branch.ensures in
    rw c.in_ok-push-in-Branch.ensures.items (simp map-append more)

pub build-requires-in-Merge : goal.build-requires-in-Merge
build-requires-in-Merge t c =
    let later = c.requires.arena.later c.args.node c.in-Inner.step c.in-Inner.first_child c.in-Inner.children
    c.requires.node c.in-Inner.is in
    let one : c.in-Inner.children ≡ 1 = subst (λ (s : Step). HasChildren s c.in-Inner.children) c.in-Merge.is
    later.1.1 in (
      omega (arith, c.decreases, later.0, later.1.0, c.requires.node),
      (
        c.requires.arena,
        (
          c.requires.small,
          omega (arith, later.1.0),
        ),
      ),
    )

pub returns-in-Leaf : goal.returns-in-Leaf
returns-in-Leaf t c = rw c.leaf_of.ensures (c.requires.node, c.in-Leaf.is)

pub returns-after-loop-k : goal.returns-after-loop-k
returns-after-loop-k t c =
    let is : kind_at c.args.nodes.now c.args.node ≡ kinds.Inner (steps.Branch c.in-Branch.agent c.in-Branch.class)
    c.in-Inner.first_child c.in-Inner.children =
    c.in-Inner.is ∙ ap (λ s. kinds.Inner s c.in-Inner.first_child c.in-Inner.children) c.in-Branch.is in
    let all : c.loop-k.k ≡ c.in-Inner.children = omega arith in
    let trees = subst (λ (n : ℕ). AreTreesAt c.args.nodes.now c.in-Inner.first_child n (bound_trees (map bound_tree
    c.loop-k.kids.items))) all c.loop-k.invariant in
    rw bound_tree_branch (c.requires.node, (c.in-Inner.first_child, (c.in-Inner.children, (is, trees))))

pub returns-in_ok-kid-in-Merge : goal.returns-in_ok-kid-in-Merge
returns-in_ok-kid-in-Merge t c =
    let later = c.requires.arena.later c.args.node c.in-Inner.step c.in-Inner.first_child c.in-Inner.children
    c.requires.node c.in-Inner.is in
    let one : c.in-Inner.children ≡ 1 = subst (λ (s : Step). HasChildren s c.in-Inner.children) c.in-Merge.is
    later.1.1 in
    let is : kind_at c.args.nodes.now c.args.node ≡ kinds.Inner (steps.Merge c.in-Merge.agent c.in-Merge.first
    c.in-Merge.second) c.in-Inner.first_child 1 =
    c.in-Inner.is ∙ ap (λ s. kinds.Inner s c.in-Inner.first_child c.in-Inner.children) c.in-Merge.is
    ∙ ap (kinds.Inner (steps.Merge c.in-Merge.agent c.in-Merge.first c.in-Merge.second) c.in-Inner.first_child)
    one in
    let a = c.in_ok-kid-in-Merge.ensures.ok in
    let b = c.in_ok-build-in-Merge.ensures in
    rw bound_tree_merge (
      c.requires.node,
      (
        c.in-Inner.first_child,
        (
          is,
          rw c.in_ok-kid-in-Merge.ensures.ok c.in_ok-build-in-Merge.ensures,
        ),
      ),
    )
