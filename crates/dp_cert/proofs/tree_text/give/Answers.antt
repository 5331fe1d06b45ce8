use Rattle.std.proofs.Common.{◌∷◌, [], List, map, ap, subst, ◌∙◌}
use Rattle.std.proofs.lemmas.List.{map-append}
use Rattle.dp_spec.specs.BoundTree.{BoundTree, merge}
use Rattle.dp_tree.specs.TreeValue.{bound_tree}
use Rattle.dp_tree.proofs.TreeValues.{bound_tree_merge}
use Rattle.dp_tree.specs.declared.tree.Tree.TheViews as views
use Rattle.dp_cert.specs.declared.tree_text.Given.TheVariants as given
use Rattle.dp_cert.specs.OpenNodes.{IsBranchWith, branch_frame, merge_frame, frame_of}
use Rattle.dp_cert.proofs.OpenTrees.{branch_given, given_in, merge_given}
use Rattle.dp_cert.proofs.tree_text.give.Goals as goal

pub returns-in_ok-push-in-Branch-clause-gives : goal.returns-in_ok-push-in-Branch-clause-gives
returns-in_ok-push-in-Branch-clause-gives c =
    let kids = map bound_tree c.in-Branch.kids.items in
    let t = bound_tree c.args.tree in
    let more = ap (map bound_tree) c.in_ok-push-in-Branch.ensures.items
    ∙ map-append bound_tree c.in-Branch.kids.items (c.args.tree ∷ []) in
    let is = subst (λ (ks : List BoundTree). IsBranchWith c.in-Branch.agent c.in-Branch.class ks
    c.in-Branch.left
    c.branch_with.result)
    more c.branch_with.ensures in
    given_in c.args.above (branch_frame c.in-Branch.agent c.in-Branch.class kids c.in-Branch.left)
    t c.branch_with.result
    (ap frame_of c.in-Branch.is) (branch_given c.in-Branch.agent c.in-Branch.class c.in-Branch.left kids t
    c.branch_with.result is)

pub returns-in_ok-kid-in-Merge-clause-gives : goal.returns-in_ok-kid-in-Merge-clause-gives
returns-in_ok-kid-in-Merge-clause-gives c =
    let i = c.in-Merge.agent in
    let a = c.in-Merge.first in
    let b = c.in-Merge.second in
    given_in c.args.above (merge_frame i a b) (bound_tree c.args.tree)
    (given.Whole (views.Merge i a b c.in_ok-kid-in-Merge.kid)) (ap frame_of c.in-Merge.is)
    (merge_given i a b (bound_tree c.args.tree) _
    (bound_tree_merge i a b c.in_ok-kid-in-Merge.kid ∙ ap (λ k. merge i a b (bound_tree k))
    c.in_ok-kid-in-Merge.ensures.ok))
