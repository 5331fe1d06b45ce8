use Rattle.std.proofs.Common.{◌-◌, ◌∷◌, ap, subst, ◌∙◌, refl, map, arith}
use Rattle.dp_tree.specs.TreeValue.{bound_tree}
use Rattle.dp_cert.specs.declared.tree_text.Node.{Node}
use Rattle.dp_cert.specs.NodeLines.{HasChild}
use Rattle.dp_cert.specs.OpenNodes.{branch_frame, behind_node, frames_of}
use Rattle.dp_cert.proofs.OpenTrees.{frames_length, place_branch, place_merge}
use Rattle.dp_cert.proofs.tree_text.place.Goals as goal

pub returns-in_ok-push_open-in-Branch-clause-places :
    goal.returns-in_ok-push_open-in-Branch-clause-places
returns-in_ok-push_open-in-Branch-clause-places c = λ line bytes.
    let i = c.in-Branch.agent in
    let k = c.in-Branch.children in
    let F = frames_of c.args.waiting.now.items in
    let some = subst HasChild c.in-Branch.is c.requires.children in
    let all = c.in_ok-push_open-in-Branch.ensures.ok in
    let size = frames_length c.args.waiting.now.items in
    let none = ap (λ ts. branch_frame i c.in-Branch.class (map bound_tree ts) (k - 1) ∷ F)
    c.new.ensures.items in
    ap (λ (n : Node). behind_node n F line bytes) c.in-Branch.is
    ∙ place_branch i c.in-Branch.class k (k - 1) F (frames_of c.push_open.new.waiting.items) some refl
    (omega (arith, size, all.0)) (all.1 ∙ none) line bytes

pub returns-in_ok-push_open-in-Merge-clause-places :
    goal.returns-in_ok-push_open-in-Merge-clause-places
returns-in_ok-push_open-in-Merge-clause-places c = λ line bytes.
    let F = frames_of c.args.waiting.now.items in
    let all = c.in_ok-push_open-in-Merge.ensures.ok in
    let size = frames_length c.args.waiting.now.items in
    ap (λ (n : Node). behind_node n F line bytes) c.in-Merge.is
    ∙ place_merge c.in-Merge.agent c.in-Merge.first c.in-Merge.second F
    (frames_of c.push_open-in-Merge.new.waiting.items)
    (omega (arith, size, all.0)) all.1 line bytes
