use Rattle.std.proofs.Common.{[], ◌∷◌, refl, ◌∙◌}
use Rattle.std.specs.Prelude.{codes}
use Rattle.std.proofs.lemmas.Result.{err_from_is_err_and}
use Rattle.dp_spec.specs.BoundTree.{BoundTree}
use Rattle.dp_lines.specs.Grammar.{ends, ◌>>=◌}
use Rattle.dp_tree.specs.TreeValue.{bound_tree}
use Rattle.dp_cert.specs.CertificateGrammar.{tree_lines}
use Rattle.dp_cert.specs.PolicyGrammar.{Text}
use Rattle.dp_lines.specs.Steps.{the_words}
use Rattle.dp_lines.proofs.TextParts.{bind_ok, fails_then}
use Rattle.dp_cert.proofs.read.tree_part.Goals as goal

end_behind : BoundTree → Text BoundTree
end_behind tree = the_words (codes "end" ∷ []) >>= λ end. ends tree

pub returns-in_err-at : goal.returns-in_err-at
unfolding end_behind
returns-in_err-at c =
    let p = err_from_is_err_and c.from_residual.result c.from_residual.ensures.1 in
    rw (p.1, p.2) (fails_then _ _ (the_words (codes "tree" ∷ [])) (λ t. tree_lines 2048 >>= end_behind)
    c.args.from.line c.args.from.rest.now
    refl (c.in_err-at.ensures (codes "tree" ∷ []) (assumption, tt) refl))

pub returns-in_err-tree : goal.returns-in_err-tree
unfolding end_behind
returns-in_err-tree c =
    let p = err_from_is_err_and c.from_residual-in_err-tree.result c.from_residual-in_err-tree.ensures.1 in
    let s0 = bind_ok (the_words (codes "tree" ∷ [])) (λ t. tree_lines 2048 >>= end_behind)
    c.args.from.line c.args.from.rest.now _
    (c.in_ok-at.ensures (codes "tree" ∷ []) (assumption, tt) refl) in
    rw (p.1, p.2) (fails_then _ _ (tree_lines 2048) end_behind c.in_ok-at.at.line c.in_ok-at.at.rest.now s0
    c.in_err-tree.ensures)

pub returns-in_err-to : goal.returns-in_err-to
unfolding end_behind
returns-in_err-to c =
    let p = err_from_is_err_and c.from_residual-in_err-to.result c.from_residual-in_err-to.ensures.1 in
    let T = bound_tree c.in_ok-tree.tree in
    let s0 = bind_ok (the_words (codes "tree" ∷ [])) (λ t. tree_lines 2048 >>= end_behind)
    c.args.from.line c.args.from.rest.now _
    (c.in_ok-at.ensures (codes "tree" ∷ []) (assumption, tt) refl) in
    let s1 = bind_ok (tree_lines 2048) end_behind c.in_ok-at.at.line c.in_ok-at.at.rest.now _
    c.in_ok-tree.ensures in
    rw (p.1, p.2) (fails_then _ _ (the_words (codes "end" ∷ [])) (λ end. ends T)
    c.in_ok-tree.at.line c.in_ok-tree.at.rest.now (s0 ∙ s1)
    (c.in_err-to.ensures (codes "end" ∷ []) (assumption, tt) refl))

pub returns : goal.returns
unfolding end_behind
returns c =
    let T = bound_tree c.in_ok-tree.tree in
    let s0 = bind_ok (the_words (codes "tree" ∷ [])) (λ t. tree_lines 2048 >>= end_behind)
    c.args.from.line c.args.from.rest.now _
    (c.in_ok-at.ensures (codes "tree" ∷ []) (assumption, tt) refl) in
    let s1 = bind_ok (tree_lines 2048) end_behind c.in_ok-at.at.line c.in_ok-at.at.rest.now _
    c.in_ok-tree.ensures in
    let s2 = bind_ok (the_words (codes "end" ∷ [])) (λ end. ends T)
    c.in_ok-tree.at.line c.in_ok-tree.at.rest.now _
    (c.in_ok-to.ensures (codes "end" ∷ []) (assumption, tt) refl) in
    s0 ∙ s1 ∙ s2
