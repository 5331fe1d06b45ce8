use Rattle.std.proofs.Common.{Ok, sym, ap, ◌∙◌}
use Rattle.std.proofs.lemmas.Result.{err_from_is_err_and}
use Rattle.dp_lines.specs.Scanning.{front_of}
use Rattle.dp_tree.specs.TreeValue.{bound_tree}
use Rattle.dp_cert.specs.CertificateGrammar.{head_grammar, horizon_grammar, title_grammar, tree_grammar}
use Rattle.dp_cert.specs.HeadValue.{head_of}
use Rattle.dp_cert.specs.PolicyGrammar.{policy_grammar}
use Rattle.dp_lines.specs.Reading.{rest_at}
use Rattle.dp_cert.proofs.CertificateParts.{behind_head, behind_horizon, behind_policy, behind_tree, behind_version}
use Rattle.dp_cert.proofs.CertificateParts.{from_version}
use Rattle.dp_lines.proofs.TextParts.{bind_ok, fails_then}
use Rattle.dp_cert.proofs.read.lines.Goals as goal

pub returns-in_err-version : goal.returns-in_err-version
returns-in_err-version c =
    let p = err_from_is_err_and c.from_residual.result c.from_residual.ensures.1 in
    let m = c.args.model.now.model in
    rw (p.1, p.2) (fails_then _ _ title_grammar (behind_version m) c.args.from.line c.args.from.rest.now
    (ap (λ g. front_of g c.args.from.line c.args.from.rest.now) (from_version m)) c.in_err-version.ensures)

pub returns-in_err-horizon : goal.returns-in_err-horizon
returns-in_err-horizon c =
    let p = err_from_is_err_and c.from_residual-in_err-horizon.result
    c.from_residual-in_err-horizon.ensures.1 in
    let m = c.args.model.now.model in
    let V = c.in_ok-version.version in
    let s0 = bind_ok title_grammar (behind_version m) c.args.from.line c.args.from.rest.now _
    c.in_ok-version.ensures in
    rw (p.1, p.2) (fails_then _ _ (horizon_grammar m V) (behind_horizon m V)
    c.in_ok-version.at.line c.in_ok-version.at.rest.now (ap
    (λ g. front_of g c.args.from.line c.args.from.rest.now) (from_version m) ∙ s0)
    c.in_err-horizon.ensures.gives)

pub returns-in_err-head : goal.returns-in_err-head
returns-in_err-head c =
    let p = err_from_is_err_and c.from_residual-in_err-head.result c.from_residual-in_err-head.ensures.1 in
    let m = c.args.model.now.model in
    let V = c.in_ok-version.version in
    let s0 = bind_ok title_grammar (behind_version m) c.args.from.line c.args.from.rest.now _
    c.in_ok-version.ensures in
    let H = c.in_ok-horizon.horizon in
    let s1 = bind_ok (horizon_grammar m V) (behind_horizon m V)
    c.in_ok-version.at.line c.in_ok-version.at.rest.now _ c.in_ok-horizon.ensures.gives in
    rw (p.1, p.2) (fails_then _ _ head_grammar (behind_head m V H)
    c.in_ok-horizon.at.line c.in_ok-horizon.at.rest.now (ap
    (λ g. front_of g c.args.from.line c.args.from.rest.now) (from_version m) ∙ s0 ∙ s1) c.in_err-head.ensures)

pub returns-in_err-policy : goal.returns-in_err-policy
returns-in_err-policy c =
    let p = err_from_is_err_and c.from_residual-in_err-policy.result c.from_residual-in_err-policy.ensures.1 in
    let m = c.args.model.now.model in
    let V = c.in_ok-version.version in
    let s0 = bind_ok title_grammar (behind_version m) c.args.from.line c.args.from.rest.now _
    c.in_ok-version.ensures in
    let H = c.in_ok-horizon.horizon in
    let s1 = bind_ok (horizon_grammar m V) (behind_horizon m V)
    c.in_ok-version.at.line c.in_ok-version.at.rest.now _ c.in_ok-horizon.ensures.gives in
    let D = (head_of c.in_ok-head.head) in
    let s2 = bind_ok head_grammar (behind_head m V H) c.in_ok-horizon.at.line c.in_ok-horizon.at.rest.now _
    c.in_ok-head.ensures in
    rw (p.1, p.2) (fails_then _ _ (policy_grammar m V H) (behind_policy V H D)
    c.in_ok-head.at.line c.in_ok-head.at.rest.now (ap (λ g. front_of g c.args.from.line c.args.from.rest.now)
    (from_version m) ∙ s0 ∙ s1 ∙ s2) c.in_err-policy.ensures)

pub returns-in_err-tree : goal.returns-in_err-tree
returns-in_err-tree c =
    let p = err_from_is_err_and c.from_residual-in_err-tree.result c.from_residual-in_err-tree.ensures.1 in
    let m = c.args.model.now.model in
    let V = c.in_ok-version.version in
    let s0 = bind_ok title_grammar (behind_version m) c.args.from.line c.args.from.rest.now _
    c.in_ok-version.ensures in
    let H = c.in_ok-horizon.horizon in
    let s1 = bind_ok (horizon_grammar m V) (behind_horizon m V)
    c.in_ok-version.at.line c.in_ok-version.at.rest.now _ c.in_ok-horizon.ensures.gives in
    let D = (head_of c.in_ok-head.head) in
    let s2 = bind_ok head_grammar (behind_head m V H) c.in_ok-horizon.at.line c.in_ok-horizon.at.rest.now _
    c.in_ok-head.ensures in
    let P = c.in_ok-policy.policy.rows in
    let s3 = bind_ok (policy_grammar m V H) (behind_policy V H D)
    c.in_ok-head.at.line c.in_ok-head.at.rest.now _ c.in_ok-policy.ensures in
    rw (p.1, p.2) (fails_then _ _ tree_grammar (behind_tree V H D P)
    c.in_ok-policy.at.line c.in_ok-policy.at.rest.now (ap
    (λ g. front_of g c.args.from.line c.args.from.rest.now) (from_version m) ∙ s0 ∙ s1 ∙ s2 ∙ s3)
    c.in_err-tree.ensures)

pub returns : goal.returns
returns c =
    let m = c.args.model.now.model in
    let V = c.in_ok-version.version in
    let s0 = bind_ok title_grammar (behind_version m) c.args.from.line c.args.from.rest.now _
    c.in_ok-version.ensures in
    let H = c.in_ok-horizon.horizon in
    let s1 = bind_ok (horizon_grammar m V) (behind_horizon m V)
    c.in_ok-version.at.line c.in_ok-version.at.rest.now _ c.in_ok-horizon.ensures.gives in
    let D = (head_of c.in_ok-head.head) in
    let s2 = bind_ok head_grammar (behind_head m V H) c.in_ok-horizon.at.line c.in_ok-horizon.at.rest.now _
    c.in_ok-head.ensures in
    let P = c.in_ok-policy.policy.rows in
    let s3 = bind_ok (policy_grammar m V H) (behind_policy V H D)
    c.in_ok-head.at.line c.in_ok-head.at.rest.now _ c.in_ok-policy.ensures in
    let T = (bound_tree c.in_ok-tree.tree) in
    let s4 = bind_ok tree_grammar (behind_tree V H D P) c.in_ok-policy.at.line c.in_ok-policy.at.rest.now _
    c.in_ok-tree.ensures in
    ap (λ g. front_of g c.args.from.line c.args.from.rest.now) (from_version m) ∙ s0 ∙ s1 ∙ s2 ∙ s3 ∙ s4
    ∙ ap (λ k. Ok (rest_at k c.in_ok-tree.end.line c.in_ok-tree.end.rest.now)) (sym c.certificate_with.ensures)
