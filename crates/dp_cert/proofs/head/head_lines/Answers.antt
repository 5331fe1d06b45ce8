use Rattle.std.proofs.Common.{[], ◌∷◌, true, false, cond, ◌∙◌}
use Rattle.std.specs.Prelude.{codes, pos}
use Rattle.std.proofs.lemmas.Result.{err_from_is_err_and}
use Rattle.dp_spec.specs.CertificateText.{look_form, mode_form, inner_form}
use Rattle.dp_cert.specs.CertificateGrammar.{interval_grammar}
use Rattle.dp_cert.specs.HeadValue.{interval_of}
use Rattle.dp_lines.specs.Steps.{the_words, the_numbers, one_of}
use Rattle.dp_cert.proofs.HeadParts.{behind_look, behind_mode, behind_interval, behind_inner, behind_title, head_end}
use Rattle.dp_lines.proofs.TextParts.{bind_ok, fails_then}
use Rattle.dp_cert.proofs.head.head_lines.Goals as goal

pub returns-in_err-interval : goal.returns-in_err-interval
returns-in_err-interval c =
    let p = err_from_is_err_and c.from_residual-in_err-interval.result
    c.from_residual-in_err-interval.ensures.1 in
    let L = (pos c.in_ok-look.look ∷ []) in
    let s0 = bind_ok (the_numbers look_form) behind_look c.args.from.line c.args.from.rest.now _
    c.in_ok-look.ensures.gives in
    let X = (cond c.in_ok-exact.exact 0 1) in
    let s1 = bind_ok (one_of (mode_form true) (mode_form false)) (behind_mode L)
    c.in_ok-look.at.line c.in_ok-look.at.rest.now _ c.in_ok-exact.ensures in
    rw (p.1, p.2) (fails_then _ _ interval_grammar (behind_interval L X)
    c.in_ok-exact.at.line c.in_ok-exact.at.rest.now (s0 ∙ s1) c.in_err-interval.ensures)

pub returns-in_err-inner : goal.returns-in_err-inner
returns-in_err-inner c =
    let p = err_from_is_err_and c.from_residual-in_err-inner.result c.from_residual-in_err-inner.ensures.1 in
    let L = (pos c.in_ok-look.look ∷ []) in
    let s0 = bind_ok (the_numbers look_form) behind_look c.args.from.line c.args.from.rest.now _
    c.in_ok-look.ensures.gives in
    let X = (cond c.in_ok-exact.exact 0 1) in
    let s1 = bind_ok (one_of (mode_form true) (mode_form false)) (behind_mode L)
    c.in_ok-look.at.line c.in_ok-look.at.rest.now _ c.in_ok-exact.ensures in
    let V = (interval_of c.in_ok-interval.interval) in
    let s2 = bind_ok interval_grammar (behind_interval L X) c.in_ok-exact.at.line c.in_ok-exact.at.rest.now _
    c.in_ok-interval.ensures in
    rw (p.1, p.2) (fails_then _ _ (the_numbers inner_form) (behind_inner L X V)
    c.in_ok-interval.at.line c.in_ok-interval.at.rest.now (s0 ∙ s1 ∙ s2) c.in_err-inner.ensures.gives)

pub returns-in_err-to : goal.returns-in_err-to
returns-in_err-to c =
    let p = err_from_is_err_and c.from_residual-in_err-to.result c.from_residual-in_err-to.ensures.1 in
    let L = (pos c.in_ok-look.look ∷ []) in
    let s0 = bind_ok (the_numbers look_form) behind_look c.args.from.line c.args.from.rest.now _
    c.in_ok-look.ensures.gives in
    let X = (cond c.in_ok-exact.exact 0 1) in
    let s1 = bind_ok (one_of (mode_form true) (mode_form false)) (behind_mode L)
    c.in_ok-look.at.line c.in_ok-look.at.rest.now _ c.in_ok-exact.ensures in
    let V = (interval_of c.in_ok-interval.interval) in
    let s2 = bind_ok interval_grammar (behind_interval L X) c.in_ok-exact.at.line c.in_ok-exact.at.rest.now _
    c.in_ok-interval.ensures in
    let I = (pos c.in_ok-inner.inner ∷ []) in
    let s3 = bind_ok (the_numbers inner_form) (behind_inner L X V)
    c.in_ok-interval.at.line c.in_ok-interval.at.rest.now _ c.in_ok-inner.ensures.gives in
    rw (p.1, p.2) (fails_then _ _ (the_words (codes "policy" ∷ [])) (behind_title L X V I)
    c.in_ok-inner.at.line c.in_ok-inner.at.rest.now (s0 ∙ s1 ∙ s2 ∙ s3) c.in_err-to.ensures)

pub returns : goal.returns
returns c =
    let L = (pos c.in_ok-look.look ∷ []) in
    let s0 = bind_ok (the_numbers look_form) behind_look c.args.from.line c.args.from.rest.now _
    c.in_ok-look.ensures.gives in
    let X = (cond c.in_ok-exact.exact 0 1) in
    let s1 = bind_ok (one_of (mode_form true) (mode_form false)) (behind_mode L)
    c.in_ok-look.at.line c.in_ok-look.at.rest.now _ c.in_ok-exact.ensures in
    let V = (interval_of c.in_ok-interval.interval) in
    let s2 = bind_ok interval_grammar (behind_interval L X) c.in_ok-exact.at.line c.in_ok-exact.at.rest.now _
    c.in_ok-interval.ensures in
    let I = (pos c.in_ok-inner.inner ∷ []) in
    let s3 = bind_ok (the_numbers inner_form) (behind_inner L X V)
    c.in_ok-interval.at.line c.in_ok-interval.at.rest.now _ c.in_ok-inner.ensures.gives in
    let s4 = bind_ok (the_words (codes "policy" ∷ [])) (behind_title L X V I)
    c.in_ok-inner.at.line c.in_ok-inner.at.rest.now _ c.in_ok-to.ensures in
    s0 ∙ s1 ∙ s2 ∙ s3 ∙ s4
    ∙ head_end c.in_ok-look.look c.in_ok-inner.inner c.in_ok-exact.exact V c.in_ok-to.to.line
    c.in_ok-to.to.rest.now
