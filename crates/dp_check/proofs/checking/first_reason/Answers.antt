use Rattle.std.proofs.Common.{◌≡◌, pos, ap, ◌∙◌, rules}
use Rattle.std.specs.Prelude.{unwrap_or}
use Rattle.dp_spec.specs.Fitting.{front_bound}
use Rattle.dp_spec.specs.Steps.{root_front}
use Rattle.dp_spec.specs.Certificate.{arithmetic_for}
use Rattle.dp_cert.specs.CertificateValue.{certificate_of}
use Rattle.dp_check.proofs.Heads.{reason_after, reason_at_node}
use Rattle.dp_check.proofs.Tallies.{greatest_is_leaf, inner_is_count}
use Rattle.dp_check.proofs.checking.first_reason.Goals as goal

pub returns-in-Some-clause-reason : goal.returns-in-Some-clause-reason
returns-in-Some-clause-reason c =
    let m = c.args.m.now.model in
    let cert = certificate_of c.args.c.now in
    let mode_same : c.args.c.now.exact ≡ c.fit_over-fit.result.exact = search (rules, c.if-c-fit.false) in
    let mode = mode_same ∙ ap (λ f. f.exact) c.fit_over-fit.ensures in
    let unit_same : c.args.c.now.unit ≡ c.fit_over-fit.result.unit = search (rules, c.if-c-fit-2.false) in
    let unit = unit_same ∙ ap (λ f. f.unit) c.fit_over-fit.ensures in
    let lower_same : c.args.c.now.lower ≡ c.in_ok-lower.lower = search (rules, c.if-c-lower.false) in
    let lower = lower_same ∙ c.in_ok-lower.ensures in
    let found = rw c.in-Some.is at c.in_ok-reason.ensures in
    reason_at_node m cert mode unit lower c.args.tally.now _ c.requires.nothing found

pub returns-clause-reason : goal.returns-clause-reason
returns-clause-reason c =
    let m = c.args.m.now.model in
    let cert = certificate_of c.args.c.now in
    let mode_same : c.args.c.now.exact ≡ c.fit_over-fit.result.exact = search (rules, c.if-c-fit.false) in
    let mode = mode_same ∙ ap (λ f. f.exact) c.fit_over-fit.ensures in
    let unit_same : c.args.c.now.unit ≡ c.fit_over-fit.result.unit = search (rules, c.if-c-fit-2.false) in
    let unit = unit_same ∙ ap (λ f. f.unit) c.fit_over-fit.ensures in
    let lower_same : c.args.c.now.lower ≡ c.in_ok-lower.lower = search (rules, c.if-c-lower.false) in
    let lower = lower_same ∙ c.in_ok-lower.ensures in
    let passes = rw c.in_default.is at c.in_ok-reason.ensures in
    let A = arithmetic_for m cert in
    let root = root_front m in
    let cap = front_bound A m cert.horizon cert.look root in
    let new = c.walk_tree.new.tally in
    let inner = inner_is_count A m cert.horizon cert.look 0 cert.tree root cap c.args.tally.now new
    (ap (λ t. t.inner) c.requires.nothing) passes in
    let greatest = greatest_is_leaf A m cert.horizon cert.look 0 cert.tree root cap c.args.tally.now new
    (ap (λ t. t.greatest) c.requires.nothing) c.requires.fits.children passes in
    reason_after m cert mode unit lower c.args.tally.now new _ new.inner (unwrap_or new.greatest (pos 0))
    c.requires.nothing passes inner
    (ap (λ o. unwrap_or o (pos 0)) greatest) c.last_reason.ensures
