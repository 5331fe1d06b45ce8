use Rattle.std.proofs.Common.{subst, ◌≡◌}
use Rattle.dp_check.specs.Walks.{passed, walked}
use Rattle.dp_spec.specs.Certificate.{arithmetic_for}
use Rattle.dp_spec.specs.Qualities.{certificate_nodes}
use Rattle.dp_laws.proofs.ValidCertificates.{claims_hold, closed_is_optimal, ends_in_order}
use Rattle.dp_cert.specs.CertificateValue.{certificate_of}
use Rattle.dp_check.specs.Verdicts.{reason_of}
use Rattle.dp_check.proofs.CertificateWords.{closed_is, lean_is, merged_is, through}
use Rattle.dp_check.proofs.Judged.{found_where, not_valid_with, valid_without}
use Rattle.dp_check.proofs.checking.check.Goals as goal

pub returns-in-Some-clause-accepted : goal.returns-in-Some-clause-accepted
returns-in-Some-clause-accepted c =
    let found = rw c.in-Some.is at c.in_ok-reason.ensures.reason in (
      λ none. absurd none,
      not_valid_with c.args.m.now.model (certificate_of c.args.c.now) c.requires
          (reason_of c.in-Some.reason) found,
    )

pub returns-in-Some-clause-rejected : goal.returns-in-Some-clause-rejected
returns-in-Some-clause-rejected c =
    let found = rw c.in-Some.is at c.in_ok-reason.ensures.reason in
    found_where c.args.m.now.model (certificate_of c.args.c.now) c.requires (reason_of c.in-Some.reason) found

pub returns-clause-accepted : goal.returns-clause-accepted
returns-clause-accepted c =
    let none = rw c.in_default.is at c.in_ok-reason.ensures.reason in
    (λ so. valid_without c.args.m.now.model (certificate_of c.args.c.now) c.requires none, λ valid. tt)

pub returns-clause-claims : goal.returns-clause-claims
returns-clause-claims c =
    let none = rw c.in_default.is at c.in_ok-reason.ensures.reason in
    λ so. claims_hold c.args.m.now.model (certificate_of c.args.c.now) c.invariant.ensures.model
    (valid_without c.args.m.now.model (certificate_of c.args.c.now) c.requires none)

pub returns-clause-closed : goal.returns-clause-closed
returns-clause-closed c =
    let m = c.args.m.now.model in
    let cert = certificate_of c.args.c.now in
    let passes = c.in_ok-reason.ensures.counted c.in_default.is in
    let from = subst (λ t. walked (arithmetic_for m cert) m cert.horizon (certificate_nodes m cert) t
    ≡ passed c.first_reason.new.tally) c.new-tally.ensures passes in
    through _ _ _ c.is_closed.ensures (closed_is m cert c.requires.children c.first_reason.new.tally from)

pub returns-clause-lean : goal.returns-clause-lean
returns-clause-lean c =
    let m = c.args.m.now.model in
    let cert = certificate_of c.args.c.now in
    let passes = c.in_ok-reason.ensures.counted c.in_default.is in
    let from = subst (λ t. walked (arithmetic_for m cert) m cert.horizon (certificate_nodes m cert) t
    ≡ passed c.first_reason.new.tally) c.new-tally.ensures passes in
    through _ _ _ c.is_lean.ensures (lean_is m cert c.requires.children c.first_reason.new.tally from)

pub returns-clause-merged : goal.returns-clause-merged
returns-clause-merged c =
    let m = c.args.m.now.model in
    let cert = certificate_of c.args.c.now in
    let passes = c.in_ok-reason.ensures.counted c.in_default.is in
    let from = subst (λ t. walked (arithmetic_for m cert) m cert.horizon (certificate_nodes m cert) t
    ≡ passed c.first_reason.new.tally) c.new-tally.ensures passes in
    merged_is m cert c.requires.children c.first_reason.new.tally from

pub returns-clause-ordered : goal.returns-clause-ordered
returns-clause-ordered c =
    let none = rw c.in_default.is at c.in_ok-reason.ensures.reason in
    λ so. ends_in_order c.args.m.now.model (certificate_of c.args.c.now) c.invariant.ensures.model
    (valid_without c.args.m.now.model (certificate_of c.args.c.now) c.requires none)

pub returns-clause-optimal : goal.returns-clause-optimal
returns-clause-optimal c =
    let m = c.args.m.now.model in
    let cert = certificate_of c.args.c.now in
    let none = rw c.in_default.is at c.in_ok-reason.ensures.reason in
    let passes = c.in_ok-reason.ensures.counted c.in_default.is in
    let from = subst (λ t. walked (arithmetic_for m cert) m cert.horizon (certificate_nodes m cert) t
    ≡ passed c.first_reason.new.tally) c.new-tally.ensures passes in
    let both = through _ _ _ c.is_closed.ensures (closed_is m cert c.requires.children c.first_reason.new.tally
    from) in
    λ closed exact. closed_is_optimal m cert c.invariant.ensures.model (valid_without m cert c.requires none)
    (both.0 closed) exact
