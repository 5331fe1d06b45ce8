use Rattle.std.proofs.lemmas.Result.{err_from_is_err_and}
use Rattle.dp_cert.specs.CertificateValue.{certificate_of}
use Rattle.dp_cli.specs.CheckCommand.{reason_fault}
use Rattle.dp_cli.proofs.CertificateSizes.{lower_fits, units, upper_fits}
use Rattle.dp_cli.proofs.CertificateReading.{stops_reading}
use Rattle.dp_cli.proofs.Checks.{accepted_is, rejected_is}
use Rattle.dp_cli.proofs.check.check_of.Goals as goal

pub returns-in_err-cert : goal.returns-in_err-cert
returns-in_err-cert c =
    let exit = err_from_is_err_and c.from_residual.result c.from_residual.ensures.1 in
    rw (exit.1, exit.2)
    (stops_reading (reason_fault c.args.read.now.model.model) c.args.read.now.model.model c.invariant.ensures.model
    c.args.bytes.now
    c.in_err-cert.field-0.0
    c.in_err-cert.ensures.answers)

pub returns-in-Rejected : goal.returns-in-Rejected
returns-in-Rejected c =
    let first = rw c.in-Rejected.is at c.in_ok-reason.ensures.rejected in
    rw c.from.ensures
    (rejected_is c.args.read.now.model.model c.invariant.ensures.model c.args.bytes.now
    (certificate_of c.in_ok-cert.cert)
    c.in-Rejected.reason c.in_ok-cert.ensures.answers first)

pub accepted_text-requires-clause-lower : goal.accepted_text-requires-clause-lower
accepted_text-requires-clause-lower c =
    let m = c.args.read.now.model.model in
    let cert = certificate_of c.in_ok-cert.cert in
    let both = rw c.in-Accepted.is at c.in_ok-reason.ensures.accepted in
    lower_fits m cert c.invariant.ensures.model (both.0 tt)

pub accepted_text-requires-clause-upper : goal.accepted_text-requires-clause-upper
accepted_text-requires-clause-upper c =
    let m = c.args.read.now.model.model in
    let cert = certificate_of c.in_ok-cert.cert in
    let both = rw c.in-Accepted.is at c.in_ok-reason.ensures.accepted in
    upper_fits m cert c.invariant.ensures.model (both.0 tt)

pub accepted_text-requires-clause-some : goal.accepted_text-requires-clause-some
accepted_text-requires-clause-some c =
    let m = c.args.read.now.model.model in
    let cert = certificate_of c.in_ok-cert.cert in
    let both = rw c.in-Accepted.is at c.in_ok-reason.ensures.accepted in
    (units m c.invariant.ensures.model cert (both.0 tt)).0

pub accepted_text-requires-clause-unit : goal.accepted_text-requires-clause-unit
accepted_text-requires-clause-unit c =
    let m = c.args.read.now.model.model in
    let cert = certificate_of c.in_ok-cert.cert in
    let both = rw c.in-Accepted.is at c.in_ok-reason.ensures.accepted in
    (units m c.invariant.ensures.model cert (both.0 tt)).1

pub returns : goal.returns
returns c =
    let m = c.args.read.now.model.model in
    let cert = certificate_of c.in_ok-cert.cert in
    let both = rw c.in-Accepted.is at c.in_ok-reason.ensures.accepted in
    let valid = both.0 tt in (
      accepted_is m c.invariant.ensures.model c.args.bytes.now cert c.in_ok-cert.ensures.answers valid,
      record {
        is_model = c.invariant.ensures.model;
        certificate = cert;
        says = c.in_ok-cert.ensures.text;
        valid = valid;
        accepts = record {
          closed = c.in-Accepted.closed;
          lean = c.in-Accepted.lean;
          merged = c.in-Accepted.merged;
          is_closed = rw c.in-Accepted.is at c.in_ok-reason.ensures.closed;
          is_lean = rw c.in-Accepted.is at c.in_ok-reason.ensures.lean;
          is_merged = rw c.in-Accepted.is at c.in_ok-reason.ensures.merged;
          tells = c.in_ok-accepted_text-in-Accepted.ensures;
        };
      },
    )
