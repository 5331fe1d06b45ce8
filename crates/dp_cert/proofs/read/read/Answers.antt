use Rattle.std.proofs.Common.{rules}
use Rattle.std.proofs.lemmas.Result.{err_from_is_err_and}
use Rattle.dp_cert.specs.CertificateGrammar.{certificate_grammar}
use Rattle.dp_cert.specs.CertificateValue.{certificate_of}
use Rattle.dp_lines.proofs.TextParts.{text_ends, text_fails, text_goes_on, fails_also}
use Rattle.dp_cert.proofs.read.read.Goals as goal

pub returns-in_err-certificate : goal.returns-in_err-certificate
returns-in_err-certificate c =
    let m = c.args.model.now.model in
    let p = err_from_is_err_and c.from_residual.result c.from_residual.ensures.1 in
    rw (p.1, p.2) (fails_also _ _ _ (λ fault e. text_fails (certificate_grammar m) c.args.bytes.now fault e)
    c.in_err-certificate.ensures)

pub returns-then-not-is_empty : goal.returns-then-not-is_empty
returns-then-not-is_empty c =
    text_goes_on (certificate_grammar c.args.model.now.model) c.args.bytes.now
    (certificate_of c.in_ok-certificate.certificate)
    c.in_ok-certificate.end.line c.in_ok-certificate.end.rest.now c.in_ok-certificate.ensures
    (search (rules, c.is_empty.ensures, c.if-not-is_empty.true))

pub returns : goal.returns
returns c =
    text_ends (certificate_grammar c.args.model.now.model) c.args.bytes.now
    (certificate_of c.in_ok-certificate.certificate)
    c.in_ok-certificate.end.line c.in_ok-certificate.end.rest.now c.in_ok-certificate.ensures
    (search (rules, c.is_empty.ensures, c.if-not-is_empty.false))
