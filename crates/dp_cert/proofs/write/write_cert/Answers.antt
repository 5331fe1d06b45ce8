use Rattle.std.proofs.Common.{◌∙◌}
use Rattle.dp_cert.specs.CertificateValue.{certificate_of}
use Rattle.dp_cert.proofs.TypedTexts.{typed_text}
use Rattle.dp_cert.proofs.WrittenTexts.{bytes_are_text}
use Rattle.dp_cert.proofs.write.write_cert.Goals as goal

pub returns-clause-text : goal.returns-clause-text
returns-clause-text c m has =
    c.in_ok-text.ensures.bytes ∙ bytes_are_text m (certificate_of c.args.certificate.now) has

pub returns-clause-spelled : goal.returns-clause-spelled
returns-clause-spelled c m is fits =
    let cert = certificate_of c.args.certificate.now in
    typed_text m is cert c.in_ok-text.text.items fits c.in_ok-text.ensures.typed
    (c.in_ok-text.ensures.bytes ∙ bytes_are_text m cert fits.policy)
