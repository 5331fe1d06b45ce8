use Rattle.dp_cert.proofs.CertificateReads.{each_certificate_text_is_read}
use Rattle.dp_cert.proofs.laws.certificate_texts_say_their_certificates.Goals as goal

pub returns : goal.returns
returns c = each_certificate_text_is_read
