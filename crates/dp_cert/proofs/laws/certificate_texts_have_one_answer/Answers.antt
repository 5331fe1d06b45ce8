use Rattle.dp_cert.proofs.CertificateAnswers.{each_certificate_text}
use Rattle.dp_cert.proofs.laws.certificate_texts_have_one_answer.Goals as goal

pub returns : goal.returns
returns c = each_certificate_text
