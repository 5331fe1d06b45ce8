use Rattle.dp_laws.proofs.CertificateTexts.{certificate_text_injective, certificate_has_text}
use Rattle.dp_laws.proofs.texts.certificates_have_one_text.Goals as goal

pub returns-clause-one_certificate : goal.returns-clause-one_certificate
returns-clause-one_certificate c = certificate_text_injective

pub returns-clause-some_text : goal.returns-clause-some_text
returns-clause-some_text c = certificate_has_text
