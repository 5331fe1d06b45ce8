use Rattle.std.proofs.Common.{arith}
use Rattle.dp_cert.specs.CertificateGrammar.{certificate_grammar}
use Rattle.dp_cert.specs.CertificateValue.{certificate_of}
use Rattle.dp_cert.proofs.CertificateAnswers.{certificate_proper, computed_answers}
use Rattle.dp_cert.proofs.CertificateReads.{given_whole}
use Rattle.dp_cert.proofs.ReadCertificates.{given_fits}
use Rattle.dp_cert.proofs.ReadTexts.{given_text}
use Rattle.dp_cert.proofs.read.read_cert.Goals as goal

pub returns-clause-answers : goal.returns-clause-answers
returns-clause-answers c =
    let m = c.args.model.now.model in
    let few = c.invariant.ensures.model.sizes.agents_limit in
    computed_answers certificate_of c.read.result (certificate_grammar m) c.args.bytes.now
    (certificate_proper m (omega (arith, few))) c.read.ensures

pub returns-clause-fits : goal.returns-clause-fits
returns-clause-fits c =
    given_fits certificate_of c.read.result c.args.model.now.model c.invariant.ensures.model c.args.bytes.now
    c.requires
    c.read.ensures

pub returns-clause-text : goal.returns-clause-text
returns-clause-text c =
    given_text certificate_of c.read.result c.args.model.now.model c.invariant.ensures.model c.args.bytes.now
    c.read.ensures

pub returns-clause-each : goal.returns-clause-each
returns-clause-each c =
    given_whole certificate_of c.read.result c.args.model.now.model c.invariant.ensures.model c.args.bytes.now
    c.read.ensures
