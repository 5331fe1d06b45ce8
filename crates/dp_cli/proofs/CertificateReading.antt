-- What is told of the bytes of a certificate that were read, or were not, whatever follows for the certificate.
use Rattle.std.proofs.Common.{◌≡◌, ℕ, List, Option, Result, Ok, Err, ap, refl, arith}
use Rattle.dp_spec.specs.Certificate.{Certificate}
use Rattle.dp_spec.specs.Model.{IsModel, Model}
use Rattle.dp_lines.specs.Grammar.{Fault, IsAnswer, IsText, bad, limit}
use Rattle.dp_lines.specs.Scanning.{text_from}
use Rattle.dp_lines.proofs.OneAnswer.{one_answer, read_answer}
use Rattle.dp_model.specs.declared.limit.TooLarge.{TooLarge}
use Rattle.dp_cert.specs.declared.fault.CertFault.{CertFault}
use Rattle.dp_cert.specs.declared.fault.CertFault.TheVariants as faults
use Rattle.dp_cert.specs.CertificateGrammar.{certificate_grammar}
use Rattle.dp_cert.specs.CertificateValue.{certificate_of}
use Rattle.dp_cert.specs.Reading.{Answers}
use Rattle.dp_cert.proofs.CertificateAnswers.{certificate_proper}
use Rattle.dp_cli.specs.declared.refusal.JobFault.{JobFault}
use Rattle.dp_cli.specs.Answer.{Stops}
use Rattle.dp_cli.specs.CertificateFile.{certificate_or, said_or}
use Rattle.dp_cli.specs.Refusal.{certificate_refusal}
use Rattle.dp_cli.proofs.CertificateLimits.{limit_of_certificate}
use Rattle.dp_cli.proofs.FileLimits.{IsOther, limit_told}

-- an answer is what is computed
computed : (m : Model) → IsModel m → (bytes : List ℕ) (r : Result Certificate (Fault TooLarge))
    → IsAnswer (certificate_grammar m) 1 bytes r → text_from (certificate_grammar m) 1 bytes ≡ r
computed m is bytes r answer =
    let few = is.sizes.agents_limit in
    let proper = certificate_proper m (omega (arith, few)) in
    one_answer (certificate_grammar m) proper 1 bytes _ r (read_answer (certificate_grammar m)
    proper 1 bytes) answer

-- bytes that are no certificate are refused by what is wrong with them
pub stops_reading : (after : Certificate → Option JobFault) (m : Model) → IsModel m → (bytes : List ℕ)
    (fault : CertFault) → Answers certificate_of (Err fault) (certificate_grammar m) bytes
    → Stops (certificate_or after bytes m) (certificate_refusal fault)
stops_reading after m is bytes (faults.At line why) has =
    ap (said_or after) (computed m is bytes (Err (bad line why)) has)
stops_reading after m is bytes (faults.TooLarge passed) has =
    ap (said_or after) (computed m is bytes (Err (limit passed)) has)
stops_reading after m is bytes faults.Memory has = tt

-- of bytes that are one is told what follows for it
pub certificate_read : (after : Certificate → Option JobFault) (m : Model) → IsModel m → (bytes : List ℕ)
    (c : Certificate) → IsText (certificate_grammar m) bytes c → certificate_or after bytes m ≡ after c
certificate_read after m is bytes c says = ap (said_or after) (computed m is bytes (Ok c) says)

-- no limit on the bytes of a file is told, where none is of the certificate
pub certificate_or_is_other : (after : Certificate → Option JobFault)
    → ((c : Certificate) → IsOther (limit_told (after c))) → (bytes : List ℕ) (m : Model)
    → IsOther (limit_told (certificate_or after bytes m))
certificate_or_is_other after is bytes m = by (text_from (certificate_grammar m) 1 bytes) refl
  where
    by : (r : Result Certificate (Fault TooLarge)) → text_from (certificate_grammar m) 1 bytes ≡ r
        → IsOther (limit_told (said_or after r))
    by (Ok c) e = is c
    by (Err (bad line why)) e = tt
    by (Err (limit passed)) e = limit_of_certificate m bytes passed e
