-- A second file that is a certificate: what is wrong with its bytes, and what follows for the certificate.
use Rattle.std.specs.Prelude.{ℕ, List, Option, Result, Ok, Err}
use Rattle.dp_spec.specs.Certificate.{Certificate}
use Rattle.dp_spec.specs.Model.{Model}
use Rattle.dp_cert.specs.CertificateGrammar.{certificate_grammar}
use Rattle.dp_lines.specs.Grammar.{Fault}
use Rattle.dp_lines.specs.Scanning.{text_from}
use Rattle.dp_model.specs.declared.limit.TooLarge.{TooLarge}
use Rattle.dp_cli.specs.declared.refusal.JobFault.{JobFault}
use Rattle.dp_cli.specs.ValueCommand.{lines_fault}

-- what is wrong by what its lines say: the first line that is not as required, or a limit that is passed before one,
-- or else what is wrong with the certificate
abbrev pub said_or : (Certificate → Option JobFault) → Result Certificate (Fault TooLarge) → Option JobFault
said_or after (Ok c) = after c
said_or after (Err fault) = lines_fault {V = Certificate} (Err fault)

-- what is wrong with the bytes of a certificate for a model, or else with the certificate
abbrev pub certificate_or : (Certificate → Option JobFault) → List ℕ → Model → Option JobFault
certificate_or after bytes m = said_or after (text_from (certificate_grammar m) 1 bytes)
