-- Every bytes have exactly one answer as a certificate text for a model.
use Rattle.std.specs.Prelude.{◌≡◌, ◌≤◌, ℕ, List, None, Result}
use Rattle.dp_spec.specs.BoundTree.{depth_of}
use Rattle.dp_spec.specs.Certificate.{Certificate}
use Rattle.dp_spec.specs.CertificateText.{IsCertificateText}
use Rattle.dp_spec.specs.Model.{Model, IsModel}
use Rattle.dp_model.specs.declared.limit.TooLarge.{TooLarge}
use Rattle.dp_lines.specs.Grammar.{Fault, IsAnswer, IsText}
use Rattle.dp_cert.specs.declared.fault.CertFault.{CertFault}
use Rattle.dp_cert.specs.Reading.{IsReadAs}
use Rattle.dp_cert.specs.CertificateGrammar.{certificate_grammar, horizon_passed}

-- Bytes are the text of one certificate, or have one first line that is not as required, or pass one limit before
-- such a line, and no two of these.
abbrev pub EachCertificateTextHasOneAnswer : Type 0
EachCertificateTextHasOneAnswer =
    (m : Model) → IsModel m → (bytes : List ℕ) → (r : Result Certificate (Fault TooLarge))
    × IsAnswer (certificate_grammar m) 1 bytes r
    × ((s : Result Certificate (Fault TooLarge)) → IsAnswer (certificate_grammar m) 1 bytes s → r ≡ s)

-- The text of a certificate, whose horizon passes no limit of its version and whose tree has at most 2048 branches
-- and merges on a path, is a text of the grammar that says the certificate.
abbrev pub EachCertificateTextIsRead : Type 0
EachCertificateTextIsRead =
    (m : Model) → IsModel m → (bytes : List ℕ) (c : Certificate) → IsCertificateText m bytes c
    → horizon_passed m c.version c.horizon ≡ None → depth_of c.tree ≤ 2048
    → IsText (certificate_grammar m) bytes c

-- where bytes are the text of a certificate that keeps these limits, it was read, or memory ran out
abbrev pub IsReadWhole : {X : Type 0} → (X → Certificate) → Result X CertFault → Model → List ℕ → Type 0
IsReadWhole view result m bytes =
    (c : Certificate) → IsCertificateText m bytes c → horizon_passed m c.version c.horizon ≡ None
    → depth_of c.tree ≤ 2048 → IsReadAs view result c
