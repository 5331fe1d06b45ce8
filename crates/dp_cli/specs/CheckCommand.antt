-- The command `check`.
use Rattle.std.specs.Prelude.{◌≡◌, ◌↔◌, ℕ, Bool, true, false, IsTrue, List, [], ◌∷◌, ◌++◌, Option, Some, None}
use Rattle.std.specs.Prelude.{option_map, ℤ, ◌≤ℤ◌, codes, decimal}
use Rattle.std.specs.Fmt.{signed_decimal}
use Rattle.dp_spec.specs.Certificate.{Certificate, IsValid}
use Rattle.dp_spec.specs.CertificateText.{IsCertificateText}
use Rattle.dp_spec.specs.Claims.{ClaimsHold, IsOptimal}
use Rattle.dp_spec.specs.Model.{IsModel, Model}
use Rattle.dp_spec.specs.Qualities.{IsClosed, IsLean, IsMerged}
use Rattle.dp_spec.specs.Reasons.{first_reason}
use Rattle.dp_spec.specs.Reasons as definitions
use Rattle.dp_spec.specs.SharedPolicy.{unfolded}
use Rattle.dp_check.specs.declared.verdict.Reason.{Reason}
use Rattle.dp_check.specs.declared.verdict.Reason.TheVariants as reasons
use Rattle.dp_meaning.specs.Meaning.{Means, ReadModel, meaning}
use Rattle.dp_words.specs.declared.job.CheckJob.{CheckJob}
use Rattle.dp_cli.specs.declared.refusal.FileRole.TheVariants as roles
use Rattle.dp_cli.specs.declared.refusal.JobFault.{JobFault}
use Rattle.dp_cli.specs.declared.refusal.JobFault.TheVariants as job_faults
use Rattle.dp_cli.specs.CertificateFile.{certificate_or}
use Rattle.dp_cli.specs.Command.{Command, model_file}
use Rattle.dp_cli.specs.ModelText.{model_fault, model_of_text}
use Rattle.dp_cli.specs.ValueCommand.{end_text}

-- ---- what may be wrong

-- a reason of the definitions, as it is told
abbrev pub told_reason : definitions.Reason → Reason
told_reason (definitions.mode_is exact) = reasons.Mode exact
told_reason (definitions.unit_is unit) = reasons.Unit unit
told_reason (definitions.lower_is lower) = reasons.Lower lower
told_reason (definitions.no_place node) = reasons.Place node
told_reason (definitions.children_are node count) = reasons.Kids node count
told_reason (definitions.unequal_at node place) = reasons.NotEqual node place
told_reason (definitions.bound_is node bound) = reasons.LeafBound node bound
told_reason (definitions.inner_is count) = reasons.Inner count
told_reason (definitions.upper_is upper) = reasons.Upper upper

-- the first reason why a certificate is not valid for a model
abbrev pub reason_fault : Model → Certificate → Option JobFault
reason_fault m c = option_map (λ reason. job_faults.Rejected (told_reason reason)) (first_reason m c)

-- what is wrong with the bytes of a certificate for a model, or else the first reason why it is not valid
abbrev pub certificate_fault : List ℕ → Model → Option JobFault
certificate_fault bytes m = certificate_or (reason_fault m) bytes m

abbrev pub fault_of_check : List (List ℕ) → Option JobFault
fault_of_check (file ∷ []) = model_fault (λ m. None) (meaning file)
fault_of_check (file ∷ cert ∷ []) = model_fault (certificate_fault cert) (meaning file)
fault_of_check texts = None

-- ---- what is put

abbrev pub yes_word : Bool → List ℕ
yes_word true = codes "yes"
yes_word false = codes "no"

-- whether a quality is so
abbrev pub quality_text : List ℕ → Bool → List ℕ
quality_text word holds = word ++ (yes_word holds ++ codes "\n")

-- how many rows of the model were repaired, and the unit
abbrev pub counts_text : ℕ → ℤ → List ℕ
counts_text repaired unit =
    codes "repaired " ++ (decimal repaired ++ (codes "\nunit " ++ (signed_decimal unit ++ codes "\n")))

-- the lines of a certificate that is accepted: whether it is closed, lean and merged, and the ends of its interval,
-- of which the lower one is rounded down and the upper one up
abbrev pub accepted_text : ℕ → Bool → Bool → Bool → ℤ → ℤ → ℤ → List ℕ
accepted_text repaired closed lean merged unit lower upper =
    codes "accepted\n"
    ++ (quality_text (codes "closed ") closed
    ++ (quality_text (codes "lean ") lean
    ++ (quality_text (codes "merged ") merged
    ++ (counts_text repaired unit
    ++ (end_text (codes "lower ") lower unit false ++ end_text (codes "upper ") upper unit true)))))

-- A text accepts a certificate of a model, and its three words are so of it.
pub record Accepts (m : Model) (repaired : ℕ) (c : Certificate) (text : List ℕ) : Type 0 where
  pub closed : Bool
  pub lean : Bool
  pub merged : Bool
  pub is_closed : IsTrue closed ↔ IsClosed m c
  pub is_lean : IsTrue lean ↔ IsLean m c
  pub is_merged : IsTrue merged ↔ IsMerged m c
  pub tells : text ≡ accepted_text repaired closed lean merged c.unit c.lower c.upper

-- The bytes are the text of a certificate for a model that is valid, and the text accepts it.
pub record IsCheckOfCertificate (m : Model) (repaired : ℕ) (cert text : List ℕ) : Type 0 where
  pub is_model : IsModel m
  pub certificate : Certificate
  pub says : IsCertificateText m cert certificate
  pub valid : IsValid m certificate
  pub accepts : Accepts m repaired certificate text

-- A file means a model, and the text accepts the certificate for it.
pub record IsCheckOfText (file cert text : List ℕ) : Type 0 where
  pub read : ReadModel
  pub meant : meaning file ≡ Means read
  pub checked : IsCheckOfCertificate read.model.model read.repaired cert text

abbrev pub IsTextOfCheck : List (List ℕ) → List ℕ → Type 0
IsTextOfCheck (file ∷ cert ∷ []) text = IsCheckOfText file cert text
IsTextOfCheck texts text = ⊥

-- ---- what is so

-- The bytes of the first file mean a model, and those of the second are the text of a certificate that is valid for
-- it. What the certificate claims is so: the expected reward of its policy lies in its interval, and no joint policy
-- has a greater one than the upper end. Where it is closed and exact, the ends are equal and its policy is optimal.
-- The text tells the ends, and whether the certificate is closed, lean and merged.
pub record TellsCertificate (file cert text : List ℕ) : Type 0 where
  pub model : Model
  pub meant : model_of_text file ≡ Some model
  pub is_model : IsModel model
  pub certificate : Certificate
  pub says : IsCertificateText model cert certificate
  pub valid : IsValid model certificate
  pub claims : ClaimsHold model certificate
  pub ordered : certificate.lower ≤ℤ certificate.upper
  pub optimal : IsClosed model certificate → certificate.is_exact ≡ true →
      (certificate.lower ≡ certificate.upper) × IsOptimal model certificate.horizon
      (unfolded certificate.policy)
  pub repaired : ℕ
  pub accepts : Accepts model repaired certificate text

abbrev pub ClaimsOfCheck : List (List ℕ) → List ℕ → Type 0
ClaimsOfCheck (file ∷ cert ∷ []) text = TellsCertificate file cert text
ClaimsOfCheck texts text = ⊥

abbrev pub check_command : CheckJob → Command
check_command job = record {
  files = model_file job.model ∷ record { name = job.cert; role = roles.Second } ∷ [];
  fault = fault_of_check;
  text_limit = None;
  IsText = IsTextOfCheck;
  Claims = ClaimsOfCheck;
}
