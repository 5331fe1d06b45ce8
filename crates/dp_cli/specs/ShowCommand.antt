-- The command `show`.
use Rattle.std.specs.Prelude.{◌≡◌, ℕ, List, [], ◌∷◌, Option, None, option_map}
use Rattle.dp_spec.specs.Certificate.{Certificate}
use Rattle.dp_spec.specs.CertificateText.{IsCertificateText}
use Rattle.dp_spec.specs.Model.{IsModel, Model}
use Rattle.dp_spec.specs.PolicyTree.{IsPolicyOf}
use Rattle.dp_spec.specs.SharedPolicy.{unfolded}
use Rattle.dp_model.specs.Horizons.{horizon_limits}
use Rattle.dp_model.specs.Limits.{first_passed}
use Rattle.dp_model.specs.Tables.{NamedModel}
use Rattle.dp_meaning.specs.Meaning.{Means, ReadModel, meaning}
use Rattle.dp_words.specs.declared.job.ShowJob.{ShowJob}
use Rattle.dp_cli.specs.declared.refusal.FileRole.TheVariants as roles
use Rattle.dp_cli.specs.declared.refusal.JobFault.{JobFault}
use Rattle.dp_cli.specs.declared.refusal.JobFault.TheVariants as job_faults
use Rattle.dp_cli.specs.CertificateFile.{certificate_or}
use Rattle.dp_cli.specs.Command.{Command, model_file}
use Rattle.dp_cli.specs.ModelText.{model_fault}
use Rattle.dp_cli.specs.ShownPolicies.{policy_text}

-- ---- what may be wrong

-- a limit of the horizon: those of the own histories, each of which has a line, are asked of both versions
abbrev pub horizon_fault : Model → ℕ → Option JobFault
horizon_fault m h = option_map (λ passed. job_faults.TooLarge passed) (first_passed (horizon_limits m h))

-- what is wrong with the bytes of a certificate, or else with its horizon
abbrev pub shown_fault : List ℕ → Model → Option JobFault
shown_fault cert m = certificate_or (λ c. horizon_fault m c.horizon) cert m

abbrev pub fault_of_show : List (List ℕ) → Option JobFault
fault_of_show (file ∷ []) = model_fault (λ m. None) (meaning file)
fault_of_show (file ∷ cert ∷ []) = model_fault (shown_fault cert) (meaning file)
fault_of_show texts = None

-- ---- what is put

-- The bytes are the text of a certificate for a model, and the text tells its policy in names: for each agent and
-- each own history, stage by stage, the names of what was seen and of the action that the agent's tree does after it.
pub record IsShownText (m : NamedModel) (cert text : List ℕ) : Type 0 where
  pub is_model : IsModel m.model
  pub certificate : Certificate
  pub says : IsCertificateText m.model cert certificate
  pub policy : IsPolicyOf m.model certificate.horizon (unfolded certificate.policy)
  pub tells : text ≡ policy_text m.names m.model.observations (unfolded certificate.policy) certificate.horizon

-- A file means a model with its names, and the text tells the policy of a certificate for it.
pub record IsShowOfText (file cert text : List ℕ) : Type 0 where
  pub read : ReadModel
  pub meant : meaning file ≡ Means read
  pub shown : IsShownText read.model cert text

abbrev pub IsTextOfShow : List (List ℕ) → List ℕ → Type 0
IsTextOfShow (file ∷ cert ∷ []) text = IsShowOfText file cert text
IsTextOfShow texts text = ⊥

-- what is put is what is claimed
abbrev pub show_command : ShowJob → Command
show_command job = record {
  files = model_file job.model ∷ record { name = job.cert; role = roles.Second } ∷ [];
  fault = fault_of_show;
  text_limit = None;
  IsText = IsTextOfShow;
  Claims = IsTextOfShow;
}
