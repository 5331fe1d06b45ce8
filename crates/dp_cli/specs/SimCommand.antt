-- The command `sim`.
use Rattle.std.specs.Prelude.{◌≡◌, ℕ, List, [], ◌∷◌, Option, None}
use Rattle.dp_spec.specs.Certificate.{Certificate}
use Rattle.dp_spec.specs.CertificateText.{IsCertificateText}
use Rattle.dp_spec.specs.Model.{IsModel, Model}
use Rattle.dp_spec.specs.PolicyTree.{IsPolicyOf}
use Rattle.dp_spec.specs.SharedPolicy.{unfolded}
use Rattle.dp_meaning.specs.Meaning.{Means, ReadModel, meaning}
use Rattle.dp_words.specs.declared.job.SimJob.{SimJob}
use Rattle.dp_writer.specs.Draws.{seed_stream}
use Rattle.dp_cli.specs.declared.refusal.FileRole.TheVariants as roles
use Rattle.dp_cli.specs.declared.refusal.JobFault.{JobFault}
use Rattle.dp_cli.specs.CertificateFile.{certificate_or}
use Rattle.dp_cli.specs.Command.{Command, model_file}
use Rattle.dp_cli.specs.EpisodeTexts.{episodes_text}
use Rattle.dp_cli.specs.ModelText.{model_fault}

-- ---- what may be wrong

abbrev pub fault_of_sim : List (List ℕ) → Option JobFault
fault_of_sim (file ∷ []) = model_fault (λ m. None) (meaning file)
fault_of_sim (file ∷ cert ∷ []) = model_fault (certificate_or (λ c. None) cert) (meaning file)
fault_of_sim texts = None

-- ---- what is put

-- The bytes are the text of a certificate for a model, whose policy is a joint policy of the model, and the text
-- tells episodes of this policy, as many as are asked for, one after the other from the words of the seed.
pub record IsPlayedText (m : Model) (seed episodes : ℕ) (cert text : List ℕ) : Type 0 where
  pub is_model : IsModel m
  pub certificate : Certificate
  pub says : IsCertificateText m cert certificate
  pub policy : IsPolicyOf m certificate.horizon (unfolded certificate.policy)
  pub tells : text ≡ episodes_text m certificate.horizon (unfolded certificate.policy) 0 episodes (seed_stream seed)

-- A file means a model, and the text tells episodes in it.
pub record IsSimOfText (job : SimJob) (file cert text : List ℕ) : Type 0 where
  pub read : ReadModel
  pub meant : meaning file ≡ Means read
  pub played : IsPlayedText read.model.model job.seed job.episodes cert text

abbrev pub IsTextOfSim : SimJob → List (List ℕ) → List ℕ → Type 0
IsTextOfSim job (file ∷ cert ∷ []) text = IsSimOfText job file cert text
IsTextOfSim job texts text = ⊥

-- what is put is what is claimed
abbrev pub sim_command : SimJob → Command
sim_command job = record {
  files = model_file job.model ∷ record { name = job.cert; role = roles.Second } ∷ [];
  fault = fault_of_sim;
  text_limit = None;
  IsText = IsTextOfSim job;
  Claims = IsTextOfSim job;
}
