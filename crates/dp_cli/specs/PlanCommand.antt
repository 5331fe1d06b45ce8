-- The command `plan`.
use Rattle.std.specs.Prelude.{◌≡◌, ℕ, List, [], ◌∷◌, Option, Some, None}
use Rattle.dp_spec.specs.Model.{IsModel, Model}
use Rattle.dp_meaning.specs.Meaning.{meaning}
use Rattle.dp_words.specs.declared.job.PlanJob.{PlanJob}
use Rattle.dp_cli.specs.declared.refusal.JobFault.{JobFault}
use Rattle.dp_cli.specs.Certified.{CertifiesPlan}
use Rattle.dp_cli.specs.CheckCommand.{fault_of_check}
use Rattle.dp_cli.specs.Command.{Command, model_file}
use Rattle.dp_cli.specs.ModelText.{model_of_text}
use Rattle.dp_cli.specs.Planned.{IsPlanOfText, plan_fault}

-- what is wrong with the file of the model, where it was given
abbrev pub fault_of_plan : PlanJob → List (List ℕ) → Option JobFault
fault_of_plan job (file ∷ []) = plan_fault job (meaning file)
fault_of_plan job texts = None

abbrev pub IsTextOfPlan : PlanJob → List (List ℕ) → List ℕ → Type 0
IsTextOfPlan job (file ∷ []) text = IsPlanOfText file job text
IsTextOfPlan job texts text = ⊥

-- The bytes of the file mean a model, and the text certifies a plan for it: it is that of a valid certificate that
-- keeps the promises of a plan, the expected reward of whose policy lies in its interval, and no joint policy has a
-- greater one than the upper end. A check of the text against the file finds nothing wrong: it is accepted.
pub record CertifiesPlanOfFile (job : PlanJob) (file text : List ℕ) : Type 0 where
  pub model : Model
  pub meant : model_of_text file ≡ Some model
  pub is_model : IsModel model
  pub certified : CertifiesPlan model job text
  pub accepted : fault_of_check (file ∷ text ∷ []) ≡ None

abbrev pub ClaimsOfPlan : PlanJob → List (List ℕ) → List ℕ → Type 0
ClaimsOfPlan job (file ∷ []) text = CertifiesPlanOfFile job file text
ClaimsOfPlan job texts text = ⊥

abbrev pub plan_command : PlanJob → Command
plan_command job = record {
  files = model_file job.model ∷ [];
  fault = fault_of_plan job;
  text_limit = None;
  IsText = IsTextOfPlan job;
  Claims = ClaimsOfPlan job;
}
