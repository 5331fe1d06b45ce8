-- The command `trial`.
use Rattle.std.specs.Prelude.{◌≡◌, ◌++◌, ℕ, true, false, List, [], ◌∷◌, Option, Some, None, codes, decimal}
use Rattle.std.specs.Prelude.{unsigned_abs}
use Rattle.std.specs.Fmt.{signed_decimal}
use Rattle.dp_spec.specs.Certificate.{Certificate}
use Rattle.dp_spec.specs.Model.{IsModel, Model}
use Rattle.dp_spec.specs.Promises.{IsPlanned, PlanOptions}
use Rattle.dp_model.specs.Limits.{first_passed}
use Rattle.dp_words.specs.declared.job.OrderWord.TheVariants.{First}
use Rattle.dp_words.specs.declared.job.TrialJob.{TrialJob}
use Rattle.dp_cli.specs.declared.refusal.JobFault.{JobFault}
use Rattle.dp_cli.specs.declared.refusal.JobFault.TheVariants as job_faults
use Rattle.dp_cli.specs.Certified.{IsProvedPlan}
use Rattle.dp_cli.specs.Command.{Command}
use Rattle.dp_cli.specs.MadeJobs.{made_for, made_or}
use Rattle.dp_cli.specs.NumberTexts.{field_text, signed_field_text}
use Rattle.dp_cli.specs.Orders.{order_rule}
use Rattle.dp_cli.specs.Planned.{large_fault, plan_limits}
use Rattle.dp_cli.specs.ValueCommand.{end_text, mode_word}

-- ---- what may be wrong

-- why a made model is not planned for: a limit of the horizon, or of the budget
abbrev pub trial_limits_fault : TrialJob → Model → Option JobFault
trial_limits_fault job m = large_fault (first_passed (plan_limits m 1 job.horizon job.nodes))

abbrev pub fault_of_trial : TrialJob → List (List ℕ) → Option JobFault
fault_of_trial job [] = made_or (λ m. trial_limits_fault job m.model) job.made
fault_of_trial job texts = None

-- ---- what is put

-- the seed, and what the certificate of a plan states
unfoldable pub trial_text : ℕ → Certificate → List ℕ
trial_text seed c =
    field_text (codes "trial ") seed
    ++ (codes "\nmode "
    ++ (mode_word c.is_exact
    ++ (signed_field_text (codes "\nunit ") c.unit
    ++ (field_text (codes "\ninner ") c.inner
    ++ (codes "\n"
    ++ (end_text (codes "lower ") c.lower c.unit false ++ end_text (codes "upper ") c.upper c.unit true))))))

-- a trial asks for a plan in version 1, with merging
abbrev pub trial_options : TrialJob → PlanOptions
trial_options job = record { version = 1; nodes = job.nodes; look = job.look; merge = true }

-- The text tells a certificate that keeps the promises of a plan for a model: over the horizon of the job, with what
-- it asks for, and by the first place of each front.
pub record IsTrialOf (m : Model) (job : TrialJob) (text : List ℕ) : Type 0 where
  pub is_model : IsModel m
  pub certificate : Certificate
  pub planned : IsPlanned m (order_rule First) job.horizon (trial_options job) certificate
  pub tells : text ≡ trial_text job.made.seed certificate

abbrev pub IsTextOfTrial : TrialJob → List (List ℕ) → List ℕ → Type 0
IsTextOfTrial job [] text = IsTrialOf (made_for job.made).model job text
IsTextOfTrial job texts text = ⊥

-- ---- what is so

-- The text tells a certificate of the model that is made of the sizes by the words of the seed. It keeps all promises
-- of a plan, and what it claims is so: the value of its policy lies in its interval, and no joint policy is worth
-- more than the upper end.
pub record TellsTrial (job : TrialJob) (text : List ℕ) : Type 0 where
  pub is_model : IsModel (made_for job.made).model
  pub certificate : Certificate
  pub tells : text ≡ trial_text job.made.seed certificate
  pub plan : IsProvedPlan (made_for job.made).model First job.horizon (trial_options job) certificate

abbrev pub ClaimsOfTrial : TrialJob → List (List ℕ) → List ℕ → Type 0
ClaimsOfTrial job [] text = TellsTrial job text
ClaimsOfTrial job texts text = ⊥

abbrev pub trial_command : TrialJob → Command
trial_command job = record {
  files = [];
  fault = fault_of_trial job;
  text_limit = None;
  IsText = IsTextOfTrial job;
  Claims = ClaimsOfTrial job;
}
