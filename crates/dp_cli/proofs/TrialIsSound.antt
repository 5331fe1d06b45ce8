-- The command `trial`: its text tells a certificate that keeps the promises of a plan, and it passes no limit on the
-- bytes of a file.
use Rattle.std.proofs.Common.{ℕ, List, [], ◌∷◌}
use Rattle.dp_words.specs.declared.job.OrderWord.TheVariants.{First}
use Rattle.dp_words.specs.declared.job.TrialJob.{TrialJob}
use Rattle.dp_cli.specs.MadeJobs.{made_for}
use Rattle.dp_cli.specs.TrialCommand.{ClaimsOfTrial, IsTextOfTrial, fault_of_trial, trial_command, trial_limits_fault}
use Rattle.dp_cli.specs.TrialCommand.{trial_options}
use Rattle.dp_cli.proofs.FileLimits.{IsOther, limit_told, of_no_role}
use Rattle.dp_cli.proofs.MadeLimits.{made_or_is_other}
use Rattle.dp_cli.proofs.ProvedPlans.{plan_is_proved, plan_limits_are_other}
use Rattle.dp_cli.proofs.Sound.{IsSound}

trial_claims : (job : TrialJob) (texts : List (List ℕ)) (text : List ℕ) → IsTextOfTrial job texts text
    → ClaimsOfTrial job texts text
trial_claims job [] text h = record {
  is_model = h.is_model;
  certificate = h.certificate;
  tells = h.tells;
  plan = plan_is_proved (made_for job.made).model First job.horizon (trial_options job) h.certificate h.is_model
      h.planned;
}
trial_claims job (file ∷ texts) text h = absurd h

trial_is_other : (job : TrialJob) (texts : List (List ℕ)) → IsOther (limit_told (fault_of_trial job texts))
trial_is_other job [] =
    made_or_is_other (λ m. trial_limits_fault job m.model) job.made
    (plan_limits_are_other (made_for job.made).model 1 job.horizon job.nodes)
trial_is_other job (file ∷ texts) = tt

pub trial_is_sound : (job : TrialJob) → IsSound (trial_command job)
trial_is_sound job = record {
  claims = λ texts text fine h. trial_claims job texts text h;
  limits = λ texts passed role fault is. absurd (of_no_role _ (trial_is_other job texts) passed role fault is);
}
