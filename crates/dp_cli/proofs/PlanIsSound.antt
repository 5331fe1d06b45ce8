-- The command `plan`: its text certifies a plan for the model of its file, and it passes no limit on the bytes of a
-- file.
use Rattle.std.proofs.Common.{ℕ, List, [], ◌∷◌}
use Rattle.dp_laws.proofs.CertificateTexts.{certificate_text_injective}
use Rattle.dp_spec.specs.Model.{Model}
use Rattle.dp_words.specs.declared.job.PlanJob.{PlanJob}
use Rattle.dp_cli.specs.Certified.{CertifiesPlan}
use Rattle.dp_cli.specs.PlanCommand.{ClaimsOfPlan, fault_of_plan, IsTextOfPlan, plan_command}
use Rattle.dp_cli.specs.Planned.{IsPlanOf, limits_fault, options_of}
use Rattle.dp_cli.proofs.FileLimits.{IsOther, limit_told, model_fault_is_other, of_no_role}
use Rattle.dp_cli.proofs.ProvedPlans.{plan_is_proved, plan_limits_are_other}
use Rattle.dp_cli.proofs.PlanTexts.{plan_is_accepted}
use Rattle.dp_cli.proofs.Sound.{IsSound}

-- the text of a plan certifies it for its model
plan_certifies : (m : Model) (job : PlanJob) (bytes : List ℕ) → IsPlanOf m job bytes → CertifiesPlan m job bytes
plan_certifies m job bytes h = record {
  certificate = h.certificate;
  spelled = h.spelled;
  only = λ other spelled. certificate_text_injective m h.is_model bytes other h.certificate spelled h.spelled;
  plan = plan_is_proved m job.order job.horizon (options_of job) h.certificate h.is_model h.planned;
}

plan_claims : (job : PlanJob) (texts : List (List ℕ)) (text : List ℕ) → IsTextOfPlan job texts text
    → ClaimsOfPlan job texts text
plan_claims job [] text h = absurd h
plan_claims job (file ∷ []) text h = record {
  model = h.model;
  meant = h.meant;
  is_model = h.plan.is_model;
  certified = plan_certifies h.model job text h.plan;
  accepted = plan_is_accepted file text h.model job h.meant h.plan;
}
plan_claims job (file ∷ next ∷ texts) text h = absurd h

-- what is wrong with its file tells no limit on the bytes of a file
limits_fault_is_other : (job : PlanJob) (m : Model) → IsOther (limit_told (limits_fault job m))
limits_fault_is_other job m = plan_limits_are_other m job.version job.horizon job.nodes

plan_fault_is_other : (job : PlanJob) (texts : List (List ℕ)) → IsOther (limit_told (fault_of_plan job texts))
plan_fault_is_other job [] = tt
plan_fault_is_other job (file ∷ []) = model_fault_is_other (limits_fault job) (limits_fault_is_other job) file
plan_fault_is_other job (file ∷ next ∷ texts) = tt

pub plan_is_sound : (job : PlanJob) → IsSound (plan_command job)
plan_is_sound job = record {
  claims = λ texts text fine h. plan_claims job texts text h;
  limits = λ texts passed role fault is. absurd (of_no_role _ (plan_fault_is_other job texts)
      passed role fault is);
}
