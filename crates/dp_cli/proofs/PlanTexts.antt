-- The text of a plan that was made for a model.
use Rattle.std.proofs.Common.{◌≡◌, ◌∙◌, ℕ, List, [], ◌∷◌, Option, Some, None, refl, sym, ap, subst, arith}
use Rattle.std.specs.Prelude.{option_map}
use Rattle.dp_cert.specs.CertificateGrammar.{horizon_passed}
use Rattle.dp_cert.proofs.CertificateReads.{text_is_computed}
use Rattle.dp_laws.proofs.FirstReasons.{no_reason_where_valid}
use Rattle.dp_laws.proofs.SmallBranches.{valid_fits}
use Rattle.dp_laws.proofs.TreeDepth.{valid_depth}
use Rattle.dp_meaning.specs.Meaning.{FaultAt, Meaning, Means, Passes, meaning}
use Rattle.dp_model.specs.declared.horizon.Fit.{Fit}
use Rattle.dp_model.specs.declared.limit.TooLarge.{TooLarge}
use Rattle.dp_model.specs.Horizons.{fit_of}
use Rattle.dp_model.specs.Limits.{first_passed}
use Rattle.dp_spec.specs.Certificate.{Certificate, IsCertificateOf}
use Rattle.dp_spec.specs.CertificateText.{IsCertificateText}
use Rattle.dp_spec.specs.Model.{IsModel, Model}
use Rattle.dp_spec.specs.Promises.{IsPlanned}
use Rattle.dp_words.specs.declared.job.PlanJob.{PlanJob}
use Rattle.dp_cli.specs.declared.refusal.JobFault.{JobFault}
use Rattle.dp_cli.specs.declared.refusal.JobFault.TheVariants as job_faults
use Rattle.dp_cli.specs.CertificateFile.{said_or}
use Rattle.dp_cli.specs.CheckCommand.{certificate_fault, fault_of_check, reason_fault, told_reason}
use Rattle.dp_cli.specs.ModelText.{model_fault, model_meant, model_of_text}
use Rattle.dp_cli.specs.Orders.{order_rule}
use Rattle.dp_cli.specs.Planned.{CanPlan, IsPlanOf, options_for, options_of, plan_limits}

-- where none of several limits is passed, the first is not
none_of_more : (tried : Option TooLarge) (more : List (Option TooLarge)) → first_passed (tried ∷ more) ≡ None
    → tried ≡ None
none_of_more (Some passed) more none = cc
none_of_more None more none = refl

-- what is written of a certificate that was planned is a plan
pub plan_written : (m : Model) (job : PlanJob) (fit : Fit) (c : Certificate) (bytes : List ℕ) → IsModel m
    → None ≡ first_passed (plan_limits m job.version job.horizon job.nodes) → fit ≡ fit_of m job.horizon
    → CanPlan m fit (options_for job)
    → IsPlanned m (order_rule job.order) fit.horizon (options_of job) c
    → (IsCertificateOf m c → IsCertificateText m bytes c) → IsPlanOf m job bytes
plan_written m job fit c bytes is none fits can plan written = record {
  is_model = is;
  kept = none_of_more (horizon_passed m job.version job.horizon) _ (sym none);
  certificate = c;
  spelled = written (valid_fits m c is plan.valid (omega (arith, plan.look, can.some_look))
      (omega (arith, plan.look, can.look)) (omega (arith, plan.nodes, can.nodes)));
  planned = subst (λ (h : ℕ). IsPlanned m (order_rule job.order) h (options_of job) c)
      (ap (λ (f : Fit). f.horizon) fits) plan;
}

-- the check of a plan's text finds nothing wrong
plan_passes : (m : Model) (job : PlanJob) (bytes : List ℕ) → IsPlanOf m job bytes → certificate_fault bytes m ≡ None
plan_passes m job bytes h =
    let c = h.certificate in
    let valid = h.planned.valid in
    let kept : horizon_passed m c.version c.horizon ≡ None =
    (λ i. horizon_passed m (h.planned.version i) (h.planned.horizon i)) ∙ h.kept in
    ap (said_or (reason_fault m)) (text_is_computed m h.is_model bytes c h.spelled kept (valid_depth m c valid))
    ∙ ap (option_map (λ reason. job_faults.Rejected (told_reason reason)))
    ((no_reason_where_valid m c valid.within valid.policy).1 valid)

-- what is wrong with a file that means a model is what is wrong with the model
fault_where : (fault : Model → Option JobFault) (meant : Meaning) (m : Model) → model_meant meant ≡ Some m
    → fault m ≡ None → model_fault fault meant ≡ None
fault_where fault (FaultAt place why) m is none = cc
fault_where fault (Passes passed) m is none = cc
fault_where fault (Means read) m is none =
    let same : read.model.model ≡ m = cc in ap fault same ∙ none

pub plan_is_accepted : (file bytes : List ℕ) (m : Model) (job : PlanJob) → model_of_text file ≡ Some m
    → IsPlanOf m job bytes → fault_of_check (file ∷ bytes ∷ []) ≡ None
plan_is_accepted file bytes m job meant h = fault_where (certificate_fault bytes) (meaning file) m meant
    (plan_passes m job bytes h)
