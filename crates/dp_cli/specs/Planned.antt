-- What a plan answers.
use Rattle.std.specs.Prelude.{◌≡◌, ℕ, ◌+◌, ◌*◌, ◌^◌, ◌<◌, ◌≤◌, List, [], ◌∷◌, Option, Some, None, option_map, Result}
use Rattle.std.specs.Prelude.{Vec}
use Rattle.std.specs.declared.alloc.Global.{Global}
use Rattle.dp_spec.specs.Certificate.{Certificate}
use Rattle.dp_spec.specs.CertificateText.{IsCertificateText}
use Rattle.dp_spec.specs.Mode.{IsWithinVersion}
use Rattle.dp_spec.specs.Model.{IsModel, Model}
use Rattle.dp_spec.specs.Promises.{IsPlanned, PlanOptions}
use Rattle.dp_model.specs.declared.horizon.Fit.{Fit}
use Rattle.dp_model.specs.declared.limit.Limit.TheVariants.{Nodes, TreeNodes}
use Rattle.dp_model.specs.declared.limit.TooLarge.{TooLarge}
use Rattle.dp_model.specs.Horizons.{fit_of}
use Rattle.dp_model.specs.Limits.{first_passed, passed_by}
use Rattle.dp_meaning.specs.Meaning.{Meaning}
use Rattle.dp_cert.specs.CertificateGrammar.{horizon_passed}
use Rattle.dp_search.specs.declared.options.PlanOpts.{PlanOpts}
use Rattle.dp_search.specs.FrontPlanners.{widest}
use Rattle.dp_words.specs.declared.job.PlanJob.{PlanJob}
use Rattle.dp_cli.specs.declared.refusal.JobFault.{JobFault}
use Rattle.dp_cli.specs.declared.refusal.JobFault.TheVariants as job_faults
use Rattle.dp_cli.specs.declared.refusal.Refusal.{Refusal}
use Rattle.dp_cli.specs.Answer.{GivesText}
use Rattle.dp_cli.specs.ModelText.{model_fault, model_of_text}
use Rattle.dp_cli.specs.Orders.{order_rule}

-- ---- what may be wrong

-- the limits that a plan may pass, in order: those of its horizon in its version, that of its budget of branches and
-- merges, and that of the nodes of a tree of so many
abbrev pub plan_limits : Model → ℕ → ℕ → ℕ → List (Option TooLarge)
plan_limits m version h nodes =
    horizon_passed m version h ∷ passed_by Nodes nodes ∷ passed_by TreeNodes (nodes * widest m.actions) ∷ []

-- what is wrong where a limit is passed
abbrev pub large_fault : Option TooLarge → Option JobFault
large_fault tried = option_map (λ passed. job_faults.TooLarge passed) tried

-- why a model is not planned for
abbrev pub limits_fault : PlanJob → Model → Option JobFault
limits_fault job m = large_fault (first_passed (plan_limits m job.version job.horizon job.nodes))

-- why a file that means that is not planned for
abbrev pub plan_fault : PlanJob → Meaning → Option JobFault
plan_fault job meant = model_fault (limits_fault job) meant

-- ---- what is put

-- what a job asks for, besides its horizon
abbrev pub options_of : PlanJob → PlanOptions
options_of job = record { version = job.version; nodes = job.nodes; look = job.look; merge = job.merge }

-- The horizon of the job passes no limit, and the bytes are the text of a certificate that keeps the promises of a
-- plan for the model: over that horizon, with what the job asks for, and by the branching rule of its order.
pub record IsPlanOf (m : Model) (job : PlanJob) (bytes : List ℕ) : Type 0 where
  pub is_model : IsModel m
  pub kept : horizon_passed m job.version job.horizon ≡ None
  pub certificate : Certificate
  pub spelled : IsCertificateText m bytes certificate
  pub planned : IsPlanned m (order_rule job.order) job.horizon (options_of job) certificate

-- A file means a model, and the bytes are a plan for it.
pub record IsPlanOfText (file : List ℕ) (job : PlanJob) (bytes : List ℕ) : Type 0 where
  pub model : Model
  pub meant : model_of_text file ≡ Some model
  pub plan : IsPlanOf model job bytes

-- the text of a plan for a model, or why there is none
abbrev pub PlansModel : PlanJob → Model → Result (Vec ℕ Global) Refusal → Type 0
PlansModel job m result = GivesText (limits_fault job m) (λ bytes. IsPlanOf m job bytes) result

-- ---- what a planner asks

-- the options of a job, as the planner takes them
abbrev pub options_for : PlanJob → PlanOpts
options_for job = record { version = job.version; nodes = job.nodes; look = job.look; merge = job.merge }

-- The horizon keeps the limits of its version, the look is in its range, the budget is within its limit, and the
-- nodes of a tree can be numbered.
pub record CanPlan (m : Model) (fit : Fit) (options : PlanOpts) : Type 0 where
  pub within : IsWithinVersion m fit.horizon options.version
  pub fits : fit ≡ fit_of m fit.horizon
  pub some_look : 1 ≤ options.look
  pub look : options.look ≤ 16
  pub nodes : options.nodes ≤ 1000000
  pub tree_nodes : 1 + options.nodes * widest m.actions < 2 ^ 32
