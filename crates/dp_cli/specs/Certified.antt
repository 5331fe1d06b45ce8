-- What is known of the text of a plan.
use Rattle.std.specs.Prelude.{◌≡◌, ◌⊎◌, ℕ, ◌≤ℤ◌, List, true}
use Rattle.dp_spec.specs.Certificate.{Certificate, IsValid}
use Rattle.dp_spec.specs.CertificateText.{IsCertificateText}
use Rattle.dp_spec.specs.Claims.{ClaimsHold, IsOptimal}
use Rattle.dp_spec.specs.Model.{Model}
use Rattle.dp_spec.specs.Promises.{IsPlanned, PlanOptions}
use Rattle.dp_spec.specs.Qualities.{IsClosed}
use Rattle.dp_spec.specs.SharedPolicy.{unfolded}
use Rattle.dp_words.specs.declared.job.OrderWord.{OrderWord}
use Rattle.dp_words.specs.declared.job.PlanJob.{PlanJob}
use Rattle.dp_cli.specs.Orders.{order_rule}
use Rattle.dp_cli.specs.Planned.{options_of}

-- A certificate keeps all promises of a plan for a model over a horizon, with what is asked for and by the branching
-- rule of an order. It is valid, and what it claims is so: the value of its policy lies in its interval, and no joint
-- policy is worth more than the upper end. In version 1 it is closed or has as many branches and merges as are
-- allowed. Where it is closed and its numbers are exact, its ends are equal and its policy is optimal.
pub record IsProvedPlan (m : Model) (order : OrderWord) (h : ℕ) (asked : PlanOptions) (certificate : Certificate)
    : Type 0 where
  pub planned : IsPlanned m (order_rule order) h asked certificate
  pub valid : IsValid m certificate
  pub claims : ClaimsHold m certificate
  pub ordered : certificate.lower ≤ℤ certificate.upper
  pub ended : asked.version ≡ 1 → IsClosed m certificate ⊎ (certificate.inner ≡ asked.nodes)
  pub optimal : IsClosed m certificate → certificate.is_exact ≡ true →
      (certificate.lower ≡ certificate.upper) × IsOptimal m certificate.horizon (unfolded certificate.policy)

-- The bytes are the text of one certificate, and it is such a plan for the model, over the horizon of the job, with
-- what it asks for and by its order.
pub record CertifiesPlan (m : Model) (job : PlanJob) (bytes : List ℕ) : Type 0 where
  pub certificate : Certificate
  pub spelled : IsCertificateText m bytes certificate
  pub only : (other : Certificate) → IsCertificateText m bytes other → other ≡ certificate
  pub plan : IsProvedPlan m job.order job.horizon (options_of job) certificate
