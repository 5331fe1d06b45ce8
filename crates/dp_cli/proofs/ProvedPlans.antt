-- What is known of a certificate that was planned, and the limits of a plan.
use Rattle.std.proofs.Common.{◌∙◌, ℕ, Option, Some, None, refl}
use Rattle.dp_laws.proofs.ValidCertificates.{claims_hold, closed_is_optimal, ends_in_order}
use Rattle.dp_laws.proofs.VersionOnePlans.{plan_ends}
use Rattle.dp_model.specs.declared.limit.Limit.TheVariants as limits
use Rattle.dp_model.specs.declared.limit.TooLarge.{TooLarge}
use Rattle.dp_model.specs.Limits.{first_passed}
use Rattle.dp_spec.specs.Certificate.{Certificate}
use Rattle.dp_spec.specs.Model.{IsModel, Model}
use Rattle.dp_spec.specs.Promises.{IsPlanned, PlanOptions}
use Rattle.dp_words.specs.declared.job.OrderWord.{OrderWord}
use Rattle.dp_cli.specs.Certified.{IsProvedPlan}
use Rattle.dp_cli.specs.Orders.{order_rule}
use Rattle.dp_cli.specs.Planned.{large_fault, plan_limits}
use Rattle.dp_cli.proofs.CertificateLimits.{passed_is_other}
use Rattle.dp_cli.proofs.FileLimits.{AreOthers, IsOther, first_is_other, limit_told, other}

pub plan_is_proved : (m : Model) (order : OrderWord) (h : ℕ) (asked : PlanOptions) (c : Certificate) → IsModel m
    → IsPlanned m (order_rule order) h asked c → IsProvedPlan m order h asked c
plan_is_proved m order h asked c is planned = record {
  planned = planned;
  valid = planned.valid;
  claims = claims_hold m c is planned.valid;
  ordered = ends_in_order m c is planned.valid;
  ended = λ one. plan_ends m (order_rule order) h asked c is planned (planned.version ∙ one);
  optimal = closed_is_optimal m c is planned.valid;
}

-- a passed limit that is none on the bytes of a file is told as none
pub large_is_other : (tried : Option TooLarge) → IsOther tried → IsOther (limit_told (large_fault tried))
large_is_other (Some passed) h = h
large_is_other None h = tt

-- the limits of a plan are none on the bytes of a file
pub plan_limits_are_other : (m : Model) (version h nodes : ℕ)
    → IsOther (limit_told (large_fault (first_passed (plan_limits m version h nodes))))
plan_limits_are_other m version h nodes = large_is_other (first_passed (plan_limits m version h nodes))
    (first_is_other {tried = plan_limits m version h nodes}
    (AreOthers.before (passed_is_other m version h)
    (AreOthers.before (other limits.Nodes _ refl)
    (AreOthers.before (other limits.TreeNodes _ refl) AreOthers.none_left))))
