use Rattle.std.proofs.Common.{ap, refl}
use Rattle.std.proofs.lemmas.Result.{err_from_is_err_and}
use Rattle.dp_cli.specs.ModelText.{model_meant}
use Rattle.dp_cli.specs.Planned.{limits_fault}
use Rattle.dp_cli.proofs.Doing.{gives_of_model, has_model, lacks_model, works_by}
use Rattle.dp_cli.proofs.plan.plan.Goals as goal

pub returns-in_err-read : goal.returns-in_err-read
returns-in_err-read g c =
    let exit = err_from_is_err_and c.from_residual.result c.from_residual.ensures.1 in
    rw (exit.1, exit.2)
    (lacks_model _ c.in_err-read.field-0.0 (λ read. limits_fault c.args.job.now read.model.model) refl (λ text. refl)
    c.in_err-read.ensures)

pub returns : goal.returns
returns g c =
    has_model _ c.in_ok-read.read refl c.in_ok-read.ensures
    (λ text means. works_by c.plan_model.result
    (gives_of_model text (limits_fault c.args.job.now) c.plan_model.result means
    (λ t plan. record { model = c.in_ok-read.read.model.model; meant = ap model_meant means; plan = plan })
    c.plan_model.ensures))
