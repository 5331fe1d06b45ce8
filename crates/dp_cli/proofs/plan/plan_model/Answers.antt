use Rattle.std.proofs.Common.{ap, sym}
use Rattle.std.specs.Prelude.{option_map}
use Rattle.dp_cert.specs.CertificateValue.{certificate_of}
use Rattle.dp_cli.specs.declared.refusal.JobFault.TheVariants as job_faults
use Rattle.dp_cli.proofs.PlanTexts.{plan_written}
use Rattle.dp_cli.proofs.plan.plan_model.Goals as goal

pub returns : goal.returns
returns c =
    let m = c.args.model.now.model in
    let job = c.args.job.now in
    let fit = c.in_ok-fit.fit in
    let can = c.in_ok-fit.ensures.can job.look job.merge c.requires.look.0 c.requires.look.1 in (
      ap (option_map (λ passed. job_faults.TooLarge passed)) (sym c.in_ok-fit.ensures.passed),
      plan_written m job fit (certificate_of c.in_ok-certificate.certificate) _ c.invariant.ensures.model
          c.in_ok-fit.ensures.passed c.in_ok-fit.ensures.fit can
          c.in_ok-certificate.ensures (c.in_ok-write_cert.ensures.spelled m c.invariant.ensures.model),
    )
