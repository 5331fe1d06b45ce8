use Rattle.std.proofs.Common.{◌≡◌, true, ap, sym, ◌∙◌, subst}
use Rattle.dp_cert.specs.CertificateValue.{certificate_of}
use Rattle.dp_model.specs.declared.horizon.Fit.{Fit}
use Rattle.dp_spec.specs.Promises.{IsPlanned}
use Rattle.dp_words.specs.declared.job.OrderWord.TheVariants.{First}
use Rattle.dp_cli.specs.Orders.{order_rule}
use Rattle.dp_cli.specs.Planned.{large_fault}
use Rattle.dp_cli.specs.TrialCommand.{trial_options}
use Rattle.dp_cli.proofs.CertificateSizes.{lower_fits, units, upper_fits}
use Rattle.dp_cli.proofs.trial.trial_of.Goals as goal

pub planned_by_number-requires : goal.planned_by_number-requires
planned_by_number-requires c =
    c.in_ok-fit.ensures.can c.args.job.now.look true c.requires.look.0 c.requires.look.1

pub trial_text-requires-clause-lower : goal.trial_text-requires-clause-lower
trial_text-requires-clause-lower c =
    lower_fits c.args.model.now.model (certificate_of c.in_ok-certificate.certificate) c.invariant.ensures.model
    c.in_ok-certificate.ensures.valid

pub trial_text-requires-clause-upper : goal.trial_text-requires-clause-upper
trial_text-requires-clause-upper c =
    upper_fits c.args.model.now.model (certificate_of c.in_ok-certificate.certificate) c.invariant.ensures.model
    c.in_ok-certificate.ensures.valid

pub trial_text-requires-clause-some : goal.trial_text-requires-clause-some
trial_text-requires-clause-some c =
    (units c.args.model.now.model c.invariant.ensures.model (certificate_of c.in_ok-certificate.certificate)
    c.in_ok-certificate.ensures.valid).0

pub trial_text-requires-clause-unit : goal.trial_text-requires-clause-unit
trial_text-requires-clause-unit c =
    (units c.args.model.now.model c.invariant.ensures.model (certificate_of c.in_ok-certificate.certificate)
    c.in_ok-certificate.ensures.valid).1

pub returns : goal.returns
returns c =
    let m = c.args.model.now.model in
    let job = c.args.job.now in
    let certificate = certificate_of c.in_ok-certificate.certificate in (
      ap large_fault (sym c.in_ok-fit.ensures.passed),
      record {
        is_model = c.invariant.ensures.model;
        certificate = certificate;
        planned = subst (λ (h : _). IsPlanned m (order_rule First) h (trial_options job) certificate)
            (ap (λ (f : Fit). f.horizon) c.in_ok-fit.ensures.fit) c.in_ok-certificate.ensures;
        tells = c.in_ok-trial_text.ensures;
      },
    )
