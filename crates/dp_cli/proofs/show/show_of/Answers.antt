use Rattle.std.proofs.Common.{ℕ, ◌≤◌, sym, ap, ◌∙◌, subst}
use Rattle.std.specs.Prelude.{option_map}
use Rattle.std.proofs.lemmas.Result.{err_from_is_err_and}
use Rattle.dp_spec.specs.Mode.{own_history_count}
use Rattle.dp_spec.specs.SharedPolicy.{IsSharedOf, unfolded}
use Rattle.dp_laws.proofs.SharedTrees.{unfolded_is_policy}
use Rattle.dp_cert.specs.CertificateValue.{certificate_of}
use Rattle.dp_cli.specs.declared.refusal.JobFault.TheVariants as job_faults
use Rattle.dp_cli.specs.ShowCommand.{horizon_fault}
use Rattle.dp_cli.specs.ShownPolicies.{policy_text}
use Rattle.dp_cli.proofs.ActorsOfRows.{kept_horizon}
use Rattle.dp_cli.proofs.CertificateReading.{certificate_read, stops_reading}
use Rattle.dp_cli.proofs.show.show_of.Goals as goal

pub returns-in_err-cert : goal.returns-in_err-cert
returns-in_err-cert c =
    let exit = err_from_is_err_and c.from_residual.result c.from_residual.ensures.1 in
    rw (exit.1, exit.2)
    (stops_reading (λ cert. horizon_fault c.args.read.now.model.model cert.horizon) c.args.read.now.model.model
    c.invariant.ensures.model c.args.bytes.now c.in_err-cert.field-0.0 c.in_err-cert.ensures.answers)

pub returns-in_err-fits : goal.returns-in_err-fits
returns-in_err-fits c =
    let m = c.args.read.now.model.model in
    let exit = err_from_is_err_and c.from_residual-in_err-fits.result c.from_residual-in_err-fits.ensures.1 in
    rw (exit.1, exit.2)
    (certificate_read (λ cert. horizon_fault m cert.horizon) m c.invariant.ensures.model c.args.bytes.now
    (certificate_of c.in_ok-cert.cert) c.in_ok-cert.ensures.answers
    ∙ ap (option_map (λ passed. job_faults.TooLarge passed)) (sym c.in_err-fits.ensures.passed))

pub policy_text-requires-clause-policy : goal.policy_text-requires-clause-policy
policy_text-requires-clause-policy c =
    let m = c.args.read.now.model.model in
    let p = c.in_ok-cert.cert.policy in
    let of = c.in_ok-cert.ensures.fits.policy.shared in
    let same = kept_horizon m c.invariant.ensures.model c.in_ok-cert.cert.horizon p.horizon p.rows of
    c.invariant-2.ensures in
    subst (λ (h : ℕ). IsSharedOf m h p.rows) (sym same) of

pub policy_text-requires-clause-few : goal.policy_text-requires-clause-few
policy_text-requires-clause-few c =
    let m = c.args.read.now.model.model in
    let p = c.in_ok-cert.cert.policy in
    let of = c.in_ok-cert.ensures.fits.policy.shared in
    let same = kept_horizon m c.invariant.ensures.model c.in_ok-cert.cert.horizon p.horizon p.rows of
    c.invariant-2.ensures in
    subst (λ (h : ℕ). own_history_count m.observations h ≤ 2048) (sym same) c.in_ok-fits.ensures.within.own_histories

pub returns : goal.returns
returns c =
    let m = c.args.read.now.model.model in
    let cert = certificate_of c.in_ok-cert.cert in
    let p = c.in_ok-cert.cert.policy in
    let of = c.in_ok-cert.ensures.fits.policy.shared in
    let same = kept_horizon m c.invariant.ensures.model cert.horizon p.horizon p.rows of c.invariant-2.ensures in (
      certificate_read (λ cert. horizon_fault m cert.horizon) m c.invariant.ensures.model c.args.bytes.now cert
          c.in_ok-cert.ensures.answers
          ∙ ap (option_map (λ passed. job_faults.TooLarge passed)) (sym c.in_ok-fits.ensures.passed),
      record {
        is_model = c.invariant.ensures.model;
        certificate = cert;
        says = c.in_ok-cert.ensures.text;
        policy = unfolded_is_policy m cert.horizon p.rows of;
        tells = c.in_ok-policy_text.ensures ∙ ap (policy_text c.args.read.now.model.names m.observations
            (unfolded p.rows)) same;
      },
    )
