use Rattle.std.proofs.Common.{ℕ, None, sym, ap, ◌∙◌, subst}
use Rattle.std.proofs.lemmas.Result.{err_from_is_err_and}
use Rattle.dp_spec.specs.SharedPolicy.{IsSharedOf, unfolded}
use Rattle.dp_laws.proofs.SharedTrees.{unfolded_is_policy}
use Rattle.dp_cert.specs.CertificateValue.{certificate_of}
use Rattle.dp_writer.specs.Draws.{seed_stream}
use Rattle.dp_cli.specs.EpisodeTexts.{episodes_text}
use Rattle.dp_cli.proofs.ActorsOfRows.{kept_horizon}
use Rattle.dp_cli.proofs.CertificateReading.{certificate_read, stops_reading}
use Rattle.dp_cli.proofs.sim.sim_of.Goals as goal

pub returns-in_err-cert : goal.returns-in_err-cert
returns-in_err-cert c =
    let exit = err_from_is_err_and c.from_residual.result c.from_residual.ensures.1 in
    rw (exit.1, exit.2)
    (stops_reading (λ cert. None) c.args.read.now.model.model c.invariant.ensures.model c.args.bytes.now
    c.in_err-cert.field-0.0 c.in_err-cert.ensures.answers)

pub episodes_of-requires : goal.episodes_of-requires
episodes_of-requires c =
    let m = c.args.read.now.model.model in
    let p = c.in_ok-cert.cert.policy in
    let of = c.in_ok-cert.ensures.fits.policy.shared in
    let same = kept_horizon m c.invariant.ensures.model c.in_ok-cert.cert.horizon p.horizon p.rows of
    c.invariant-2.ensures in
    subst (λ (h : ℕ). IsSharedOf m h p.rows) (sym same) of

pub returns : goal.returns
returns c =
    let m = c.args.read.now.model.model in
    let cert = certificate_of c.in_ok-cert.cert in
    let p = c.in_ok-cert.cert.policy in
    let of = c.in_ok-cert.ensures.fits.policy.shared in
    let same = kept_horizon m c.invariant.ensures.model cert.horizon p.horizon p.rows of c.invariant-2.ensures in (
      certificate_read (λ cert. None) m c.invariant.ensures.model c.args.bytes.now cert c.in_ok-cert.ensures.answers,
      record {
        is_model = c.invariant.ensures.model;
        certificate = cert;
        says = c.in_ok-cert.ensures.text;
        policy = unfolded_is_policy m cert.horizon p.rows of;
        tells = c.in_ok-episodes_of.ensures ∙ ap (λ h. episodes_text m h (unfolded p.rows) 0 c.args.episodes
            (seed_stream c.args.seed)) same;
      },
    )
