use Rattle.dp_laws.proofs.TrueFits.{true_fit_of_version}
use Rattle.dp_laws.proofs.true_fits.horizons_have_a_true_fit.Goals as goal

pub returns : goal.returns
returns c = true_fit_of_version
