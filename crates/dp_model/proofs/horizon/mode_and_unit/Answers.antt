use Rattle.std.proofs.Common.{refl}
use Rattle.dp_model.proofs.HorizonLemmas.{exact_fit, outward_fit}
use Rattle.dp_model.proofs.horizon.mode_and_unit.Goals as goal

pub returns-in-Some : goal.returns-in-Some
returns-in-Some c = exact_fit c.args.model.now.model c.args.horizon c.in-Some.unit c.in-Some.ensures.is.0
    c.in-Some.ensures.is.1 c.in-Some.ensures.limit

pub returns-in-None : goal.returns-in-None
returns-in-None c = outward_fit c.args.model.now.model c.args.horizon _ refl c.in-None.ensures.is
