use Rattle.dp_pomdp.proofs.KeyRows.{first_weights}
use Rattle.dp_pomdp.proofs.key_rows.first_row.Goals as goal

pub returns : goal.returns
returns c =
    first_weights c.args.fit.exact c.args.model.now.model c.invariant.ensures.model c.args.fit.horizon c.args.fit.unit
    c.requires.fit c.in_ok-weights.weights.items c.in_ok-weights.ensures
