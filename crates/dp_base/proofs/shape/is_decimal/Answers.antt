use Rattle.std.proofs.Common.{ap, ◌∙◌}
use Rattle.dp_base.specs.DecimalShape.{is_decimal, is_magnitude}
use Rattle.dp_base.proofs.Grammar.{decimal_iff}
use Rattle.dp_base.proofs.shape.is_decimal.Goals as goal

pub returns-clause-computed : goal.returns-clause-computed
unfolding is_decimal
returns-clause-computed c = c.is_magnitude.ensures ∙ ap is_magnitude c.unsigned.ensures

pub returns-clause-shape : goal.returns-clause-shape
returns-clause-shape c = rw (returns-clause-computed c) (decimal_iff c.args.text.now)
