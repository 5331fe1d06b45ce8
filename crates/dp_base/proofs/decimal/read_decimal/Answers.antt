use Rattle.std.proofs.Common.{refl, ◌∙◌}
use Rattle.dp_base.specs.Decimals.{decimal_of}
use Rattle.dp_base.proofs.Outcomes.{read_is, shape_iff, large_iff, digits_iff}
use Rattle.dp_base.proofs.decimal.read_decimal.Goals as goal

pub returns-clause-computed : goal.returns-clause-computed
unfolding decimal_of
returns-clause-computed c = c.read_magnitude.ensures ∙ rw (c.byte_at.ensures, c.unsigned.ensures) refl

pub returns-clause-read : goal.returns-clause-read
returns-clause-read c = rw (returns-clause-computed c) (read_is c.args.text.now)

pub returns-clause-shape : goal.returns-clause-shape
returns-clause-shape c = rw (returns-clause-computed c) (shape_iff c.args.text.now)

pub returns-clause-large : goal.returns-clause-large
returns-clause-large c = rw (returns-clause-computed c) (large_iff c.args.text.now)

pub returns-clause-digits : goal.returns-clause-digits
returns-clause-digits c = λ k. rw (returns-clause-computed c) (digits_iff c.args.text.now k)
