use Rattle.std.proofs.Common.{false}
use Rattle.dp_writer.proofs.RowNeeds.{cell_digits_are, decimal_cell, no_decimal_cell}
use Rattle.dp_writer.proofs.needs.cell_digits.Goals as goal

pub returns-then-from-ne0 : goal.returns-then-from-ne0
returns-then-from-ne0 c =
    no_decimal_cell c.args.scale c.args.n c.from.result c.from-2.result c.from.ensures c.from-2.ensures
    c.if-from-ne0.true

pub returns : goal.returns
returns c = record {
  decimals = decimal_cell c.args.scale c.args.n c.from.result c.from-2.result c.from.ensures c.from-2.ensures
      c.if-from-ne0.false;
  most = cell_digits_are c.args.scale c.args.n c.magnitude_over.result.digits _ (c.magnitude_over.ensures.is false);
  within = c.magnitude_over.ensures.digits;
}
