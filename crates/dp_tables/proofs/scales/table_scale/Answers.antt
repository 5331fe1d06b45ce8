use Rattle.std.proofs.Common.{ap, arith}
use Rattle.dp_meaning.specs.Cells.{statements_for}
use Rattle.dp_meaning.specs.Scales.{digits_of_statements}
use Rattle.dp_meaning.proofs.SaidTexts.{statement_digits}
use Rattle.dp_tables.proofs.scales.table_scale.Goals as goal

pub scale-requires : goal.scale-requires
scale-requires c =
    let few = statement_digits c.args.text.now c.args.table c.requires in
    let same = ap (λ ss. digits_of_statements (statements_for c.args.table ss)) c.as_slice-statements.ensures in
    omega arith
