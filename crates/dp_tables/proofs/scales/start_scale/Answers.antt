use Rattle.std.proofs.Common.{ap, arith}
use Rattle.dp_meaning.specs.Scales.{most_digits}
use Rattle.dp_meaning.proofs.SaidTexts.{start_digits}
use Rattle.dp_tables.proofs.scales.start_scale.Goals as goal

pub scale-requires-in-StartRow : goal.scale-requires-in-StartRow
scale-requires-in-StartRow c =
    let few = start_digits c.args.text.now c.in-StartRow.field-0 c.in-StartRow.row c.requires c.in-StartRow.is in
    let same = ap most_digits c.as_slice.ensures in omega arith
