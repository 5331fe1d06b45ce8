use Rattle.std.proofs.Common.{◌∙◌}
use Rattle.dp_cert.proofs.RowParts.{row_of_line}
use Rattle.dp_cert.proofs.shared_text.row_of.Goals as goal

pub returns : goal.returns
returns c =
    row_of_line c.args.numbers.items c.of.result c.remove-action.result c.requires.some
    c.remove-action.ensures.value
    (c.of.ensures ∙ c.remove-action.ensures.items)
