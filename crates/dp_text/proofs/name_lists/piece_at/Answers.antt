use Rattle.std.proofs.Common.{sym}
use Rattle.dp_items.proofs.Places.{drop_at}
use Rattle.dp_text.proofs.name_lists.piece_at.Goals as goal

pub returns : goal.returns
returns c = drop_at c.args.pieces.now c.args.place c.in-Some.piece (sym c.in-Some.ensures)
