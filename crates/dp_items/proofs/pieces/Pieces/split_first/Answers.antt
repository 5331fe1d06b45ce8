use Rattle.std.proofs.Common.{sym, ◌∙◌}
use Rattle.dp_items.proofs.Places.{drop_none}
use Rattle.dp_items.proofs.pieces.Pieces.split_first.Goals as goal

pub returns-in-None : goal.returns-in-None
returns-in-None c = drop_none c.args.self.now 0 (sym c.get.ensures ∙ c.in-None.is)
