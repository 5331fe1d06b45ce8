use Rattle.std.proofs.Common.{ap, ◌∙◌, drop, arith}
use Rattle.dp_meaning.specs.Items.{value_pieces}
use Rattle.dp_items.proofs.ItemLemmas.{first_ahead, first_within, two_of_all, value_is}
use Rattle.dp_items.proofs.item.Item.value.Goals as goal

pub between-requires-clause-in_order : goal.between-requires-clause-in_order
between-requires-clause-in_order c =
    let ahead = first_ahead _ _ _ _ _ c.self.invariant in
    let first = first_within _ _ _ _ _ c.self.invariant in omega arith

pub from-requires : goal.from-requires
from-requires c = rw c.between.ensures (two_of_all _ _ _ _ _ c.self.invariant)

pub returns : goal.returns
returns c = c.from.ensures ∙ ap (drop 2) c.between.ensures ∙ value_is _ _ _ _ _ c.self.invariant
    ∙ ap value_pieces c.self.view_is
