use Rattle.dp_items.proofs.ItemRangeLemmas.{AreItemsFrom}
use Rattle.dp_items.proofs.item_range.items_of.Given as goal

abbrev pub invariant-loop-at : goal.invariant-loop-at
invariant-loop-at l = AreItemsFrom l.end l.pieces l.lines l.at l.before l.past l.next l.items.items

abbrev pub decreases-loop-at : goal.decreases-loop-at
decreases-loop-at l = l.at
