use Rattle.dp_items.proofs.ItemLemmas.{begins_with_two}
use Rattle.dp_items.proofs.item.Item.after_colon.Goals as goal

pub from-requires : goal.from-requires
from-requires c = rw c.first_line.ensures (begins_with_two _ c.invariant.ensures.begins)
