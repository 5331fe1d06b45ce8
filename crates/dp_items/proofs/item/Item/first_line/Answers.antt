use Rattle.std.proofs.Common.{arith}
use Rattle.dp_items.proofs.ItemLemmas.{first_ahead, first_within}
use Rattle.dp_items.proofs.item.Item.first_line.Goals as goal

pub between-requires-clause-in_order : goal.between-requires-clause-in_order
between-requires-clause-in_order c = first_ahead _ _ _ _ _ c.self.invariant

pub between-requires-clause-within : goal.between-requires-clause-within
between-requires-clause-within c =
    let first = first_within _ _ _ _ _ c.self.invariant in
    let within = c.self.invariant.within in omega arith
