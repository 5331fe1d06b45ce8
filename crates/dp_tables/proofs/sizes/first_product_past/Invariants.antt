use Rattle.std.proofs.Common.{◌≡◌, drop, map}
use Rattle.dp_meaning.specs.Limits.{product_past}
use Rattle.dp_meaning.specs.NameLists.{size_of}
use Rattle.dp_tables.proofs.sizes.first_product_past.Given as goal

abbrev pub invariant-loop-list : goal.invariant-loop-list
invariant-loop-list l =
    product_past l.most l.product (map size_of (drop l.list-index l.lists))
    ≡ product_past l.most 1 (map size_of l.lists)
