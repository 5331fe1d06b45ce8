-- The order of the leaves that are held. (Own.)
use Rattle.std.specs.declared.cmp.Ordering.{Ordering}
use Rattle.std.specs.Ordering.{nat_cmp, int_cmp, ordering_then}
use Rattle.dp_search.specs.declared.held_leaf.HeldLeaf.{HeldLeaf}

-- by bound, then by the steps above, then by number
abbrev pub leaf_cmp : {F : Type 0} → HeldLeaf F → HeldLeaf F → Ordering
leaf_cmp x y = ordering_then (int_cmp x.bound y.bound) (ordering_then (nat_cmp x.above y.above)
    (nat_cmp x.node y.node))
