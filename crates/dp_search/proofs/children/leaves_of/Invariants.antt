use Rattle.std.proofs.Common.{◌≡◌, ◌+◌, length, map}
use Rattle.dp_spec.specs.Front.{Front}
use Rattle.dp_search.specs.declared.held_leaf.HeldLeaf.{HeldLeaf}
use Rattle.dp_search.specs.declared.planner.Child.{Child}
use Rattle.dp_search.specs.Running.{opened}
use Rattle.dp_search.specs.SearchStates.{open_leaf, next_front}
use Rattle.dp_search.proofs.children.leaves_of.Given as goal

abbrev pub invariant-loop-child : goal.invariant-loop-child
invariant-loop-child g l =
    (goal.iterator-loop-child g).can_next l.child-iterator
    × (goal.iterator-loop-child g).is_finite l.child-iterator
    × (l.node ≡ l.fn.first + length l.yielded)
    × ((meaning : _ → Front) → map (open_leaf meaning) l.leaves.items
    ≡ opened l.fn.first (l.top.above + 1) l.top.bound (map (next_front meaning) l.yielded))
    × (map (λ (o : HeldLeaf _). o.front) l.leaves.items ≡ map (λ (c : Child _). c.front) l.yielded)
