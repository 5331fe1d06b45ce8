use Rattle.std.proofs.Common.{◌≡◌, ℕ, All, map}
use Rattle.dp_search.specs.declared.held_leaf.HeldLeaf.{HeldLeaf}
use Rattle.dp_search.specs.SearchStates.{IsState, open_leaf, Runs}
use Rattle.dp_search.proofs.look.look_at_all.Given as goal

abbrev pub invariant-loop-leaf : goal.invariant-loop-leaf
invariant-loop-leaf g l =
    (goal.iterator-loop-leaf g).can_next l.leaf-iterator
    × (goal.iterator-loop-leaf g).is_finite l.leaf-iterator
    × ((budget : ℕ)
    → Runs (g.X.Planner.meaning l.planner) (g.X.Planner.space l.planner) (g.X.Planner.constants l.planner)
    (g.X.Planner.width l.planner) budget l.fn.state (map (open_leaf (g.X.Planner.meaning l.planner))
    l.fn.leaves.items)
    → Runs (g.X.Planner.meaning l.planner) (g.X.Planner.space l.planner) (g.X.Planner.constants l.planner)
    (g.X.Planner.width l.planner) budget l.state
    (map (open_leaf (g.X.Planner.meaning l.planner)) l.leaf-iterator.rest.items))
    × IsState (g.X.Planner.IsFront l.planner) (g.X.Planner.IsPolicy l.planner) (g.X.Planner.worth l.planner)
    l.state
    × All (λ (o : HeldLeaf _). g.X.Planner.IsFront l.planner o.front) l.leaf-iterator.rest.items
    × (l.state.inner ≡ l.fn.state.inner)
