-- What the state of a search in code stands for. (Own.)
use Rattle.std.specs.Prelude.{ℕ, ◌≡◌, All, List, map, ℤ}
use Rattle.std.specs.BinaryHeap.{heap_items}
use Rattle.dp_spec.specs.Front.{Front}
use Rattle.dp_spec.specs.Space.{Space}
use Rattle.dp_spec.specs.SearchState.{OpenLeaf}
use Rattle.dp_search.specs.declared.planner.Child.{Child}
use Rattle.dp_search.specs.declared.held_leaf.HeldLeaf.{HeldLeaf}
use Rattle.dp_search.specs.declared.state.State.{State}
use Rattle.dp_search.specs.Running.{IsRunning, NextFront}

module _ {F : Type 0} (meaning : F → Front) where
  abbrev pub open_leaf : HeldLeaf F → OpenLeaf
  open_leaf o = record { node = o.node; above = o.above; bound = o.bound; front = meaning o.front }

  abbrev pub next_front : Child F → NextFront
  next_front c = record { front = meaning c.front; bound = c.bound }

  -- the leaves that a state holds
  abbrev pub held_leaves : {P : Type 0} → State F P → List OpenLeaf
  held_leaves st = map open_leaf (heap_items st.held.heap)

  -- the state is that of a search, with these leaves still to be looked at
  abbrev pub Runs : {P : Type 0} → Space → ℤ → ℕ → ℕ → State F P → List OpenLeaf → Type 0
  Runs S constants width budget st pending =
      IsRunning S constants width budget st.arena st.lower st.inner (held_leaves st) pending

-- A state holds fronts of the planner alone, and a policy of it, whose low worth is the lower end.
pub record IsState {F P : Type 0} (IsFront : F → Type 0) (IsPolicy : P → Type 0) (worth : P → ℤ)
    (st : State F P) : Type 0 where
  pub fronts : All (λ (o : HeldLeaf F). IsFront o.front) (heap_items st.held.heap)
  pub policy : IsPolicy st.policy
  pub lower : worth st.policy ≡ st.lower
