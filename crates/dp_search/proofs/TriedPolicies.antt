-- A search whose policy was tried: its tree and its held leaves stay, and its lower end does not fall.
use Rattle.std.proofs.Common.{◌≡◌, ℕ, true, false, ℤ, ◌≤ℤ◌, All, List, ◌∷◌, map, sym, ap, subst}
use Rattle.std.specs.BinaryHeap.{heap_items}
use Rattle.dp_spec.specs.Front.{Front}
use Rattle.dp_spec.specs.Space.{Space}
use Rattle.dp_spec.specs.SearchState.{IsOpenLeaf, OpenLeaf}
use Rattle.dp_tree.specs.Nodes.{Nodes}
use Rattle.dp_search.specs.declared.held_leaves.HeldLeaves.{HeldLeaves}
use Rattle.dp_search.specs.declared.held_leaf.HeldLeaf.{HeldLeaf}
use Rattle.dp_search.specs.declared.state.State.{State}
use Rattle.dp_search.specs.Running.{IsRunning}
use Rattle.dp_search.specs.SearchStates.{held_leaves, open_leaf, Runs}
use Rattle.dp_search.proofs.GrownLeaves.{all_of_map}
use Rattle.dp_search.proofs.Steps.{full_passes, running_raised}

module _ {F P : Type 0} (meaning : F → Front) (S : Space) (constants : ℤ) (width budget : ℕ)
    (st st' : State F P)
    (rest : List OpenLeaf) where
  -- what runs with the parts of the first state runs as the second state
  moved : st'.arena ≡ st.arena → st'.held ≡ st.held → st'.inner ≡ st.inner
      → IsRunning S constants width budget st.arena st'.lower st.inner (held_leaves meaning st) rest
      → Runs meaning S constants width budget st' rest
  moved arena held inner running =
      let leaves : HeldLeaves F → List OpenLeaf = λ h. map (open_leaf meaning) (heap_items h.heap) in
      let running = subst (λ (a : Nodes).
      IsRunning S constants width budget a st'.lower st.inner (held_leaves meaning st) rest) (sym arena)
      running in
      let running = subst (λ (n : ℕ).
      IsRunning S constants width budget st'.arena st'.lower n (held_leaves meaning st) rest) (sym inner)
      running in
      subst (λ (es : List OpenLeaf). IsRunning S constants width budget st'.arena st'.lower st'.inner es rest)
      (sym (ap leaves held)) running

  -- after the policy of the next leaf, which is full
  pub full_leaf_runs : (p : OpenLeaf) → st'.arena ≡ st.arena → st'.held ≡ st.held → st'.inner ≡ st.inner
      → st.lower ≤ℤ st'.lower → S.is_full p.front ≡ true → S.worth p.front ≤ℤ st'.lower
      → Runs meaning S constants width budget st (p ∷ rest) → Runs meaning S constants width budget st' rest
  full_leaf_runs p arena held inner le full worth running =
      moved arena held inner
      (full_passes S constants width budget st.arena st.inner st.lower st'.lower (held_leaves meaning st)
      rest p le
      full worth running)

  -- after any other policy
  pub tried_runs : st'.arena ≡ st.arena → st'.held ≡ st.held → st'.inner ≡ st.inner → st.lower ≤ℤ st'.lower
      → Runs meaning S constants width budget st rest → Runs meaning S constants width budget st' rest
  tried_runs arena held inner le running =
      moved arena held inner
      (running_raised S constants width budget st.arena st.inner st.lower st'.lower (held_leaves meaning st)
      rest le
      running)

-- ---- what is held

-- each leaf that is held is neither full nor wide
pub held_are_open : {F P : Type 0} (meaning : F → Front) (S : Space) (constants : ℤ) (width budget : ℕ)
    (st : State F P)
    (rest : List OpenLeaf) → Runs meaning S constants width budget st rest
    → All (λ (o : HeldLeaf F). S.is_full (meaning o.front) ≡ false) (heap_items st.held.heap)
    × All (λ (o : HeldLeaf F). S.is_wide o.above (meaning o.front) ≡ false) (heap_items st.held.heap)
held_are_open {F} meaning S constants width budget st rest running =
    let items = heap_items st.held.heap in
    let IsOpen = IsOpenLeaf S st.arena.nodes running.labels running.settled in
    let are = all_of_map IsOpen (open_leaf meaning) items running.search.held in
    ((λ k d lt. (are k d lt).not_full), (λ k d lt. (are k d lt).not_wide))
