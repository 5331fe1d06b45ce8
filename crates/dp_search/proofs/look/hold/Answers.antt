use Rattle.std.proofs.Common.{◌≡◌, ◌∷◌, map, sym, ◌∙◌, arith, true, false, ◌≤ℤ◌, refl}
use Rattle.std.specs.BinaryHeap.{heap_items}
use Rattle.std.proofs.lemmas.Int.{ints}
use Rattle.std.proofs.lemmas.List.Elements.{All-cons}
use Rattle.std.proofs.lemmas.List.Sorted.{All-permutation, IsPermutation-map}
use Rattle.dp_search.specs.declared.held_leaf.HeldLeaf.{HeldLeaf}
use Rattle.dp_search.specs.SearchStates.{open_leaf}
use Rattle.dp_search.proofs.Steps.{leaf_held, leaf_passes, running_moved}
use Rattle.dp_search.proofs.look.hold.Goals as goal
use Rattle.dp_search.proofs.look.hold.Goals.{else-exceeds-via-then-exceeds+else-not-is_wide}
use Rattle.dp_search.proofs.look.hold.Goals.{else-exceeds-via-else-exceeds}

pub returns-in_ok-push-clause-runs : goal.returns-in_ok-push-clause-runs
returns-in_ok-push-clause-runs g c = λ budget rest running.
    let S = g.X.Planner.space c.args.planner.now in
    let constants = g.X.Planner.constants c.args.planner.now in
    let width = g.X.Planner.width c.args.planner.now in
    let meaning = g.X.Planner.meaning c.args.planner.now in
    let st = c.args.state.now in
    let leaf = c.args.leaf in
    let items = heap_items st.held.heap in
    let narrow = sym c.if-not-is_wide.ensures in
    let held = leaf_held S constants width budget st.arena st.inner st.lower (map (open_leaf meaning) items)
    rest
    (open_leaf meaning leaf) c.requires.early narrow running in
    let moved = IsPermutation-map (open_leaf meaning) (leaf ∷ items) (heap_items c.push.new.self.heap)
    c.in_ok-push.ensures.held in
    running_moved S constants width budget st.arena st.inner st.lower _ _ rest moved held

pub returns-in_ok-push-clause-kept : goal.returns-in_ok-push-clause-kept
returns-in_ok-push-clause-kept g c =
    let items = heap_items c.args.state.now.held.heap in
    let P = λ (o : HeldLeaf _). g.X.Planner.IsFront c.args.planner.now o.front in
    record {
      fronts = All-permutation P (c.args.leaf ∷ items) (heap_items c.push.new.self.heap)
          c.in_ok-push.ensures.held
          (All-cons P c.args.leaf items c.requires.front c.requires.kept.fronts);
      policy = c.requires.kept.policy;
      lower = c.requires.kept.lower;
    }

pub returns-else-exceeds-clause-runs : goal.returns-else-exceeds-clause-runs
returns-else-exceeds-clause-runs g c = λ budget rest running.
    let S = g.X.Planner.space c.args.planner.now in
    let constants = g.X.Planner.constants c.args.planner.now in
    let width = g.X.Planner.width c.args.planner.now in
    let meaning = g.X.Planner.meaning c.args.planner.now in
    let st = c.args.state.now in
    let leaf = c.args.leaf in
    let es = map (open_leaf meaning) (heap_items st.held.heap) in
    let passes = leaf_passes S constants width budget st.arena st.inner st.lower es rest
    (open_leaf meaning leaf)
    c.requires.early in
    elim c.else-exceeds.branch [
      | else-exceeds-via-then-exceeds+else-not-is_wide w ↦
          let wide : w.is_wide.result ≡ S.is_wide leaf.above (meaning leaf.front) = w.is_wide.ensures in
          let told = w.if-not-is_wide.false in
          passes (λ over narrow. let both : true ≡ false = sym told ∙ wide ∙ narrow in cc both) running
      | else-exceeds-via-else-exceeds w ↦
          let under : leaf.bound ≤ℤ st.lower = w.if-exceeds.ensures.not refl in
          passes (λ over narrow. absurd (omega (arith, ints))) running
    ]
