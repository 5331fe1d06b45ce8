use Rattle.std.proofs.Common.{◌∷◌, [], map, ap, sym, subst, ◌∙◌, arith}
use Rattle.std.specs.BinaryHeap.{heap_items}
use Rattle.std.proofs.lemmas.List.Elements.{All-head, All-tail}
use Rattle.std.proofs.lemmas.List.Sorted.{All-permutation, IsPermutation-map}
use Rattle.dp_search.specs.declared.held_leaf.HeldLeaf.{HeldLeaf}
use Rattle.dp_search.specs.SearchStates.{open_leaf}
use Rattle.dp_search.proofs.Steps.{running_moved}
use Rattle.dp_search.proofs.GrownLeaves.{ends, finished_same, running_same}
use Rattle.dp_search.proofs.TriedPolicies.{tried_runs}
use Rattle.dp_search.proofs.search.grow_all.Goals as goal

pub grow_top-requires-clause-runs : goal.grow_top-requires-clause-runs
grow_top-requires-clause-runs g c =
    let meaning = g.X.Planner.meaning c.args.planner.now in
    let S = g.X.Planner.space c.args.planner.now in
    let st = c.loop-top.state in
    let taken = c.take_greatest.new.state in
    let old = heap_items st.held.heap in
    let left = c.in-Some.top ∷ heap_items taken.held.heap in
    let moved = IsPermutation-map (open_leaf meaning) old left c.in-Some.ensures.moved in
    running_same S _ _ _ st.arena taken.arena st.lower taken.lower st.inner taken.inner
    (map (open_leaf meaning) left)
    c.in-Some.ensures.arena c.in-Some.ensures.lower c.in-Some.ensures.inner
    (running_moved S _ _ _ st.arena st.inner st.lower (map (open_leaf meaning) old)
    (map (open_leaf meaning) left) []
    moved c.loop-top.invariant.0)

pub grow_top-requires-clause-front : goal.grow_top-requires-clause-front
grow_top-requires-clause-front g c =
    let P = λ (o : HeldLeaf _). g.X.Planner.IsFront c.args.planner.now o.front in
    let old = heap_items c.loop-top.state.held.heap in
    let left = heap_items c.take_greatest.new.state.held.heap in
    All-head P c.in-Some.top left
    (All-permutation P old (c.in-Some.top ∷ left) c.in-Some.ensures.moved c.loop-top.invariant.1.fronts)

pub grow_top-requires-clause-kept : goal.grow_top-requires-clause-kept
grow_top-requires-clause-kept g c =
    let P = λ (o : HeldLeaf _). g.X.Planner.IsFront c.args.planner.now o.front in
    let old = heap_items c.loop-top.state.held.heap in
    let left = heap_items c.take_greatest.new.state.held.heap in
    let is = c.loop-top.invariant.1 in
    record {
      fronts = All-tail P c.in-Some.top left
          (All-permutation P old (c.in-Some.top ∷ left) c.in-Some.ensures.moved is.fronts);
      policy = subst (g.X.Planner.IsPolicy c.args.planner.now) (sym c.in-Some.ensures.policy) is.policy;
      lower = ap (g.X.Planner.worth c.args.planner.now) c.in-Some.ensures.policy ∙ is.lower
          ∙ sym c.in-Some.ensures.lower;
    }

pub loop-top-preserved : goal.loop-top-preserved
loop-top-preserved g c =
    let meaning = g.X.Planner.meaning c.args.planner.now in
    let S = g.X.Planner.space c.args.planner.now in
    let grown = c.grow_top.new.state in
    let tried = c.in_ok-try_completion.ensures in
    let after = c.try_completion.new.state in (
      tried_runs meaning S (g.X.Planner.constants c.args.planner.now) (g.X.Planner.width c.args.planner.now)
          c.args.budget grown after [] tried.arena tried.held tried.inner tried.raised
          c.in_ok-grow_top.ensures.runs,
      tried.kept,
      tried.room,
      (λ none.
          let more = c.in_ok-grow_top.ensures.inner in
          let same = tried.inner in
          absurd (omega arith)),
    )

pub returns-clause-finished : goal.returns-clause-finished
returns-clause-finished g c =
    let meaning = g.X.Planner.meaning c.args.planner.now in
    let S = g.X.Planner.space c.args.planner.now in
    let st = c.loop-top.state in
    let taken = c.take_greatest.new.state in
    let same = c.take_greatest.ensures in
    finished_same S _ _ st.arena taken.arena st.lower taken.lower st.inner taken.inner same.arena same.lower
    same.inner
    (ends meaning S _ _ _ st.arena st.lower st.inner (heap_items st.held.heap) c.in_default.ensures.stop
    c.loop-top.invariant.0)
