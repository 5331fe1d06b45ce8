use Rattle.std.proofs.Common.{◌≡◌, ℕ, ℤ, ◌∷◌, [], refl, sym, ap, subst, ◌∙◌, arith, rules, to_z, of_z, ◌≤ℤ◌, ◌+◌, ◌*◌}
use Rattle.std.proofs.Common.{map}
use Rattle.std.specs.Int.{w128}
use Rattle.std.specs.BinaryHeap.{heap_items}
use Rattle.std.proofs.lemmas.Int.{to_z-of_z, ints}
use Rattle.dp_spec.specs.Searched.{IsSearched}
use Rattle.dp_spec.specs.declared.node.NodeKind.TheVariants.{Leaf}
use Rattle.dp_spec.specs.SearchState.{OpenLeaf}
use Rattle.dp_tree.specs.Nodes.{Nodes}
use Rattle.dp_tree.specs.TreeValue.{bound_tree}
use Rattle.dp_search.specs.SearchStates.{open_leaf}
use Rattle.dp_search.proofs.Steps.{searched_of}
use Rattle.dp_search.proofs.GrownLeaves.{start_runs}
use Rattle.dp_search.proofs.search.search_best_first.Goals as goal

pub grow_all-requires-clause-runs : goal.grow_all-requires-clause-runs
grow_all-requires-clause-runs g c =
    let meaning = g.X.Planner.meaning c.args.planner.now in
    let S = g.X.Planner.space c.args.planner.now in
    let width = g.X.Planner.width c.args.planner.now in
    let constants = g.X.Planner.constants c.args.planner.now in
    let root = c.in_ok-root.root in
    let bound : ℤ = to_z w128 (of_z w128 c.copied-bound.result) in
    let bound_is : bound ≡ S.bound S.root =
    to_z-of_z w128 c.copied-bound.result (search (rules, c.copied-bound.type_inv)) ∙ c.copied-bound.ensures
    ∙ c.in_ok-root.ensures.bound in
    let lower : ℤ = to_z w128 (of_z w128 c.in_ok-lower.lower) in
    let lower_is : lower ≡ constants =
    to_z-of_z w128 c.in_ok-lower.lower (search (rules, c.low_worth.type_inv, c.in_ok-lower.is))
    ∙ c.in_ok-lower.ensures ∙ c.in_ok-policy.ensures.worth in
    let one_leaf : ℕ → Nodes = λ n.
    record { nodes = record { above = 0; kind = Leaf bound } ∷ []; most = 1 + c.args.budget * n } in
    let made : c.in_ok-new.field-0 ≡ one_leaf width = c.in_ok-new.ensures.leaf
    ∙ ap one_leaf c.most_children.ensures in
    let none = ap (map (open_leaf meaning)) c.new-2.ensures.none in
    let leaf : OpenLeaf = record { node = 0; above = 0; bound = bound; front = meaning root.front } in
    let least : constants ≤ℤ lower = subst (λ (z : ℤ). z ≤ℤ lower) lower_is (omega (arith, ints)) in
    c.in_ok-hold.ensures.runs c.args.budget []
    (start_runs S constants width c.args.budget c.in_ok-new.field-0 lower
    (map (open_leaf meaning) (heap_items c.new-2.result.heap)) leaf made none refl refl bound_is
    c.in_ok-root.ensures.front least)

pub returns-clause-searched : goal.returns-clause-searched
returns-clause-searched g c =
    let S = g.X.Planner.space c.args.planner.now in
    let constants = g.X.Planner.constants c.args.planner.now in
    let width = g.X.Planner.width c.args.planner.now in
    let st = c.grow_all.new.state in
    let same = to_z-of_z w128 c.copied-lower.result (search (rules, c.copied-lower.type_inv))
    ∙ c.copied-lower.ensures in
    let tree = bound_tree c.in_ok-finish.field-0 in
    subst (λ (z : ℤ). IsSearched S c.args.budget constants z st.inner tree) (sym same)
    (searched_of S constants width c.args.budget st.arena st.inner st.lower tree
    c.in_ok-grow_all.ensures.finished
    c.in_ok-finish.ensures.tree c.in_ok-finish.ensures.counted)
