use Rattle.std.proofs.Common.{◌<◌, inl, inr, sym, subst, ℕ, ◌∙◌, arith}
use Rattle.dp_cluster.specs.OwnWeights.{low_at}
use Rattle.dp_cluster.proofs.RunsOfWeights.{difference_is, first_alike, none_in_proportion, place_few}
use Rattle.dp_cluster.proofs.RunsOfWeights.{proportion_next}
use Rattle.dp_cluster.proofs.front.Front.first_difference.Goals as goal
use Rattle.dp_cluster.proofs.front.Front.first_difference.Goals.{then-t-eq0-via-then-t-eq0}
use Rattle.dp_cluster.proofs.front.Front.first_difference.Goals.{then-t-eq0-via-else-t-eq0+then-u-eq0}

pub returns-then-t-eq0 : goal.returns-then-t-eq0
returns-then-t-eq0 c =
    elim c.then-t-eq0.branch [
      | then-t-eq0-via-then-t-eq0 w ↦
          none_in_proportion c.args.self.now.weights c.args.places.classes c.args.places.width _ c.args.first
          c.args.second
          (inl (sym c.total-t.ensures ∙ w.if-t-eq0.true))
      | then-t-eq0-via-else-t-eq0+then-u-eq0 w ↦
          none_in_proportion c.args.self.now.weights c.args.places.classes c.args.places.width _ c.args.first
          c.args.second
          (inr (sym c.total-u.ensures ∙ w.if-u-eq0.true))
    ]

pub overflow_mul-result : goal.overflow_mul-result
overflow_mul-result c =
    let ps = c.args.places in
    let few = place_few c.args.self.now.weights ps.rows ps.classes ps.width c.requires.runs c.loop-row.row
    c.args.first
    c.loop-row-test.true c.requires.first 0 c.requires.runs.some in
    omega (arith, few)

pub overflow_add-result : goal.overflow_add-result
overflow_add-result c =
    let ps = c.args.places in
    let inside : c.in-Some.at < ps.width = subst (λ (x : ℕ). c.in-Some.at < x)
    c.run-one.ensures.width c.in-Some.ensures.below in
    let few = place_few c.args.self.now.weights ps.rows ps.classes ps.width c.requires.runs c.loop-row.row
    c.args.first
    c.loop-row-test.true c.requires.first c.in-Some.at inside in
    omega (arith, few)

pub returns-in-Some : goal.returns-in-Some
returns-in-Some c =
    let ps = c.args.places in
    difference_is c.args.self.now.weights ps.rows ps.classes ps.width c.loop-row.row c.args.first c.args.second
    c.run-one.result.now c.run-other.result.now c.total-t.result c.total-u.result
    (record {
      runs = c.requires.runs;
      row_in = c.loop-row-test.true;
      first_in = c.requires.first;
      second_in = c.requires.second;
      size = c.run-one.ensures.width;
      first = c.run-one.ensures.are;
      second = c.run-other.ensures.are;
      first_total = c.total-t.ensures;
      second_total = c.total-u.ensures;
    })
    c.loop-row.invariant c.in-Some.at
    (first_alike _ _ _ _ (λ j. c.of-totals.ensures (low_at c.run-one.result.now j) (low_at c.run-other.result.now j))
    c.in-Some.ensures)

pub loop-row-preserved : goal.loop-row-preserved
loop-row-preserved c =
    let ps = c.args.places in
    proportion_next c.args.self.now.weights ps.rows ps.classes ps.width c.loop-row.row c.args.first
    c.args.second
    c.run-one.result.now c.run-other.result.now c.total-t.result c.total-u.result
    (record {
      runs = c.requires.runs;
      row_in = c.loop-row-test.true;
      first_in = c.requires.first;
      second_in = c.requires.second;
      size = c.run-one.ensures.width;
      first = c.run-one.ensures.are;
      second = c.run-other.ensures.are;
      first_total = c.total-t.ensures;
      second_total = c.total-u.ensures;
    })
    c.loop-row.invariant
    (λ j lt. (c.of-totals.ensures (low_at c.run-one.result.now j) (low_at c.run-other.result.now j)).0
    (c.in_default.ensures j lt))
