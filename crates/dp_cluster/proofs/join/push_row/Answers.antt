use Rattle.std.proofs.Common.{◌≡◌, ◌*◌, ◌+◌, ◌-◌, ◌++◌, map, ap, ◌∙◌, arith}
use Rattle.std.specs.List.{range_with_len}
use Rattle.dp_cluster.specs.Joins.{merged_at}
use Rattle.dp_cluster.proofs.FrontParts.{unassigned_in}
use Rattle.dp_cluster.proofs.JoinedWeights.{run_next, some_class_left}
use Rattle.dp_cluster.proofs.join.push_row.Goals as goal

pub classes-class-end-requires : goal.classes-class-end-requires
classes-class-end-requires c = (unassigned_in _ _ _ c.requires.first).0

pub overflow_sub-class-end : goal.overflow_sub-class-end
overflow_sub-class-end c =
    let some = some_class_left c.requires.of_model.0 c.args.front.now c.requires.of_model.1 c.requires.exact
    c.requires.stage c.args.agent
    c.args.first c.args.second c.requires.order c.requires.first c.requires.second c.args.places c.requires.places in
    let classes = c.requires.places.classes in
    omega (arith, some, classes, c.classes-class-end.ensures)

pub push_run-requires-clause-class : goal.push_run-requires-clause-class
push_run-requires-clause-class c =
    let classes = c.requires.places.classes in
    omega (arith, classes, c.classes-class-end.ensures, c.loop-class-test.true)

pub loop-class-preserved : goal.loop-class-preserved
loop-class-preserved c =
    run_next (merged_at c.args.front.now c.args.agent c.args.first c.args.second) (c.args.places.classes - 1)
    c.args.places.width c.args.row c.loop-class.class _ _ _ c.loop-class.invariant c.in_ok-push_run.ensures

pub returns : goal.returns
returns c =
    let classes = c.requires.places.classes in
    let all : c.loop-class.class ≡ c.args.places.classes - 1 = omega
    (arith, classes, c.classes-class-end.ensures, c.loop-class-test.false) in
    c.loop-class.invariant ∙ ap (λ n. c.args.weights.now.items ++ map (λ j. merged_at c.args.front.now c.args.agent
    c.args.first c.args.second (c.args.row * ((c.args.places.classes - 1) * c.args.places.width) + j))
    (range_with_len 0 (n * c.args.places.width))) all
