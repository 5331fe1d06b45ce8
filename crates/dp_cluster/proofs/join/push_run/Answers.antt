use Rattle.std.proofs.Common.{◌≡◌, ◌++◌, ◌*◌, ◌+◌, ℕ, IfOk, List, ap, subst, ◌∙◌}
use Rattle.dp_spec.specs.declared.span.Span.{Span}
use Rattle.dp_value.specs.WeightUpdates.{weights_of}
use Rattle.dp_cluster.proofs.JoinedWeights.{run_copied, run_room, run_summed, second_in}
use Rattle.dp_cluster.proofs.join.push_run.Goals as goal

pub run-requires-clause-class : goal.run-requires-clause-class
run-requires-clause-class c =
    second_in c.requires.of_model.0 c.args.front.now c.requires.of_model.1 c.requires.exact c.requires.stage
    c.args.agent
    c.args.first c.args.second c.requires.order c.requires.first c.requires.second c.args.places
    c.requires.places c.args.row
    c.args.class c.requires.row c.requires.class

pub push_sums-requires-clause-room : goal.push_sums-requires-clause-room
push_sums-requires-clause-room c =
    run_room c.requires.of_model.0 c.args.front.now c.requires.of_model.1 c.requires.exact c.requires.stage
    c.args.agent
    c.args.first c.args.second c.requires.order c.requires.first c.requires.second c.args.places
    c.requires.places c.args.row
    c.args.class c.requires.row c.requires.class c.run-kept.result.now c.run.result.now c.run-kept.ensures.width
    (λ j hj. c.run-kept.ensures.spans j hj ∙ ap (λ (x : ℕ). weights_of c.args.front.now.weights
    ((c.args.row * c.args.places.classes + x) * c.args.places.width + j)) c.kept_class.ensures)
    c.run.ensures.spans c.if-class-first.true

pub returns-then-class-first : goal.returns-then-class-first
returns-then-class-first c =
    subst (λ (l : List Span). IfOk c.push_sums.result (λ x. c.push_sums.new.weights.items
    ≡ c.args.weights.now.items ++ l))
    (run_summed c.requires.of_model.0 c.args.front.now c.requires.of_model.1 c.requires.exact c.requires.stage
    c.args.agent
    c.args.first c.args.second c.requires.order c.requires.first c.requires.second c.args.places
    c.requires.places c.args.row
    c.args.class c.requires.row c.requires.class c.run-kept.result.now c.run.result.now c.run-kept.ensures.width
    (λ j hj. c.run-kept.ensures.spans j hj ∙ ap (λ (x : ℕ). weights_of c.args.front.now.weights
    ((c.args.row * c.args.places.classes + x) * c.args.places.width + j)) c.kept_class.ensures)
    c.run.ensures.spans c.if-class-first.true) c.push_sums.ensures

pub returns : goal.returns
returns c =
    c.in_ok-extend_from_slice.ensures.items ∙ ap (λ l. c.args.weights.now.items ++ l)
    (run_copied c.requires.of_model.0 c.args.front.now c.requires.of_model.1 c.requires.exact c.requires.stage
    c.args.agent
    c.args.first c.args.second c.requires.order c.requires.first c.requires.second c.args.places
    c.requires.places c.args.row
    c.args.class c.requires.row c.requires.class c.run-kept.result.now c.run-kept.ensures.width
    (λ j hj. c.run-kept.ensures.spans j hj ∙ ap (λ (x : ℕ). weights_of c.args.front.now.weights
    ((c.args.row * c.args.places.classes + x) * c.args.places.width + j)) c.kept_class.ensures)
    c.if-class-first.false)
