use Rattle.std.proofs.Common.{◌++◌, ◌-◌, map, ap, ◌∙◌}
use Rattle.dp_spec.specs.Arithmetic.{arithmetic}
use Rattle.dp_spec.specs.Model.{joint_actions}
use Rattle.dp_spec.specs.Quantities.{action_look_ahead_in}
use Rattle.std.specs.List.{range_with_len}
use Rattle.dp_pomdp.specs.Looking.{weights_of}
use Rattle.dp_game.proofs.LookAheadRows.{one_each, row_is, row_weights}
use Rattle.dp_game.proofs.table.push_class.Goals as goal

pub push_row-requires-clause-one_each : goal.push_row-requires-clause-one_each
push_row-requires-clause-one_each c =
    let weights = c.class_weights-weights in
    one_each c.args.model.now.model c.args.front.now c.args.bounder.now c.requires.of_model c.requires.bounder
    c.requires.horizon c.requires.stage c.requires.cells c.args.joint c.requires.joint weights.result.now
    weights.ensures.one_each weights.ensures.are

pub push_row-requires-clause-weights : goal.push_row-requires-clause-weights
push_row-requires-clause-weights c =
    let weights = c.class_weights-weights in
    rw c.stage.ensures (row_weights c.args.model.now.model c.args.front.now c.args.bounder.now
    c.requires.of_model c.requires.bounder c.requires.horizon c.requires.stage c.requires.cells c.args.joint
    c.requires.joint weights.result.now weights.ensures.one_each weights.ensures.are)

pub returns-clause-row : goal.returns-clause-row
returns-clause-row c =
    let m = c.args.model.now.model in
    let b = c.args.bounder.now in
    let weights = c.class_weights-weights in
    let row = row_is m c.args.front.now b c.requires.of_model c.requires.bounder c.requires.horizon
    c.requires.stage c.requires.cells c.args.joint c.requires.joint weights.result.now weights.ensures.one_each
    weights.ensures.are in
    c.in_ok-push_row.ensures.row
    ∙ ap (λ f. c.args.table.now.items ++ map (λ a. action_look_ahead_in (arithmetic b.is_exact m.scales) m
    (b.horizon - f - 1) (weights_of weights.result.now) a b.look) (range_with_len 0 (joint_actions m)))
    c.stage.ensures
    ∙ ap (λ l. c.args.table.now.items ++ l) row
