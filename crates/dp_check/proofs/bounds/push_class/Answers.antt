use Rattle.std.proofs.Common.{◌-◌, ◌++◌, ℕ, ℤ, List, pos, map, sym, ap, subst, ◌∙◌}
use Rattle.std.specs.List.{range_with_len}
use Rattle.dp_spec.specs.Model.{joint_actions}
use Rattle.dp_spec.specs.Quantities.{action_look_ahead_in}
use Rattle.dp_spec.specs.Sizes.{AreWeights}
use Rattle.dp_value.specs.WeightUpdates.{weights_of}
use Rattle.dp_cluster.proofs.OwnParts.{same_map}
use Rattle.dp_check.specs.Bounding.{arithmetic_of}
use Rattle.dp_check.proofs.FrontBounds.{class_weights_are, look_is}
use Rattle.dp_check.proofs.bounds.push_class.Goals as goal

pub push_row-requires-clause-weights : goal.push_row-requires-clause-weights
push_row-requires-clause-weights c =
    subst (λ t. AreWeights c.args.bounds.now.fit.exact c.args.m.now.model t
    (weights_of c.class_weights-weights.result.now)) (sym c.stage-stage.ensures)
    (class_weights_are c.args.m.now.model c.args.bounds.now c.requires.bounds c.args.front.now c.requires.front
    c.requires.stage c.args.class c.class_weights-weights.result.now c.requires.class
    c.class_weights-weights.ensures.are)

pub returns-clause-row : goal.returns-clause-row
returns-clause-row c =
    let m = c.args.m.now.model in
    let b = c.args.bounds.now in
    let ws = c.class_weights-weights.result.now in
    c.in_ok-push_row.ensures.is
    ∙ ap (λ (t : ℕ). c.args.all.now.items ++ map (λ a. action_look_ahead_in (arithmetic_of m b) m
    (b.fit.horizon - t - 1) (weights_of ws) a b.look) (range_with_len 0 (joint_actions m))) c.stage-stage.ensures
    ∙ ap (λ (l : List ℤ). c.args.all.now.items ++ l) (same_map (joint_actions m) (pos 0) _ _ (λ a p.
    look_is m b c.requires.bounds c.args.front.now c.requires.front c.requires.stage c.args.class a ws
    c.requires.class c.class_weights-weights.ensures.are))
