use Rattle.std.proofs.Common.{◌≡◌, ◌∙◌, arith, rules}
use Rattle.std.specs.Int.{w128}
use Rattle.std.proofs.lemmas.Int.{to_z-of_z}
use mir.Val.{SFits}
use Rattle.dp_spec.specs.Model.{joint_actions}
use Rattle.dp_mdp.specs.Building.{action_value}
use Rattle.dp_mdp.proofs.RunningSums.{next_greatest}
use Rattle.dp_mdp.proofs.StepParts.{greatest_is_table}
use Rattle.dp_mdp.proofs.build.best_value.Goals as goal

pub loop-action-init : goal.loop-action-init
loop-action-init g c =
    let fits : SFits w128 c.action_value-best.result = search rules in
    to_z-of_z w128 _ fits ∙ c.action_value-best.ensures

pub loop-action-preserved : goal.loop-action-preserved
loop-action-preserved g c =
    let fits : SFits w128 c.action_value-value.result = search rules in
    let fits-max : SFits w128 c.max-best.result = search rules in
    next_greatest c.loop-action.action (action_value (g.A.Arith.operations c.args.arith.now)
    c.args.model.now.model c.args.rest c.args.state) _ _ _ (omega arith)
    (to_z-of_z w128 _ fits-max ∙ c.max-best.ensures.value)
    (to_z-of_z w128 _ fits ∙ c.action_value-value.ensures) c.loop-action.invariant

pub returns : goal.returns
returns g c =
    let all : c.loop-action.action ≡ joint_actions c.args.model.now.model = let some =
    c.invariant.ensures.model.sizes.some_action in omega arith in
    greatest_is_table (g.A.Arith.operations c.args.arith.now)
    c.args.model.now.model c.args.rest c.args.state c.loop-action.action _ all c.loop-action.invariant
