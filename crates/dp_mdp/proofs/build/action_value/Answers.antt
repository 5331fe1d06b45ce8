use Rattle.std.proofs.Common.{◌∙◌, rules}
use Rattle.std.specs.Int.{w128}
use Rattle.std.proofs.lemmas.Int.{to_z-of_z}
use mir.Val.{SFits}
use Rattle.dp_mdp.proofs.RunningSums.{plus_fits, plus_is}
use Rattle.dp_mdp.proofs.StepParts.{value_small}
use Rattle.dp_mdp.proofs.build.action_value.Goals as goal

pub overflow_add-result : goal.overflow_add-result
overflow_add-result g c =
    let fits : SFits w128 c.reward_now-now.result = search rules in
    let fits-later : SFits w128 c.later_value.result = search rules in
    plus_fits _ _ _ _ (to_z-of_z w128 _ fits ∙ c.reward_now-now.ensures)
    (to_z-of_z w128 _ fits-later ∙ c.later_value.ensures)
    (value_small _ _ _ _ _ c.requires.sizes _ _ c.requires.action c.requires.state)

pub returns : goal.returns
returns g c =
    let fits : SFits w128 c.reward_now-now.result = search rules in
    let fits-later : SFits w128 c.later_value.result = search rules in
    plus_is _ _ _ _ (to_z-of_z w128 _ fits ∙ c.reward_now-now.ensures)
    (to_z-of_z w128 _ fits-later ∙ c.later_value.ensures)
    (value_small _ _ _ _ _ c.requires.sizes _ _ c.requires.action c.requires.state)
