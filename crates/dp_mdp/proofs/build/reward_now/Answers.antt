use Rattle.std.proofs.Common.{◌∙◌, rules}
use Rattle.std.specs.Int.{w128}
use Rattle.std.proofs.lemmas.Int.{to_z-of_z}
use mir.Val.{SFits}
use Rattle.dp_mdp.proofs.RunningSums.{times_fits, times_is}
use Rattle.dp_mdp.proofs.StepParts.{now_is, now_small}
use Rattle.dp_mdp.proofs.build.reward_now.Goals as goal

pub overflow_mul-result : goal.overflow_mul-result
overflow_mul-result g c =
    let fits : SFits w128 c.last_reward.result = search rules in
    let fits-power : SFits w128 c.args.power = c.ranges.power in
    times_fits _ _ _ _ _ (to_z-of_z w128 _ fits ∙ c.last_reward.ensures) (to_z-of_z w128 _ fits-power)
    (now_is _ _ _ _ _ c.requires.sizes _ _ c.requires.action c.requires.state _
    ((c.requires.rewards.values _ c.requires.action).values _ c.requires.state))
    (now_small _ _ _ _ _ c.requires.sizes _ _ c.requires.action c.requires.state)

pub returns : goal.returns
returns g c =
    let fits : SFits w128 c.last_reward.result = search rules in
    let fits-power : SFits w128 c.args.power = c.ranges.power in
    times_is _ _ _ _ _ (to_z-of_z w128 _ fits ∙ c.last_reward.ensures) (to_z-of_z w128 _ fits-power)
    (now_is _ _ _ _ _ c.requires.sizes _ _ c.requires.action c.requires.state _
    ((c.requires.rewards.values _ c.requires.action).values _ c.requires.state))
    (now_small _ _ _ _ _ c.requires.sizes _ _ c.requires.action c.requires.state)
