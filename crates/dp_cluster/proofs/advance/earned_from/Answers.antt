use Rattle.std.proofs.Common.{◌<◌, ℕ, ap, subst, sym, ◌∙◌}
use Rattle.dp_spec.specs.Model.{joint_actions}
use Rattle.dp_spec.specs.Quantities.{weighted_reward_in}
use Rattle.dp_value.specs.WeightUpdates.{weights_of}
use Rattle.dp_cluster.proofs.Advances.{act_below, rewardable, rewarded_is}
use Rattle.dp_cluster.proofs.Weightless.{led_some, nothing_earned, led_none}
use Rattle.dp_cluster.proofs.advance.earned_from.Goals as goal

pub weighted_reward-requires-clause-sizes : goal.weighted_reward-requires-clause-sizes
weighted_reward-requires-clause-sizes g c =
    rewardable (g.A.Arith.operations c.args.arith.now) (g.A.Arith.calls c.args.arith.now) c.args.m.now.model
    c.args.front.now c.requires.sizes c.args.class c.requires.class (weights_of c.class_weights.result.now)
    c.class_weights.ensures.are c.args.rest c.requires.rest

pub weighted_reward-requires-clause-action : goal.weighted_reward-requires-clause-action
weighted_reward-requires-clause-action g c =
    let m = c.args.m.now.model in
    subst (λ (a : ℕ). a < joint_actions m)
    (sym (led_some m c.args.front.now c.args.class _ _ c.in-Some.is c.requires.action))
    (act_below (g.A.Arith.operations c.args.arith.now) (g.A.Arith.calls c.args.arith.now) m c.args.front.now
    c.requires.sizes c.args.class c.requires.class)

pub returns-in-None : goal.returns-in-None
returns-in-None g c =
    nothing_earned (g.A.Arith.operations c.args.arith.now) (g.A.Arith.calls c.args.arith.now) c.args.m.now.model
    c.args.front.now c.requires.sizes c.args.class c.requires.class
    (led_none c.args.m.now.model c.args.front.now c.args.class _ c.in-None.is c.requires.action) c.args.rest

pub returns-in-Some : goal.returns-in-Some
returns-in-Some g c =
    let A = g.A.Arith.operations c.args.arith.now in
    let m = c.args.m.now.model in
    c.weighted_reward.ensures ∙ ap (λ (a : ℕ). weighted_reward_in A m c.args.rest
    (weights_of c.class_weights.result.now) a)
    (led_some m c.args.front.now c.args.class _ _ c.in-Some.is c.requires.action)
    ∙ rewarded_is A (g.A.Arith.calls c.args.arith.now) m c.args.front.now c.requires.sizes c.args.class
    c.requires.class (weights_of c.class_weights.result.now) c.class_weights.ensures.are c.args.rest
