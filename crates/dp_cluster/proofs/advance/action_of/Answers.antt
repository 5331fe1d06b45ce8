use Rattle.std.proofs.Common.{◌<◌, ◌≤◌, ℕ, length, refl, ap, subst, ◌∙◌, arith}
use Rattle.std.specs.Prelude.{unwrap_or}
use Rattle.dp_spec.specs.JointNumbers.{product}
use Rattle.dp_spec.specs.ClassSteps.{chosen_joint_action}
use Rattle.dp_cluster.proofs.ChosenActions.{action_room, agents_of, choosing_end, choosing_next, choosing_start}
use Rattle.dp_cluster.proofs.ChosenActions.{chosen_below, chosen_is, own_in, some, some_after}
use Rattle.dp_cluster.proofs.Pairs.{actions_product}
use Rattle.dp_cluster.proofs.advance.action_of.Goals as goal

pub loop-agent-init : goal.loop-agent-init
loop-agent-init c =
    choosing_start c.args.m.now.model.actions c.args.front.now.front.agents c.joint_classes-left.result
    c.args.class _ c.joint_classes-left.ensures.is c.joint_classes-left.ensures.limit c.requires.class
    (chosen_is c.args.m.now.model c.args.front.now.front c.args.class)

pub nonzero_div-left : goal.nonzero_div-left
nonzero_div-left c =
    let bs = c.args.m.now.model.actions in
    let ds = c.args.front.now.front.agents in
    let F = c.args.front.now.front in
    let J = chosen_joint_action c.args.m.now.model F c.args.class in
    let agents = agents_of c.requires.front.agents in
    let product_is = actions_product c.args.m.now.model in
    let J_in : J < product bs = subst (λ (z : ℕ). J < z) product_is
    (chosen_below c.args.m.now.model c.args.front.now.horizon F c.invariant.ensures.model c.requires.front
    c.args.class c.requires.class) in
    let some_actions : 0 < product bs = omega arith in
    let lt : c.loop-agent.agent < length ds = omega (
      arith,
      c.agents-agent-end.ensures,
      c.loop-agent-test.true,
    ) in
    let lt' : c.loop-agent.agent < length bs = omega arith in
    some bs ds c.loop-agent.agent c.loop-agent.left c.loop-agent.rest c.loop-agent.action J c.classes.result
    _ lt
    lt' c.classes.ensures refl some_actions J_in c.loop-agent.invariant

pub nonzero_div-own : goal.nonzero_div-own
nonzero_div-own c =
    let bs = c.args.m.now.model.actions in
    let ds = c.args.front.now.front.agents in
    let F = c.args.front.now.front in
    let J = chosen_joint_action c.args.m.now.model F c.args.class in
    let agents = agents_of c.requires.front.agents in
    let product_is = actions_product c.args.m.now.model in
    let J_in : J < product bs = subst (λ (z : ℕ). J < z) product_is
    (chosen_below c.args.m.now.model c.args.front.now.horizon F c.invariant.ensures.model c.requires.front
    c.args.class c.requires.class) in
    let some_actions : 0 < product bs = omega arith in
    let lt : c.loop-agent.agent < length ds = omega (
      arith,
      c.agents-agent-end.ensures,
      c.loop-agent-test.true,
    ) in
    let lt' : c.loop-agent.agent < length bs = omega arith in
    some_after bs ds c.loop-agent.agent c.loop-agent.left c.loop-agent.rest c.loop-agent.action J
    c.classes.result
    _ lt lt' c.classes.ensures refl some_actions J_in c.loop-agent.invariant

pub nonzero_rem-rest : goal.nonzero_rem-rest
nonzero_rem-rest c =
    let bs = c.args.m.now.model.actions in
    let ds = c.args.front.now.front.agents in
    let F = c.args.front.now.front in
    let J = chosen_joint_action c.args.m.now.model F c.args.class in
    let agents = agents_of c.requires.front.agents in
    let product_is = actions_product c.args.m.now.model in
    let J_in : J < product bs = subst (λ (z : ℕ). J < z) product_is
    (chosen_below c.args.m.now.model c.args.front.now.horizon F c.invariant.ensures.model c.requires.front
    c.args.class c.requires.class) in
    let some_actions : 0 < product bs = omega arith in
    let lt : c.loop-agent.agent < length ds = omega (
      arith,
      c.agents-agent-end.ensures,
      c.loop-agent-test.true,
    ) in
    let lt' : c.loop-agent.agent < length bs = omega arith in
    some_after bs ds c.loop-agent.agent c.loop-agent.left c.loop-agent.rest c.loop-agent.action J
    c.classes.result
    _ lt lt' c.classes.ensures refl some_actions J_in c.loop-agent.invariant

pub actions-requires : goal.actions-requires
actions-requires c =
    let bs = c.args.m.now.model.actions in
    let ds = c.args.front.now.front.agents in
    let F = c.args.front.now.front in
    let J = chosen_joint_action c.args.m.now.model F c.args.class in
    let agents = agents_of c.requires.front.agents in
    let product_is = actions_product c.args.m.now.model in
    let J_in : J < product bs = subst (λ (z : ℕ). J < z) product_is
    (chosen_below c.args.m.now.model c.args.front.now.horizon F c.invariant.ensures.model c.requires.front
    c.args.class c.requires.class) in
    let some_actions : 0 < product bs = omega arith in
    let lt : c.loop-agent.agent < length ds = omega (
      arith,
      c.agents-agent-end.ensures,
      c.loop-agent-test.true,
    ) in
    let lt' : c.loop-agent.agent < length bs = omega arith in
    lt'

pub action-requires-clause-class : goal.action-requires-clause-class
action-requires-clause-class c =
    let bs = c.args.m.now.model.actions in
    let ds = c.args.front.now.front.agents in
    let F = c.args.front.now.front in
    let J = chosen_joint_action c.args.m.now.model F c.args.class in
    let agents = agents_of c.requires.front.agents in
    let product_is = actions_product c.args.m.now.model in
    let J_in : J < product bs = subst (λ (z : ℕ). J < z) product_is
    (chosen_below c.args.m.now.model c.args.front.now.horizon F c.invariant.ensures.model c.requires.front
    c.args.class c.requires.class) in
    let some_actions : 0 < product bs = omega arith in
    let lt : c.loop-agent.agent < length ds = omega (
      arith,
      c.agents-agent-end.ensures,
      c.loop-agent-test.true,
    ) in
    let lt' : c.loop-agent.agent < length bs = omega arith in
    own_in bs ds c.loop-agent.agent c.loop-agent.left c.loop-agent.rest c.loop-agent.action J
    c.classes.result _ lt
    lt' c.classes.ensures refl some_actions J_in c.loop-agent.invariant

pub overflow_mul-action : goal.overflow_mul-action
overflow_mul-action c =
    let bs = c.args.m.now.model.actions in
    let ds = c.args.front.now.front.agents in
    let F = c.args.front.now.front in
    let J = chosen_joint_action c.args.m.now.model F c.args.class in
    let agents = agents_of c.requires.front.agents in
    let product_is = actions_product c.args.m.now.model in
    let J_in : J < product bs = subst (λ (z : ℕ). J < z) product_is
    (chosen_below c.args.m.now.model c.args.front.now.horizon F c.invariant.ensures.model c.requires.front
    c.args.class c.requires.class) in
    let some_actions : 0 < product bs = omega arith in
    let lt : c.loop-agent.agent < length ds = omega (
      arith,
      c.agents-agent-end.ensures,
      c.loop-agent-test.true,
    ) in
    let lt' : c.loop-agent.agent < length bs = omega arith in
    let few : product bs ≤ 256 = omega
    (arith, product_is, c.invariant.ensures.model.sizes.joint_actions_limit) in
    let room = action_room bs ds c.loop-agent.agent c.loop-agent.left c.loop-agent.rest c.loop-agent.action J
    c.classes.result c.actions.result lt lt' c.classes.ensures c.actions.ensures some_actions J_in
    c.loop-agent.invariant _ refl in omega arith

pub overflow_add-action : goal.overflow_add-action
overflow_add-action c =
    let bs = c.args.m.now.model.actions in
    let ds = c.args.front.now.front.agents in
    let F = c.args.front.now.front in
    let J = chosen_joint_action c.args.m.now.model F c.args.class in
    let agents = agents_of c.requires.front.agents in
    let product_is = actions_product c.args.m.now.model in
    let J_in : J < product bs = subst (λ (z : ℕ). J < z) product_is
    (chosen_below c.args.m.now.model c.args.front.now.horizon F c.invariant.ensures.model c.requires.front
    c.args.class c.requires.class) in
    let some_actions : 0 < product bs = omega arith in
    let lt : c.loop-agent.agent < length ds = omega (
      arith,
      c.agents-agent-end.ensures,
      c.loop-agent-test.true,
    ) in
    let lt' : c.loop-agent.agent < length bs = omega arith in
    let few : product bs ≤ 256 = omega
    (arith, product_is, c.invariant.ensures.model.sizes.joint_actions_limit) in
    let room = action_room bs ds c.loop-agent.agent c.loop-agent.left c.loop-agent.rest c.loop-agent.action J
    c.classes.result c.actions.result lt lt' c.classes.ensures c.actions.ensures some_actions J_in
    c.loop-agent.invariant c.unwrap_or.result (c.unwrap_or.ensures
    ∙ ap (λ o. unwrap_or o 0) c.action.ensures) in omega arith

pub loop-agent-preserved : goal.loop-agent-preserved
loop-agent-preserved c =
    let bs = c.args.m.now.model.actions in
    let ds = c.args.front.now.front.agents in
    let F = c.args.front.now.front in
    let J = chosen_joint_action c.args.m.now.model F c.args.class in
    let agents = agents_of c.requires.front.agents in
    let product_is = actions_product c.args.m.now.model in
    let J_in : J < product bs = subst (λ (z : ℕ). J < z) product_is
    (chosen_below c.args.m.now.model c.args.front.now.horizon F c.invariant.ensures.model c.requires.front
    c.args.class c.requires.class) in
    let some_actions : 0 < product bs = omega arith in
    let lt : c.loop-agent.agent < length ds = omega (
      arith,
      c.agents-agent-end.ensures,
      c.loop-agent-test.true,
    ) in
    let lt' : c.loop-agent.agent < length bs = omega arith in
    choosing_next bs ds c.loop-agent.agent c.loop-agent.left c.loop-agent.rest c.loop-agent.action J
    c.classes.result c.actions.result lt lt' c.classes.ensures c.actions.ensures some_actions J_in
    c.loop-agent.invariant c.unwrap_or.result (c.unwrap_or.ensures ∙ ap (λ o. unwrap_or o 0) c.action.ensures)

pub returns-clause-is : goal.returns-clause-is
returns-clause-is c =
    let agents = agents_of c.requires.front.agents in
    let le : length c.args.m.now.model.actions ≤ c.loop-agent.agent = omega
    (arith, agents, c.agents-agent-end.ensures, c.loop-agent-test.false) in
    choosing_end c.args.m.now.model.actions c.args.front.now.front.agents c.loop-agent.agent c.loop-agent.left
    c.loop-agent.rest c.loop-agent.action _ le c.loop-agent.invariant

pub returns-clause-action : goal.returns-clause-action
returns-clause-action c =
    let agents = agents_of c.requires.front.agents in
    let le : length c.args.m.now.model.actions ≤ c.loop-agent.agent = omega
    (arith, agents, c.agents-agent-end.ensures, c.loop-agent-test.false) in
    let is = choosing_end c.args.m.now.model.actions c.args.front.now.front.agents c.loop-agent.agent
    c.loop-agent.left c.loop-agent.rest c.loop-agent.action _ le c.loop-agent.invariant in
    rw is (chosen_below c.args.m.now.model c.args.front.now.horizon c.args.front.now.front
    c.invariant.ensures.model c.requires.front c.args.class c.requires.class)
