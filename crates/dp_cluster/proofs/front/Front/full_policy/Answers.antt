use Rattle.std.proofs.Common.{◌<◌, ◌≤◌, [], ◌∷◌, ◌++◌, get_or, length, map, add-one, sym, ap, subst, ◌∙◌, arith}
use Rattle.dp_spec.specs.FullPolicy.{full_policy, tree_doing, trees_doing_fixed}
use Rattle.dp_spec.specs.Keeping.{KeepsFront}
use Rattle.dp_spec.specs.PolicyTree.{IsPolicyOf}
use Rattle.dp_spec.specs.Value.{policy_value}
use Rattle.dp_spec.specs.Arithmetic.{point}
use Rattle.std.proofs.lemmas.List.{map-append}
use Rattle.dp_laws.proofs.AdvancedFronts.{as_many_agents}
use Rattle.dp_policy.specs.TreeValue.{policy_tree}
use Rattle.dp_policy.specs.Trees.{joint_policy}
use Rattle.dp_cluster.proofs.FrontParts.{as_many_counts}
use Rattle.dp_cluster.proofs.FullFronts.{alone, full_policy_is, keeps, of_model, some_where, trees_end, trees_next}
use Rattle.dp_cluster.proofs.FullFronts.{value, value_where}
use Rattle.dp_cluster.proofs.PastTrees.{doing_end, doing_step, fixed_stages}
use Rattle.dp_cluster.proofs.front.Front.full_policy.Goals as goal

pub loop-agent-init : goal.loop-agent-init
loop-agent-init c =
    let m = c.args.m.now.model in
    let F = c.args.self.now.front in
    ap (λ l. map policy_tree l ++ trees_doing_fixed F.stage m.observations F.agents) c.new-trees.ensures.items
    ∙ full_policy_is m F

pub tree-requires : goal.tree-requires
tree-requires c =
    let k = c.args.self.now in
    let lt : c.loop-agent.agent < length k.front.agents = omega
    (arith, c.agents-agent-end.ensures, c.loop-agent-test.true) in
    let stage = fixed_stages c.requires.of_model.front.agents c.loop-agent.agent c.part.result.now.front lt
    (c.part.ensures.front _) in
    omega (arith, stage, c.requires.full, c.requires.of_model.some_step)

pub loop-agent-preserved : goal.loop-agent-preserved
loop-agent-preserved c =
    let k = c.args.self.now in
    let m = c.args.m.now.model in
    let i = c.loop-agent.agent in
    let lt : i < length k.front.agents = omega (arith, c.agents-agent-end.ensures, c.loop-agent-test.true) in
    let alike = as_many_agents c.requires.of_model.front.agents in
    let counted = as_many_counts k.front.agents in
    let lt_seen : i < length m.observations = omega arith in
    let stage = fixed_stages c.requires.of_model.front.agents i c.part.result.now.front lt
    (c.part.ensures.front _) in
    let seen = ap (λ l. get_or l i 0) (sym c.requires.of_model.observations) ∙ c.part.ensures.observations in
    let step = doing_step k.front.stage m.observations k.front.agents i c.part.result.now.observations
    c.part.result.now.front
    lt_seen lt seen (c.part.ensures.front _) in
    let tree = c.in_ok-tree.ensures
    ∙ ap (tree_doing c.part.result.now.observations (λ t x. get_or (get_or c.part.result.now.front.fixed t [])
    x 0)) stage in
    let pushed = ap (map policy_tree) c.in_ok-push.ensures.items
    ∙ map-append policy_tree c.loop-agent.trees.items _
    ∙ ap (λ q. map policy_tree c.loop-agent.trees.items ++ q ∷ []) tree in
    rw add-one (trees_next (map policy_tree c.loop-agent.trees.items) (map policy_tree c.push.new.self.items)
    _ _ _ _ pushed step
    c.loop-agent.invariant)

pub unwrap-requires : goal.unwrap-requires
unwrap-requires c =
    let k = c.args.self.now in
    let m = c.args.m.now.model in
    let le : length k.front.agents ≤ c.loop-agent.agent = omega
    (arith, c.agents-agent-end.ensures, c.loop-agent-test.false) in
    let made = trees_end (map policy_tree c.loop-agent.trees.items) _ (full_policy m k.front)
    (doing_end k.front.stage m.observations k.front.agents c.loop-agent.agent le) c.loop-agent.invariant in
    let policy = subst (λ qs. IsPolicyOf m c.horizon.result qs) (sym made)
    (subst (λ h. IsPolicyOf m h (full_policy m k.front)) (sym c.horizon.ensures)
    (of_model m k c.requires.of_model c.requires.full)) in
    some_where c.join.result _ _ c.join.ensures policy

pub returns-clause-policy : goal.returns-clause-policy
returns-clause-policy c =
    let k = c.args.self.now in
    let m = c.args.m.now.model in
    let le : length k.front.agents ≤ c.loop-agent.agent = omega
    (arith, c.agents-agent-end.ensures, c.loop-agent-test.false) in
    let made = trees_end (map policy_tree c.loop-agent.trees.items) _ (full_policy m k.front)
    (doing_end k.front.stage m.observations k.front.agents c.loop-agent.agent le) c.loop-agent.invariant in
    let answer = ap joint_policy (value_where c.join.result _ _ c.unwrap.result c.join.ensures c.unwrap.ensures)
    ∙ made in
    answer

pub returns-clause-of_model : goal.returns-clause-of_model
returns-clause-of_model c =
    let k = c.args.self.now in
    let m = c.args.m.now.model in
    let le : length k.front.agents ≤ c.loop-agent.agent = omega
    (arith, c.agents-agent-end.ensures, c.loop-agent-test.false) in
    let made = trees_end (map policy_tree c.loop-agent.trees.items) _ (full_policy m k.front)
    (doing_end k.front.stage m.observations k.front.agents c.loop-agent.agent le) c.loop-agent.invariant in
    let answer = ap joint_policy (value_where c.join.result _ _ c.unwrap.result c.join.ensures c.unwrap.ensures)
    ∙ made in
    subst (IsPolicyOf m k.horizon) (sym answer) (of_model m k c.requires.of_model c.requires.full)

pub returns-clause-keeps : goal.returns-clause-keeps
returns-clause-keeps c =
    let k = c.args.self.now in
    let m = c.args.m.now.model in
    let le : length k.front.agents ≤ c.loop-agent.agent = omega
    (arith, c.agents-agent-end.ensures, c.loop-agent-test.false) in
    let made = trees_end (map policy_tree c.loop-agent.trees.items) _ (full_policy m k.front)
    (doing_end k.front.stage m.observations k.front.agents c.loop-agent.agent le) c.loop-agent.invariant in
    let answer = ap joint_policy (value_where c.join.result _ _ c.unwrap.result c.join.ensures c.unwrap.ensures)
    ∙ made in
    subst (KeepsFront m k.front) (sym answer) (keeps m k c.requires.of_model c.requires.full)

pub returns-clause-alone : goal.returns-clause-alone
returns-clause-alone c = λ qs policy kept.
    let k = c.args.self.now in
    let m = c.args.m.now.model in
    let le : length k.front.agents ≤ c.loop-agent.agent = omega
    (arith, c.agents-agent-end.ensures, c.loop-agent-test.false) in
    let made = trees_end (map policy_tree c.loop-agent.trees.items) _ (full_policy m k.front)
    (doing_end k.front.stage m.observations k.front.agents c.loop-agent.agent le) c.loop-agent.invariant in
    let answer = ap joint_policy (value_where c.join.result _ _ c.unwrap.result c.join.ensures c.unwrap.ensures)
    ∙ made in
    alone m k c.requires.of_model c.requires.full qs policy kept ∙ sym answer

pub returns-clause-value : goal.returns-clause-value
returns-clause-value c = λ exact.
    let k = c.args.self.now in
    let m = c.args.m.now.model in
    let le : length k.front.agents ≤ c.loop-agent.agent = omega
    (arith, c.agents-agent-end.ensures, c.loop-agent-test.false) in
    let made = trees_end (map policy_tree c.loop-agent.trees.items) _ (full_policy m k.front)
    (doing_end k.front.stage m.observations k.front.agents c.loop-agent.agent le) c.loop-agent.invariant in
    let answer = ap joint_policy (value_where c.join.result _ _ c.unwrap.result c.join.ensures c.unwrap.ensures)
    ∙ made in
    value m k c.requires.of_model c.requires.full exact ∙ ap (λ qs. point (policy_value m k.horizon qs))
    (sym answer)
