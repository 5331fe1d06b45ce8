use Rattle.std.proofs.Common.{ℕ, ◌+◌, ◌^◌, ◌<◌, ◌≤◌, ◌++◌, ◌∷◌, [], add-one, drop, get_or, length, map, sym, ap}
use Rattle.std.proofs.Common.{subst, ◌∙◌, arith}
use Rattle.std.proofs.lemmas.List.{length-map, map-append}
use Rattle.dp_spec.specs.PlainForm.{plain_form, plain_rows, plain_rows_of}
use Rattle.dp_spec.specs.PolicyTree.{IsPolicyTree}
use Rattle.dp_spec.specs.SharedPolicy.{SharedPolicy}
use Rattle.dp_policy.specs.SharedRows.{AreKept}
use Rattle.dp_policy.specs.Trees.{joint_policy, tree_of}
use Rattle.dp_policy.specs.TreeValue.{policy_tree}
use Rattle.dp_policy.proofs.JoinedRows.{few_observations}
use Rattle.dp_policy.proofs.JoinedTrees.{few_actions, more_actions, tree_of_agent, trees_alike}
use Rattle.dp_policy.proofs.RowsOfTrees.{plain_agents_step, plain_end, plain_form_kept, plain_form_made}
use Rattle.dp_policy.proofs.RowsOfTrees.{some_observation, stage_limit}
use Rattle.dp_policy.proofs.plain_rows.plain.Goals as goal

pub loop-agent-init : goal.loop-agent-init
loop-agent-init c =
    let m = c.args.model.now.model in
    let qs = joint_policy c.args.policy.now in
    ap (λ l. map (λ s. map (λ r. r.items) s.items) l ++ plain_rows_of m.observations c.horizon-horizon.result
    qs)
    c.new-rows.ensures.items
    ∙ plain_form_made m c.horizon-horizon.result qs

pub observations-observations-requires : goal.observations-observations-requires
observations-observations-requires c =
    let counted = length-map c.args.policy.now.trees policy_tree in
    let alike = c.invariant.ensures.model.sizes.alike in
    let agents = trees_alike c.requires.policy in
    omega (arith, counted, alike, agents, c.agents-agent-end.ensures.is, c.loop-agent-test.true)

pub agent_rows-requires-clause-some : goal.agent_rows-requires-clause-some
agent_rows-requires-clause-some c =
    let counted = length-map c.args.policy.now.trees policy_tree in
    let alike = c.invariant.ensures.model.sizes.alike in
    let agents = trees_alike c.requires.policy in
    rw c.observations-observations.ensures
    (some_observation c.args.model.now.model c.invariant.ensures.model c.loop-agent.agent
    (omega (arith, counted, alike, agents, c.agents-agent-end.ensures.is, c.loop-agent-test.true)))

pub agent_rows-requires-clause-observations : goal.agent_rows-requires-clause-observations
agent_rows-requires-clause-observations c =
    rw c.observations-observations.ensures
    (few_observations c.args.model.now.model c.invariant.ensures.model c.loop-agent.agent)

pub agent_rows-requires-clause-tree : goal.agent_rows-requires-clause-tree
agent_rows-requires-clause-tree c =
    let m = c.args.model.now.model in
    let p = c.args.policy.now in
    let i = c.loop-agent.agent in
    let n = get_or m.observations i 0 in
    let counted = length-map p.trees policy_tree in
    let li : i < length (joint_policy p) =
    omega (arith, counted, c.agents-agent-end.ensures.is, c.loop-agent-test.true) in
    let few = few_actions m c.invariant.ensures.model i in
    let one = more_actions (get_or m.actions i 0) (2 ^ 32) n p.horizon (tree_of (joint_policy p) i)
    (omega (arith, few)) (tree_of_agent c.requires.policy i li) in
    let at = subst (λ (k : ℕ). IsPolicyTree (2 ^ 32) n k (tree_of (joint_policy p) i))
    (sym c.horizon-horizon.ensures.is) one in
    subst (λ (k : ℕ). IsPolicyTree (2 ^ 32) k c.horizon-horizon.result (policy_tree c.tree.result.now))
    (sym c.observations-observations.ensures)
    (subst (IsPolicyTree (2 ^ 32) n c.horizon-horizon.result) (sym c.tree.ensures) at)

pub agent_rows-requires-clause-few : goal.agent_rows-requires-clause-few
agent_rows-requires-clause-few c =
    let m = c.args.model.now.model in
    let p = c.args.policy.now in
    let i = c.loop-agent.agent in
    let counted = length-map p.trees policy_tree in
    let li : i < length (joint_policy p) =
    omega (arith, counted, c.agents-agent-end.ensures.is, c.loop-agent-test.true) in
    λ t lt. subst (λ (k : ℕ). k ^ t ≤ 2 ^ 22) (sym c.observations-observations.ensures)
    (stage_limit m c.invariant.ensures.model p.horizon c.requires.within (joint_policy p)
    c.requires.policy i li t
    (omega (arith, lt, c.horizon-horizon.ensures.is)))

pub loop-agent-preserved : goal.loop-agent-preserved
loop-agent-preserved c =
    let m = c.args.model.now.model in
    let qs = joint_policy c.args.policy.now in
    let h = c.horizon-horizon.result in
    let i = c.loop-agent.agent in
    let counted = length-map c.args.policy.now.trees policy_tree in
    let alike = c.invariant.ensures.model.sizes.alike in
    let agents = trees_alike c.requires.policy in
    let more = ap (map (λ s. map (λ r. r.items) s.items)) c.in_ok-push.ensures.items
    ∙ map-append (λ s. map (λ r. r.items) s.items) c.loop-agent.rows.items (c.in_ok-stages.stages ∷ []) in
    ap (λ (p : SharedPolicy). p ++ plain_rows_of (drop (i + 1) m.observations) h (drop (i + 1) qs)) more
    ∙ rw add-one (plain_agents_step m.observations qs h i _ _ _
    (omega (arith, counted, alike, agents, c.agents-agent-end.ensures.is, c.loop-agent-test.true))
    (omega (arith, counted, c.agents-agent-end.ensures.is, c.loop-agent-test.true)) c.loop-agent.invariant
    (c.in_ok-stages.ensures ∙ (λ j. plain_rows (c.observations-observations.ensures j) h (c.tree.ensures j))))

pub of-requires : goal.of-requires
of-requires c =
    let m = c.args.model.now.model in
    let p = c.args.policy.now in
    let qs = joint_policy p in
    let h = c.horizon-horizon.result in
    let counted = length-map p.trees policy_tree in
    let alike = c.invariant.ensures.model.sizes.alike in
    let agents = trees_alike c.requires.policy in
    let le : length m.observations ≤ c.loop-agent.agent =
    omega (arith, counted, alike, agents, c.agents-agent-end.ensures.is, c.loop-agent-test.false) in
    let is = plain_end m.observations qs h c.loop-agent.agent _ _ le c.loop-agent.invariant in
    let kept = plain_form_kept m c.invariant.ensures.model p.horizon c.requires.within qs c.requires.policy in
    subst (AreKept h) (sym is) (subst (λ (k : ℕ). AreKept k (plain_form m k qs))
    (sym c.horizon-horizon.ensures.is) kept)

pub returns : goal.returns
returns c =
    let m = c.args.model.now.model in
    let p = c.args.policy.now in
    let qs = joint_policy p in
    let h = c.horizon-horizon.result in
    let counted = length-map p.trees policy_tree in
    let alike = c.invariant.ensures.model.sizes.alike in
    let agents = trees_alike c.requires.policy in
    let le : length m.observations ≤ c.loop-agent.agent =
    omega (arith, counted, alike, agents, c.agents-agent-end.ensures.is, c.loop-agent-test.false) in
    let is = plain_end m.observations qs h c.loop-agent.agent _ _ le c.loop-agent.invariant in
    c.of.ensures ∙ (λ j. record {
      horizon =
          c.horizon-horizon.ensures.is j;
      rows = (is ∙ ap (λ (k : ℕ). plain_form m k qs) c.horizon-horizon.ensures.is) j;
    })
