use Rattle.std.proofs.Common.{◌≡◌, ℕ, ◌<◌, ◌^◌, List, [], length, get_or, sym, ap, ◌∙◌, subst, arith}
use Rattle.dp_spec.specs.PolicyTree.{root_action}
use Rattle.dp_spec.specs.SharedPolicy.{row_at, unfolded_tree}
use Rattle.dp_policy.specs.SharedRows.{remaining_after}
use Rattle.dp_policy.proofs.JoinedRows.{rows_alike}
use Rattle.dp_cli.specs.ShownPolicies.{history_of, numbered_text}
use Rattle.dp_cli.proofs.ActorsOfRows.{action_below, history_asked, history_counted, seen_below}
use Rattle.dp_cli.proofs.shown.push_numbered.Goals as goal

pub observations-requires : goal.observations-requires
observations-requires c = omega (arith, c.requires.agent, c.invariant.ensures.model.sizes.alike)

pub write_parts-requires-clause-count : goal.write_parts-requires-clause-count
write_parts-requires-clause-count c =
    c.requires.count ∙ ap (λ n. n ^ length c.args.history.now) (sym c.observations.ensures)

pub action_at-action-requires-clause-agent : goal.action_at-action-requires-clause-agent
action_at-action-requires-clause-agent c = omega (arith, c.requires.agent, rows_alike c.requires.policy.agents)

pub action_at-action-requires-clause-seen : goal.action_at-action-requires-clause-seen
action_at-action-requires-clause-seen c =
    let m = c.args.model.now.model in
    let p = c.args.policy.now in
    let i = c.args.agent in
    let t = length c.args.history.now in
    let inside : i < length p.rows = omega (arith, c.requires.agent, rows_alike c.requires.policy.agents) in
    let written : c.write_parts.new.parts ≡ history_of (get_or m.observations i 0) t c.args.number =
    c.write_parts.ensures ∙ ap (λ n. history_of n t c.args.number) c.observations.ensures in
    subst (λ (seen : List ℕ). (k : ℕ) → k < length seen → get_or seen k 0
    < length (row_at (get_or p.rows i []) 0 0).next) (sym written)
    (history_asked m p.horizon p.rows c.requires.policy i inside t c.args.number c.requires.early
    (omega (arith, c.requires.number, c.requires.count))).seen

pub push_history-requires-clause-agents : goal.push_history-requires-clause-agents
push_history-requires-clause-agents c =
    rw c.names.ensures (λ some. omega (arith, c.requires.agent, c.invariant.ensures.names.agents some))

pub push_history-requires-clause-observations : goal.push_history-requires-clause-observations
push_history-requires-clause-observations c =
    rw c.names.ensures (omega (arith, c.requires.agent, c.invariant.ensures.names.observation_lists))

pub push_history-requires-clause-actions : goal.push_history-requires-clause-actions
push_history-requires-clause-actions c =
    rw c.names.ensures (omega (arith, c.requires.agent, c.invariant.ensures.names.action_lists))

pub push_history-requires-clause-seen : goal.push_history-requires-clause-seen
push_history-requires-clause-seen c =
    let m = c.args.model.now.model in
    let p = c.args.policy.now in
    let i = c.args.agent in
    let t = length c.args.history.now in
    let inside : i < length p.rows = omega (arith, c.requires.agent, rows_alike c.requires.policy.agents) in
    let written : c.write_parts.new.parts ≡ history_of (get_or m.observations i 0) t c.args.number =
    c.write_parts.ensures ∙ ap (λ n. history_of n t c.args.number) c.observations.ensures in
    let counted = history_counted m p.horizon p.rows c.requires.policy i inside t c.args.number in
    rw (c.names.ensures, written) (λ k lt some.
    let named = c.invariant.ensures.names.observations i c.requires.agent some in
    let seen = seen_below m p.horizon p.rows c.requires.policy i inside t c.args.number
    (omega (arith, c.requires.number, c.requires.count)) k (omega (arith, lt, counted)) in
    omega (arith, named, seen))

pub push_history-requires-clause-action : goal.push_history-requires-clause-action
push_history-requires-clause-action c =
    let m = c.args.model.now.model in
    let p = c.args.policy.now in
    let i = c.args.agent in
    let t = length c.args.history.now in
    let inside : i < length p.rows = omega (arith, c.requires.agent, rows_alike c.requires.policy.agents) in
    let written : c.write_parts.new.parts ≡ history_of (get_or m.observations i 0) t c.args.number =
    c.write_parts.ensures ∙ ap (λ n. history_of n t c.args.number) c.observations.ensures in
    let does = c.action_at-action.ensures ∙ ap (λ (seen : List ℕ). root_action (remaining_after
    (unfolded_tree (get_or p.rows i []) 0) seen)) written in
    let below = action_below m p.horizon p.rows c.requires.policy i inside t c.args.number c.requires.early
    (omega (arith, c.requires.number, c.requires.count)) in
    rw c.names.ensures (λ some. let named = c.invariant.ensures.names.actions i c.requires.agent some in
    omega (arith, named, does, below))

pub returns : goal.returns
unfolding numbered_text
returns c =
    let m = c.args.model.now.model in
    let p = c.args.policy.now in
    let i = c.args.agent in
    let t = length c.args.history.now in
    let written : c.write_parts.new.parts ≡ history_of (get_or m.observations i 0) t c.args.number =
    c.write_parts.ensures ∙ ap (λ n. history_of n t c.args.number) c.observations.ensures in
    rw (c.names.ensures, c.action_at-action.ensures, written) at c.push_history.ensures
