use Rattle.std.proofs.Common.{ℕ, ◌+◌, ◌≤◌, ◌++◌, ◌∷◌, [], add-one, drop, get_or, length, map, sym, ap, subst, ◌∙◌}
use Rattle.std.proofs.Common.{arith}
use Rattle.std.proofs.lemmas.List.{map-append}
use Rattle.dp_spec.specs.SharedForm.{shared_form, shared_rows, shared_rows_of}
use Rattle.dp_spec.specs.SharedPolicy.{SharedPolicy, unfolded, unfolded_tree}
use Rattle.dp_policy.specs.SharedRows.{AreKept}
use Rattle.dp_policy.proofs.JoinedRows.{rows_alike}
use Rattle.dp_policy.proofs.ReducedStages.{shared_agents_step, shared_end, shared_form_kept, shared_form_made}
use Rattle.dp_policy.proofs.shared_form.reduce.Goals as goal

pub loop-agent-init : goal.loop-agent-init
loop-agent-init c =
    let m = c.args.model.now.model in
    let qs = unfolded c.args.policy.now.rows in
    ap (λ l. map (λ s. map (λ r. r.items) s.items) l ++ shared_rows_of m.observations
    c.horizon-horizon.result qs)
    c.new-rows.ensures.items
    ∙ shared_form_made m c.horizon-horizon.result qs

pub loop-agent-preserved : goal.loop-agent-preserved
loop-agent-preserved c =
    let m = c.args.model.now.model in
    let p = c.args.policy.now.rows in
    let qs = unfolded p in
    let h = c.horizon-horizon.result in
    let i = c.loop-agent.agent in
    let alike = c.invariant.ensures.model.sizes.alike in
    let rows = rows_alike c.requires.agents in
    let more = ap (map (λ s. map (λ r. r.items) s.items)) c.in_ok-push.ensures.items
    ∙ map-append (λ s. map (λ r. r.items) s.items) c.loop-agent.rows.items (c.in_ok-agent_rows.field-0 ∷ []) in
    ap (λ (l : SharedPolicy). l ++ shared_rows_of (drop (i + 1) m.observations) h (drop (i + 1) qs)) more
    ∙ rw add-one (shared_agents_step m.observations p h i _ _ _
    (omega (arith, alike, rows, c.agents-agent-end.ensures.is, c.loop-agent-test.true))
    (omega (arith, c.agents-agent-end.ensures.is, c.loop-agent-test.true)) c.loop-agent.invariant
    (c.in_ok-agent_rows.ensures ∙ ap
    (λ (k : ℕ). shared_rows (get_or m.observations i 0) k (unfolded_tree (get_or p i []) 0))
    (sym c.horizon-horizon.ensures.is)))

pub of-requires : goal.of-requires
of-requires c =
    let m = c.args.model.now.model in
    let p = c.args.policy.now.rows in
    let h = c.horizon-horizon.result in
    let alike = c.invariant.ensures.model.sizes.alike in
    let rows = rows_alike c.requires.agents in
    let le : length m.observations ≤ c.loop-agent.agent =
    omega (arith, alike, rows, c.agents-agent-end.ensures.is, c.loop-agent-test.false) in
    let is = shared_end m.observations (unfolded p) h c.loop-agent.agent _ _ le c.loop-agent.invariant in
    let e = c.horizon-horizon.ensures.is in
    let kept = shared_form_kept m c.invariant.ensures.model c.args.policy.now.horizon
    (omega (arith, e, c.horizon-horizon.ensures.limit)) p c.requires in
    subst (AreKept h) (sym is) (subst (λ (k : ℕ). AreKept k (shared_form m k (unfolded p))) (sym e) kept)

pub returns : goal.returns
returns c =
    let m = c.args.model.now.model in
    let p = c.args.policy.now.rows in
    let h = c.horizon-horizon.result in
    let alike = c.invariant.ensures.model.sizes.alike in
    let rows = rows_alike c.requires.agents in
    let le : length m.observations ≤ c.loop-agent.agent =
    omega (arith, alike, rows, c.agents-agent-end.ensures.is, c.loop-agent-test.false) in
    let is = shared_end m.observations (unfolded p) h c.loop-agent.agent _ _ le c.loop-agent.invariant in
    let e = c.horizon-horizon.ensures.is in
    c.of.ensures ∙ (λ j. record {
      horizon = e j;
      rows = (is ∙ ap (λ (k : ℕ). shared_form m k (unfolded p)) e)
          j;
    })
