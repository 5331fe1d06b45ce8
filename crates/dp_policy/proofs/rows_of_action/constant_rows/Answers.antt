use Rattle.std.proofs.Common.{◌≤◌, ◌+◌, [], ◌∷◌, ◌++◌, add-one, length, drop, map, ap, ◌∙◌, arith}
use Rattle.std.proofs.lemmas.List.{map-append}
use Rattle.dp_spec.specs.ConstantRows.{constant_agent_rows, constant_rows_of}
use Rattle.dp_spec.specs.JointNumbers.{parts_of}
use Rattle.dp_spec.specs.SharedPolicy.{SharedPolicy}
use Rattle.dp_spec.proofs.JointNumberLaws.{length-parts_of}
use Rattle.dp_laws.proofs.ConstantRows.{constant_rows_is}
use Rattle.dp_policy.proofs.ConstantSteps.{constant_agent_step, constant_end, constant_is}
use Rattle.dp_policy.proofs.JoinedRows.{kept_rows}
use Rattle.dp_policy.proofs.rows_of_action.constant_rows.Goals as goal

pub of-requires : goal.of-requires
of-requires c =
    let m = c.args.model.now.model in
    let alike = c.invariant.ensures.model.sizes.alike in
    let le : length m.observations ≤ c.loop-agent.agent = omega
    (arith, alike, c.agents-agent-end.ensures.is, c.loop-agent-test.false) in
    rw (constant_end m.observations (parts_of m.actions c.args.a)
    c.args.horizon c.loop-agent.agent _ _ le c.loop-agent.invariant)
    (kept_rows m c.invariant.ensures.model c.args.horizon c.requires.limit _
    (constant_rows_is m c.args.horizon c.args.a c.invariant.ensures.model c.requires.some_step
    c.requires.action).0)

pub loop-agent-init : goal.loop-agent-init
loop-agent-init c =
    ap (λ l. map (λ s. map (λ r. r.items) s.items) l ++ constant_rows_of c.args.model.now.model.observations
    c.args.horizon (parts_of c.args.model.now.model.actions c.args.a)) c.new-rows.ensures.items
    ∙ constant_is c.args.model.now.model c.args.horizon c.args.a

pub loop-agent-preserved : goal.loop-agent-preserved
loop-agent-preserved c =
    let m = c.args.model.now.model in
    let h = c.args.horizon in
    let i = c.loop-agent.agent in
    let parts = parts_of m.actions c.args.a in
    let alike = c.invariant.ensures.model.sizes.alike in
    let counted = length-parts_of m.actions c.args.a in
    let more = ap (map (λ s. map (λ r. r.items) s.items)) c.in_ok-push.ensures.items
    ∙ map-append (λ s. map (λ r. r.items) s.items) c.loop-agent.rows.items (c.in_ok-stages.stages ∷ []) in
    ap (λ (p : SharedPolicy). p ++ constant_rows_of (drop (i + 1) m.observations) h (drop (i + 1) parts)) more
    ∙ rw add-one (constant_agent_step m.observations parts h i _ _ _
    (omega (arith, alike, c.agents-agent-end.ensures.is, c.loop-agent-test.true))
    (omega (arith, counted, c.agents-agent-end.ensures.is, c.loop-agent-test.true)) c.loop-agent.invariant
    (c.in_ok-stages.ensures ∙ (λ j. constant_agent_rows (c.observations.ensures j) h
    (c.local_action.ensures j))))
