use Rattle.std.proofs.Common.{◌≡◌, ℕ, ◌<◌, ◌≤◌, ◌^◌, ◌++◌, [], length, get_or, take, sym, ap, ◌∙◌, subst, arith}
use Rattle.std.proofs.lemmas.List.{length-take-le}
use Rattle.std.specs.Prelude.{slice_index}
use Rattle.dp_spec.specs.SharedPolicy.{unfolded_tree}
use Rattle.dp_policy.proofs.AgentParts.{histories_few}
use Rattle.dp_cli.specs.ShownPolicies.{stage_text}
use Rattle.dp_cli.proofs.ShownTexts.{one_more}
use Rattle.dp_cli.proofs.shown.push_agent.Goals as goal

pub push_stage-requires-clause-few : goal.push_stage-requires-clause-few
push_stage-requires-clause-few c =
    let m = c.args.model.now.model in
    let t = c.loop-stage.stage in
    let early : t < c.args.policy.now.horizon =
    omega (arith, c.loop-stage-test.true, c.requires.room) in
    let long : length (take t c.loop-stage.history) ≡ t =
    length-take-le t c.loop-stage.history (omega (arith, c.loop-stage-test.true, c.loop-stage.auto.history)) in
    subst (λ (k : ℕ). get_or m.observations c.args.agent 0 ^ k ≤ 2048) (sym long)
    (histories_few m.observations c.args.policy.now.horizon c.args.agent t c.requires.few
    (omega (arith, c.requires.agent, c.invariant.ensures.model.sizes.alike)) early)

pub loop-stage-preserved : goal.loop-stage-preserved
loop-stage-preserved c =
    let m = c.args.model.now.model in
    let t = c.loop-stage.stage in
    let long : length (take t c.loop-stage.history) ≡ t =
    length-take-le t c.loop-stage.history (omega (arith, c.loop-stage-test.true, c.loop-stage.auto.history)) in
    let lines = stage_text c.args.model.now.names c.args.agent (slice_index m.observations c.args.agent)
    (unfolded_tree (get_or c.args.policy.now.rows c.args.agent []) 0) in
    one_more lines c.args.text.now.items c.loop-stage.text.items c.push_stage.new.text.items t
    c.loop-stage.invariant
    (c.in_ok-push_stage.ensures ∙ ap (λ k. c.loop-stage.text.items ++ lines k) long)
