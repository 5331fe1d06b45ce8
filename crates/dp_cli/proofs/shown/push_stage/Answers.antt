use Rattle.std.proofs.Common.{◌^◌, ◌++◌, [], length, get_or, sym, ap, ◌∙◌, arith}
use Rattle.std.specs.Prelude.{slice_index}
use Rattle.dp_spec.specs.SharedPolicy.{unfolded_tree}
use Rattle.dp_cli.specs.ShownPolicies.{numbered_text}
use Rattle.dp_cli.proofs.ShownTexts.{one_more}
use Rattle.dp_cli.proofs.shown.push_stage.Goals as goal

pub observations-requires : goal.observations-requires
observations-requires c = omega (arith, c.requires.agent, c.invariant.ensures.model.sizes.alike)

pub overflow_cast-history : goal.overflow_cast-history
overflow_cast-history c = omega (arith, c.requires.early, c.invariant-2.ensures.horizon)

pub push_numbered-requires : goal.push_numbered-requires
push_numbered-requires c = record {
  policy = c.requires.policy;
  agent = c.requires.agent;
  early = omega (arith, c.requires.early, c.loop-number.auto.history);
  number = c.loop-number-test.true;
  count = c.pow-count.ensures
      ∙ (λ j. c.observations.ensures j ^ sym c.loop-number.auto.history j);
}

pub loop-number-preserved : goal.loop-number-preserved
loop-number-preserved c =
    let here = c.loop-number.text.items in
    let lines = numbered_text c.args.model.now.names c.args.agent
    (slice_index c.args.model.now.model.observations c.args.agent)
    (unfolded_tree (get_or c.args.policy.now.rows c.args.agent []) 0) in
    one_more (lines (length c.args.history.now)) c.args.text.now.items here c.push_numbered.new.text.items
    c.loop-number.number c.loop-number.invariant
    (c.in_ok-push_numbered.ensures
    ∙ ap (λ t. here ++ lines t c.loop-number.number) c.loop-number.auto.history)
