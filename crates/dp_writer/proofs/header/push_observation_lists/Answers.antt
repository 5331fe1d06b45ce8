use Rattle.std.proofs.Common.{◌≡◌, length, ap, arith}
use Rattle.std.specs.Prelude.{slice_index}
use Rattle.dp_model.specs.Names.{names_of}
use Rattle.dp_writer.specs.ModelRows.{each_below}
use Rattle.dp_writer.specs.WrittenLines.{lines_text}
use Rattle.dp_writer.specs.WrittenModel.{list_words}
use Rattle.dp_writer.proofs.Appending.{spelled}
use Rattle.dp_writer.proofs.WordTexts.{line_written}
use Rattle.dp_writer.proofs.header.push_observation_lists.Goals as goal

pub loop-agent-preserved : goal.loop-agent-preserved
loop-agent-preserved c =
    let m = c.args.model.now in
    line_written (λ i. list_words (names_of m.names.observations i) (slice_index m.model.observations i))
    c.loop-agent.agent c.args.text.now c.loop-agent.text c.push_list.new.text c.push.new.self c.loop-agent.invariant
    c.in_ok-push_list.ensures c.in_ok-push.ensures

pub returns : goal.returns
returns c =
    let m = c.args.model.now in
    let all : c.loop-agent.agent ≡ length m.model.observations = omega (
      arith,
      c.loop-agent-test.false,
      c.loop-agent.auto.agent-end,
      c.agents-agent-end.ensures.is,
      c.invariant.ensures.model.sizes.alike,
    ) in
    spelled c.args.text.now c.loop-agent.text _ _
    (ap (λ n. lines_text (each_below
    (λ i. list_words (names_of m.names.observations i) (slice_index m.model.observations i)) n)) all)
    c.loop-agent.invariant
