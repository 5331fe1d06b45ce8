use Rattle.std.specs.Prelude.{slice_index}
use Rattle.dp_model.specs.Names.{names_of}
use Rattle.dp_writer.specs.WrittenModel.{list_words}
use Rattle.dp_writer.proofs.WordTexts.{line_written}
use Rattle.dp_writer.proofs.header.push_action_lists.Goals as goal

pub loop-agent-preserved : goal.loop-agent-preserved
loop-agent-preserved c =
    let m = c.args.model.now in
    line_written (λ i. list_words (names_of m.names.actions i) (slice_index m.model.actions i)) c.loop-agent.agent
    c.args.text.now c.loop-agent.text c.push_list.new.text c.push.new.self c.loop-agent.invariant
    c.in_ok-push_list.ensures c.in_ok-push.ensures
