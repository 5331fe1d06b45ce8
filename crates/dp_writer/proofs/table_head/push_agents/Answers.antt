use Rattle.dp_writer.specs.TableText.{agent_table_lines}
use Rattle.dp_writer.proofs.WordTexts.{lines_written}
use Rattle.dp_writer.proofs.table_head.push_agents.Goals as goal

pub loop-agent-preserved : goal.loop-agent-preserved
loop-agent-preserved c =
    lines_written (agent_table_lines c.args.model.now) c.loop-agent.agent c.args.text.now c.loop-agent.text
    c.push_agent.new.text c.loop-agent.invariant c.in_ok-push_agent.ensures
