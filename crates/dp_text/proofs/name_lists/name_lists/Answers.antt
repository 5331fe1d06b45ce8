use Rattle.std.proofs.Common.{ℕ, Err, sym, subst, ◌≡◌, arith}
use Rattle.std.proofs.lemmas.Result.{err_from_is_err_and}
use Rattle.dp_meaning.specs.Entries.{agent_lines}
use Rattle.dp_meaning.specs.NameLists as spec
use Rattle.dp_text.specs.Reading.{Reads}
use Rattle.dp_text.proofs.AgentLines.{line_one, line_wrong, line_missing, lines_end, empty_line, line_beyond}
use Rattle.dp_text.proofs.name_lists.name_lists.Goals as goal
use Rattle.dp_text.proofs.name_lists.name_lists.Goals.{in-Some-agent_line+in_ok-ended, in_default}

pub loop-agent-preserved : goal.loop-agent-preserved
loop-agent-preserved c =
    let item = c.args.item.now in
    let lines = agent_lines item in
    rw c.in_ok-push.ensures.items
    (line_one item.next (spec.name_lists item.next c.args.agents lines) c.loop-agent.lists.items c.args.agents
    c.loop-agent.agent lines
    c.in-Some.line c.in_ok-list.list
    c.loop-agent-test.true c.in-Some.ensures (rw c.next-in-loop-agent.ensures at c.in_ok-list.ensures)
    c.loop-agent.invariant)

pub returns-in-None : goal.returns-in-None
returns-in-None c =
    let item = c.args.item.now in
    let lines = agent_lines item in
    rw (c.fault.ensures, c.next.ensures)
    (line_missing item.next (spec.name_lists item.next c.args.agents lines) c.loop-agent.lists.items c.args.agents
    c.loop-agent.agent
    lines c.loop-agent-test.true c.in-None.ensures c.loop-agent.invariant)

pub returns-in_err-list : goal.returns-in_err-list
returns-in_err-list c =
    let item = c.args.item.now in
    let lines = agent_lines item in
    let fault = c.in_err-list.field-0.0 in
    let exit = err_from_is_err_and c.from_residual.result c.from_residual.ensures.1 in
    rw (exit.1, exit.2)
    (line_wrong item.next (spec.name_lists item.next c.args.agents lines) c.loop-agent.lists.items c.args.agents
    c.loop-agent.agent lines
    c.in-Some.line fault c.loop-agent-test.true c.in-Some.ensures
    (subst (λ (next : ℕ). Reads (spec.name_list next c.in-Some.line) (Err fault)) c.next-in-loop-agent.ensures
    c.in_err-list.ensures)
    c.loop-agent.invariant)

pub returns-in_err-ended : goal.returns-in_err-ended
returns-in_err-ended c =
    let item = c.args.item.now in
    let lines = agent_lines item in
    let at_end : c.loop-agent.agent ≡ c.args.agents = omega arith in
    let exit = err_from_is_err_and c.from_residual-in_err-ended.result c.from_residual-in_err-ended.ensures.1 in
    rw (exit.1, exit.2)
    (line_beyond item.next (spec.name_lists item.next c.args.agents lines) c.loop-agent.lists.items c.args.agents
    c.loop-agent.agent lines
    c.in-Some-agent_line.line c.in_err-ended.field-0.0
    c.loop-agent-test.false (rw at_end c.in-Some-agent_line.ensures)
    (sym c.in_err-ended.ensures) c.loop-agent.invariant)

pub returns : goal.returns
returns c =
    let item = c.args.item.now in
    let lines = agent_lines item in
    let all = spec.name_lists item.next c.args.agents lines in
    let at_end : c.loop-agent.agent ≡ c.args.agents = omega arith in
    rw c.of.ensures
    (elim c.match-agent_line-2.branch [
      | in-Some-agent_line+in_ok-ended w ↦ empty_line item.next all c.loop-agent.lists.items c.args.agents
          c.loop-agent.agent lines
          w.in-Some-agent_line.line
          c.loop-agent-test.false (rw at_end w.in-Some-agent_line.ensures)
          (sym w.in_ok-ended.ensures) c.loop-agent.invariant
      | in_default w ↦ lines_end item.next all c.loop-agent.lists.items c.args.agents c.loop-agent.agent lines
          c.loop-agent-test.false (rw at_end w.in_default.ensures) c.loop-agent.invariant
    ])
