use Rattle.std.proofs.Common.{◌<◌, length, get_or, sym, arith}
use Rattle.dp_spec.specs.Front.{class_counts}
use Rattle.dp_check.proofs.FreeClasses.{class_none, no_agent, no_class}
use Rattle.dp_check.proofs.classes.is_unassigned.Goals as goal

pub returns-then-agent-agents : goal.returns-then-agent-agents
returns-then-agent-agents c = sym (no_agent c.args.front.now.front.agents c.args.agent c.args.class
    (omega (arith, c.agents.ensures, c.if-agent-agents.true)))

pub returns-then-class-classes : goal.returns-then-class-classes
returns-then-class-classes c =
    let ds = c.args.front.now.front.agents in
    let lt : c.args.agent < length ds = omega (arith, c.agents.ensures, c.if-agent-agents.false) in
    no_class ds c.args.agent c.args.class lt (omega (arith, c.classes.ensures, c.if-class-classes.true))

pub returns : goal.returns
returns c =
    let ds = c.args.front.now.front.agents in
    let lt : c.args.agent < length ds = omega (arith, c.agents.ensures, c.if-agent-agents.false) in
    let inside : c.args.class < get_or (class_counts ds) c.args.agent 0 = omega
    (arith, c.classes.ensures, c.if-class-classes.false) in
    class_none ds c.args.agent c.args.class _ _ lt inside c.action.ensures c.is_none.ensures
