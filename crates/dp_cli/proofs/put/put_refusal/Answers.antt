use Rattle.std.proofs.Common.{sym, subst}
use Rattle.dp_cli.specs.declared.refusal.Refusal.{Refusal}
use Rattle.dp_cli.specs.Steps.{PutsRefusal}
use Rattle.dp_cli.proofs.Doing.{puts_line}
use Rattle.dp_cli.proofs.put.put_refusal.Goals as goal

pub returns-in-Fault : goal.returns-in-Fault
returns-in-Fault g c =
    let puts = puts_line _ _ c.line_of_fault-line.result c.status.ensures c.line_of_fault-line.ensures
    c.put_line.ensures.line c.put_line.ensures.memory in
    subst (λ (refusal : Refusal). PutsRefusal (g.W.Sink.view c.args.out.now) (g.W.Sink.view c.put_line.new.out)
    refusal c.put_line.result)
    (sym c.in-Fault.is) puts
