use Rattle.decplan.proofs.Writing.{writes_more}
use Rattle.decplan.proofs.sink.write_whole.Goals as goal

pub loop-rest-preserved : goal.loop-rest-preserved
loop-rest-preserved g c = writes_more _ _ _ _ _ _ c.loop-rest.invariant c.in-Ok.ensures.bytes
