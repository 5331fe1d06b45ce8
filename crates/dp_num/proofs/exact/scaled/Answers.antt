use Rattle.dp_num.proofs.ExactSteps.{scaled_is}
use Rattle.dp_num.proofs.exact.scaled.Goals as goal

pub returns-else-x-eq0 : goal.returns-else-x-eq0
returns-else-x-eq0 c = scaled_is c.args.x c.args.factor c.ranges.x c.if-x-eq0.false c.requires.room
