use Rattle.std.proofs.Common.{arith}
use Rattle.dp_base.proofs.SignificandLaws.{tens_up}
use Rattle.dp_writer.proofs.needs.has_scale.Goals as goal

pub lcm-requires-clause-some_left : goal.lcm-requires-clause-some_left
lcm-requires-clause-some_left c = omega (arith, c.pow-tens.ensures, tens_up 0 c.args.needs.digits (omega arith))
