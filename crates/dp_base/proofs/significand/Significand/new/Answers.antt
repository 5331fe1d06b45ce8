use Rattle.std.proofs.Common.{refl}
use Rattle.dp_base.proofs.SignificandLaws.{nothing_seen}
use Rattle.dp_base.proofs.significand.Significand.new.Goals as goal

pub returns-clause-seen : goal.returns-clause-seen
returns-clause-seen c = nothing_seen _ refl refl refl
