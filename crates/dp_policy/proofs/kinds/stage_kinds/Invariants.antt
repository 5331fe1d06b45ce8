use Rattle.std.proofs.Common.{[], get_or}
use Rattle.dp_policy.proofs.KindsOfRows.{AreKindsUpTo}
use Rattle.dp_policy.proofs.kinds.stage_kinds.Given as goal

abbrev pub invariant-loop-seen : goal.invariant-loop-seen
invariant-loop-seen l = AreKindsUpTo (get_or l.policy.rows l.agent []) l.stage l.later l.seen l.kinds.items
