use Rattle.std.proofs.Common.{[], get_or}
use Rattle.dp_policy.specs.Renumbered.{AreRenumbered, IsNumbering}
use Rattle.dp_policy.proofs.renumbered.renumbered_rows.Given as goal

abbrev pub invariant-loop-place : goal.invariant-loop-place
invariant-loop-place l = record {
  numbering : IsNumbering l.kinds l.numbers.items l.later.items;
  rows : AreRenumbered (get_or l.policy.rows l.agent []) l.stage l.kinds l.place l.reached l.rows.items
      l.later.items;
}
