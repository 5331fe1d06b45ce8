use Rattle.dp_policy.specs.Renumbered.{AreNumberedAfter, IsNumbering}
use Rattle.dp_policy.proofs.renumbered.renumbered_nexts.Given as goal

abbrev pub invariant-loop-place : goal.invariant-loop-place
invariant-loop-place l = record {
  numbering : IsNumbering l.kinds l.numbers.items l.later.items;
  news : AreNumberedAfter l.kinds l.place l.nexts l.fn.later.items l.later.items l.news.items;
}
