use Rattle.std.proofs.Common.{rules}
use Rattle.dp_search.proofs.HeldFronts.{wide_is}
use Rattle.dp_search.proofs.held_front.HeldFront.is_wide.Goals as goal

pub returns-then-above-ge-MOST_ABOVE : goal.returns-then-above-ge-MOST_ABOVE
returns-then-above-ge-MOST_ABOVE c m h look merging held =
    search (rules, wide_is m h look merging c.args.self.now held c.args.above)

pub returns-else-above-ge-MOST_ABOVE : goal.returns-else-above-ge-MOST_ABOVE
returns-else-above-ge-MOST_ABOVE c m h look merging held =
    search (rules, wide_is m h look merging c.args.self.now held c.args.above)

pub returns-else-is_none : goal.returns-else-is_none
returns-else-is_none c m h look merging held =
    search (rules, wide_is m h look merging c.args.self.now held c.args.above)
