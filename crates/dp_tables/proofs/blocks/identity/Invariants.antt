use Rattle.std.proofs.Common.{◌≡◌, map}
use Rattle.std.specs.List.{range_with_len}
use Rattle.dp_tables.specs.Blocks.{identity_at}
use Rattle.dp_tables.proofs.blocks.identity.Given as goal

abbrev pub invariant-loop-j : goal.invariant-loop-j
invariant-loop-j l = l.block.items ≡ map (identity_at l.scale l.len) (range_with_len 0 l.j)
