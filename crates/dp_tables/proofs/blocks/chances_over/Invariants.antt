use Rattle.std.proofs.Common.{◌≡◌, map, take}
use Rattle.dp_meaning.specs.Cells.{chance_over}
use Rattle.dp_tables.proofs.blocks.chances_over.Given as goal

abbrev pub invariant-loop-chance : goal.invariant-loop-chance
invariant-loop-chance l = l.block.items ≡ map (chance_over l.scale) (take l.chance-index l.chances)
