use Rattle.std.proofs.Common.{◌≡◌, map, take}
use Rattle.dp_meaning.specs.Cells.{reward_over}
use Rattle.dp_tables.proofs.blocks.rewards_over.Given as goal

abbrev pub invariant-loop-reward : goal.invariant-loop-reward
invariant-loop-reward l = l.block.items ≡ map (reward_over l.cost l.scale) (take l.reward-index l.rewards)
