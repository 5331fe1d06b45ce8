use Rattle.std.proofs.Common.{take}
use Rattle.dp_meaning.specs.declared.statement.Table.TheVariants.{Reward}
use Rattle.dp_meaning.specs.Cells.{statements_for}
use Rattle.dp_tables.proofs.RewardTables.{AreRewardsBy}
use Rattle.dp_tables.proofs.reward_table.rewards.Given as goal

abbrev pub invariant-loop-statement : goal.invariant-loop-statement
invariant-loop-statement l = AreRewardsBy l.text.text l.scale
    (statements_for Reward (take l.statement-index l.statement-items)) l.cells.items
