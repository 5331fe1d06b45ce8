use Rattle.std.proofs.Common.{◌+◌, sym, ap, subst, ◌∙◌, take}
use Rattle.std.proofs.lemmas.List.{take_all, with_items_is}
use Rattle.dp_meaning.specs.declared.statement.Table.TheVariants.{Reward}
use Rattle.dp_meaning.specs.Cells.{statements_for}
use Rattle.dp_meaning.specs.Statements.{axes_of}
use Rattle.dp_tables.specs.Blocks.{reward_block}
use Rattle.dp_tables.specs.Writing.{AreWritten, list_parts, list_sizes}
use Rattle.dp_tables.proofs.CellTables.{IsStatementFor, IsWritable, statement_for, writable, passed_over}
use Rattle.dp_tables.proofs.RewardTables.{AreRewardsBy, reward_axes, reward_scale_limit, reward_numbers, rewards_fit}
use Rattle.dp_tables.proofs.RewardTables.{no_rewards, rewards_taken, all_rewards}
use Rattle.dp_tables.proofs.reward_table.rewards.Goals as goal
use Rattle.dp_tables.proofs.reward_table.rewards.Goals.{then-is_same+in_ok-write_rewards, else-is_same}

pub loop-statement-init : goal.loop-statement-init
loop-statement-init c =
    no_rewards c.args.text.now.text c.scale-scale.result c.in_ok-cells.cells.items c.reward_cells.result
    (c.in_ok-cells.ensures.items_if_clones_equal (λ y e. e)) c.reward_cells.ensures

-- the statement is one of the rewards
is_statement : (c : goal.After-deref)
    → IsStatementFor Reward (reward_axes c.args.text.now.text) c.statement-item.result
is_statement c =
    statement_for c.args.text.now.text Reward c.statements-statement-items.result.now
    c.loop-statement.statement-index c.statement-item.result c.invariant.ensures.said
    c.statements-statement-items.ensures c.loop-statement-test.true c.statement-item.is (sym c.if-is_same.ensures)

is_writable : (c : goal.After-deref)
    → IsWritable (reward_axes c.args.text.now.text) c.deref.result.now c.statement-item.result
is_writable c =
    writable c.args.text.now.text Reward c.statement-item.result c.deref.result.now c.invariant.ensures.said
    (is_statement c)
    (c.deref.ensures.value ∙ c.in_ok-sizes.ensures
    ∙ ap (λ h. list_sizes (axes_of h Reward)) c.header-header.ensures)

pub write_rewards-requires-clause-scale : goal.write_rewards-requires-clause-scale
write_rewards-requires-clause-scale c =
    reward_scale_limit c.args.text.now.text c.scale-scale.result c.invariant.ensures.said c.scale-scale.ensures.is

pub write_rewards-requires-clause-rewards : goal.write_rewards-requires-clause-rewards
write_rewards-requires-clause-rewards c = reward_numbers c.statement-item.result.value (is_statement c).numbers

pub write_rewards-requires-clause-some : goal.write_rewards-requires-clause-some
write_rewards-requires-clause-some c = (is_writable c).some

pub write_rewards-requires-clause-parts : goal.write_rewards-requires-clause-parts
write_rewards-requires-clause-parts c = (is_writable c).parts

pub write_rewards-requires-clause-block : goal.write_rewards-requires-clause-block
write_rewards-requires-clause-block c =
    rewards_fit c.header-header.result.now.cost c.scale-scale.result (reward_axes c.args.text.now.text)
    c.statement-item.result c.deref.result.now (is_statement c) (is_writable c)

pub returns : goal.returns
returns c =
    let text = c.args.text.now.text in
    let scale = c.scale-scale.result in
    let all = take_all c.loop-statement.statement-index c.statements-statement-items.result.now
    c.loop-statement-test.false ∙ c.statements-statement-items.ensures in
    all_rewards text scale c.loop-statement.cells.items c.scale-scale.ensures.is
    (subst (λ ss. AreRewardsBy text scale (statements_for Reward ss) c.loop-statement.cells.items) all
    c.loop-statement.invariant)

pub loop-statement-preserved : goal.loop-statement-preserved
loop-statement-preserved c =
    let text = c.args.text.now.text in
    let scale = c.scale-scale.result in
    let s = c.statement-item.result in
    let items = c.statements-statement-items.result.now in
    let i = c.loop-statement.statement-index in
    let more = statements_for Reward (take (i + 1) items) in
    elim c.if-is_same.branch [
      | then-is_same+in_ok-write_rewards w ↦
          let same = sym w.if-is_same.ensures in
          let sizes = w.deref.ensures.value ∙ c.in_ok-sizes.ensures
          ∙ ap (λ h. list_sizes (axes_of h Reward)) c.header-header.ensures in
          let is = statement_for text Reward items i s c.invariant.ensures.said
          c.statements-statement-items.ensures c.loop-statement-test.true c.statement-item.is same in
          let written = subst (λ h. AreWritten w.deref.result.now (list_parts s.fields)
          (reward_block h.cost scale s.value) w.deref_mut.result.now w.write_rewards.new.cells)
          c.header-header.ensures w.in_ok-write_rewards.ensures in
          subst (AreRewardsBy text scale more)
          (sym (ap (λ v. v.items) w.cells-is ∙ with_items_is c.loop-statement.cells w.write_rewards.new.cells
          (w.write_rewards.auto.cells ∙ w.deref_mut.ensures.len)))
          (rewards_taken text scale items i s c.loop-statement.cells.items w.write_rewards.new.cells
          w.deref.result.now w.deref_mut.result.now is c.loop-statement-test.true c.statement-item.is same
          c.loop-statement.invariant sizes w.deref_mut.ensures.value w.write_rewards.auto.cells written)
      | else-is_same w ↦
          subst (λ v. AreRewardsBy text scale more v.items) (sym w.cells-is)
          (passed_over (λ ss. AreRewardsBy text scale ss c.loop-statement.cells.items) Reward items i s
          c.loop-statement-test.true c.statement-item.is (sym w.if-is_same.ensures) c.loop-statement.invariant)
    ]
