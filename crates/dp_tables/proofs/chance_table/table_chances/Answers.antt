use Rattle.std.proofs.Common.{◌+◌, sym, ap, subst, ◌∙◌, arith, take}
use Rattle.std.proofs.lemmas.List.{take_all, with_items_is}
use Rattle.dp_meaning.specs.Statements.{axes_of}
use Rattle.dp_meaning.specs.Cells.{statements_for}
use Rattle.dp_meaning.specs.Text.{states_in, joint_actions_in}
use Rattle.dp_tables.specs.Tables.{given_cells, row_length}
use Rattle.dp_tables.specs.Writing.{list_sizes}
use Rattle.dp_tables.proofs.CellTables.{IsStatementFor, IsWritable, statement_for, writable, passed_over}
use Rattle.dp_tables.proofs.ChanceTables.{AreChancesBy, some_row, table_over, table_over_len}
use Rattle.dp_tables.proofs.ChanceTables.{chance_numbers, chances_fit, no_chances, cells_count, chances_taken}
use Rattle.dp_tables.proofs.ChanceTables.{all_chances}
use Rattle.dp_tables.proofs.chance_table.table_chances.Goals as goal
use Rattle.dp_tables.proofs.chance_table.table_chances.Goals.{then-is_same+in_ok-write_chances, else-is_same}

pub loop-statement-init : goal.loop-statement-init
loop-statement-init c =
    let text = c.args.text.now.text in
    let axes = axes_of text.header c.args.table in
    let len = c.row_len-len.result in
    let over = table_over_len text c.args.table len c.invariant.ensures.said c.requires c.row_len-len.ensures.is in
    no_chances c.scale-scale.result axes c.in_ok-cells.cells.items c.cells_in.result
    (c.in_ok-cells.ensures.items_if_clones_equal (λ y e. e))
    (c.cells_in.ensures ∙ sym (cells_count c.args.table axes (joint_actions_in text) (states_in text) len over))

pub write_chances-requires-clause-some_len : goal.write_chances-requires-clause-some_len
write_chances-requires-clause-some_len c =
    let some = some_row c.args.text.now.text c.args.table c.invariant.ensures.said in
    let e = c.row_len-len.ensures.is in
    omega arith

-- the statement is one of the table's
is_statement : (c : goal.After-deref)
    → IsStatementFor c.args.table (axes_of c.args.text.now.text.header c.args.table) c.statement-item.result
is_statement c =
    statement_for c.args.text.now.text c.args.table c.statements-statement-items.result.now
    c.loop-statement.statement-index c.statement-item.result c.invariant.ensures.said
    c.statements-statement-items.ensures c.loop-statement-test.true c.statement-item.is (sym c.if-is_same.ensures)

is_writable : (c : goal.After-deref)
    → IsWritable (axes_of c.args.text.now.text.header c.args.table) c.deref.result.now c.statement-item.result
is_writable c =
    writable c.args.text.now.text c.args.table c.statement-item.result c.deref.result.now c.invariant.ensures.said
    (is_statement c)
    (c.deref.ensures.value ∙ c.in_ok-sizes.ensures ∙ ap (λ h. list_sizes (axes_of h c.args.table)) c.header.ensures)

pub write_chances-requires-clause-chances : goal.write_chances-requires-clause-chances
write_chances-requires-clause-chances c =
    chance_numbers c.args.table c.statement-item.result.value c.requires (is_statement c).numbers

pub write_chances-requires-clause-some : goal.write_chances-requires-clause-some
write_chances-requires-clause-some c = (is_writable c).some

pub write_chances-requires-clause-parts : goal.write_chances-requires-clause-parts
write_chances-requires-clause-parts c = (is_writable c).parts

pub write_chances-requires-clause-block : goal.write_chances-requires-clause-block
write_chances-requires-clause-block c =
    let text = c.args.text.now.text in
    let len = c.row_len-len.result in
    let over = table_over_len text c.args.table len c.invariant.ensures.said c.requires c.row_len-len.ensures.is in
    chances_fit c.scale-scale.result (joint_actions_in text) (states_in text) len c.args.table
    (axes_of text.header c.args.table) c.statement-item.result c.deref.result.now over (is_statement c)
    (is_writable c)

pub returns : goal.returns
returns c =
    let text = c.args.text.now.text in
    let table = c.args.table in
    let axes = axes_of text.header table in
    let scale = c.scale-scale.result in
    let all = take_all c.loop-statement.statement-index c.statements-statement-items.result.now
    c.loop-statement-test.false ∙ c.statements-statement-items.ensures in
    let by_all = subst (λ ss. AreChancesBy scale axes (statements_for table ss) c.loop-statement.cells.items) all
    c.loop-statement.invariant in
    all_chances scale (joint_actions_in text) (states_in text) (row_length text table) table axes
    (statements_for table text.statements) c.loop-statement.cells.items
    (table_over text table c.invariant.ensures.said c.requires) by_all
    ∙ ap (λ n. given_cells text table n (row_length text table)) c.scale-scale.ensures.is

pub loop-statement-preserved : goal.loop-statement-preserved
loop-statement-preserved c =
    let text = c.args.text.now.text in
    let table = c.args.table in
    let axes = axes_of text.header table in
    let scale = c.scale-scale.result in
    let len = c.row_len-len.result in
    let items = c.statements-statement-items.result.now in
    let i = c.loop-statement.statement-index in
    let more = statements_for table (take (i + 1) items) in
    elim c.if-is_same.branch [
      | then-is_same+in_ok-write_chances w ↦
          let same = sym w.if-is_same.ensures in
          let over = table_over_len text table len c.invariant.ensures.said c.requires c.row_len-len.ensures.is in
          let sizes = w.deref.ensures.value ∙ c.in_ok-sizes.ensures
          ∙ ap (λ h. list_sizes (axes_of h table)) c.header.ensures in
          let is = statement_for text table items i c.statement-item.result c.invariant.ensures.said
          c.statements-statement-items.ensures c.loop-statement-test.true c.statement-item.is same in
          subst (AreChancesBy scale axes more)
          (sym (ap (λ v. v.items) w.cells-is ∙ with_items_is c.loop-statement.cells w.write_chances.new.cells
          (w.write_chances.auto.cells ∙ w.deref_mut.ensures.len)))
          (chances_taken scale (joint_actions_in text) (states_in text) len table axes items i c.statement-item.result
          c.loop-statement.cells.items w.write_chances.new.cells w.deref.result.now w.deref_mut.result.now
          over is c.loop-statement-test.true c.statement-item.is same c.loop-statement.invariant sizes
          w.deref_mut.ensures.value w.write_chances.auto.cells w.in_ok-write_chances.ensures)
      | else-is_same w ↦
          subst (λ v. AreChancesBy scale axes more v.items) (sym w.cells-is)
          (passed_over (λ ss. AreChancesBy scale axes ss c.loop-statement.cells.items) table items i
          c.statement-item.result c.loop-statement-test.true c.statement-item.is (sym w.if-is_same.ensures)
          c.loop-statement.invariant)
    ]
