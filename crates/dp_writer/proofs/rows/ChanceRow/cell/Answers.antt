use Rattle.std.proofs.Common.{◌<◌, length, sym, subst, ◌∙◌, arith}
use Rattle.dp_writer.specs.declared.rows.ChanceRow.{ChanceRow}
use Rattle.dp_writer.specs.declared.rows.ChanceRow.TheVariants.{Start, Of}
use Rattle.dp_spec.specs.Model.{start_at}
use Rattle.dp_writer.specs.ChanceRows.{IsRowOf, cells_of}
use Rattle.dp_writer.specs.ModelRows.{cell_at, row_length}
use Rattle.dp_writer.proofs.RowCells.{each_at, length_of}
use Rattle.dp_writer.proofs.rows.ChanceRow.cell.Goals as goal

pub start-requires : goal.start-requires
start-requires c =
    let m = c.args.model.now.model in
    let place = subst (λ (r : ChanceRow). c.args.place < length (cells_of m r)) c.in-Start.is c.requires.place in
    omega (arith, place, length_of m Start)

pub cell-requires-clause-action : goal.cell-requires-clause-action
cell-requires-clause-action c =
    (subst (λ (r : ChanceRow). IsRowOf c.args.model.now.model r) c.in-Of.is c.requires.row).0

pub cell-requires-clause-state : goal.cell-requires-clause-state
cell-requires-clause-state c =
    (subst (λ (r : ChanceRow). IsRowOf c.args.model.now.model r) c.in-Of.is c.requires.row).1

pub cell-requires-clause-place : goal.cell-requires-clause-place
cell-requires-clause-place c =
    let m = c.args.model.now.model in
    let place = subst (λ (r : ChanceRow). c.args.place < length (cells_of m r)) c.in-Of.is c.requires.place in
    omega (arith, place, length_of m (Of c.in-Of.table c.in-Of.action c.in-Of.state))

pub returns-in-Start : goal.returns-in-Start
returns-in-Start c =
    let m = c.args.model.now.model in
    let place = subst (λ (r : ChanceRow). c.args.place < length (cells_of m r)) c.in-Start.is c.requires.place in
    rw c.in-Start.is (c.start.ensures
    ∙ sym (each_at (start_at m) m.states c.args.place 0 (omega (arith, place, length_of m Start))))

pub returns-in-Of : goal.returns-in-Of
returns-in-Of c =
    let m = c.args.model.now.model in
    let row = Of c.in-Of.table c.in-Of.action c.in-Of.state in
    let place = subst (λ (r : ChanceRow). c.args.place < length (cells_of m r)) c.in-Of.is c.requires.place in
    rw c.in-Of.is (c.cell.ensures
    ∙ sym (each_at (cell_at m c.in-Of.table c.in-Of.action c.in-Of.state) (row_length m c.in-Of.table) c.args.place 0
    (omega (arith, place, length_of m row))))
