use Rattle.std.proofs.Common.{add-one, sym, ap, ◌∙◌, drop, refl, arith}
use Rattle.dp_cert.specs.PolicyGrammar.{cells_passed}
use Rattle.dp_cert.proofs.RowParts.{cells_past, cells_within, cells_end}
use Rattle.dp_cert.proofs.shared_text.cells_passed.Goals as goal

pub returns-then-cell-gt-MOST_CELLS : goal.returns-then-cell-gt-MOST_CELLS
returns-then-cell-gt-MOST_CELLS c =
    sym (cells_past c.args.cells.now c.loop-cell.cell-index c.from.result c.loop-cell-test.true c.from.ensures
    (omega (arith, c.from.ensures, c.if-cell-gt-MOST_CELLS.true))) ∙ c.loop-cell.invariant

pub loop-cell-preserved : goal.loop-cell-preserved
loop-cell-preserved c =
    ap (λ k. cells_passed (drop k c.args.cells.now)) (add-one c.loop-cell.cell-index)
    ∙ sym (cells_within c.args.cells.now c.loop-cell.cell-index _ c.loop-cell-test.true refl
    c.if-cell-gt-MOST_CELLS.false)
    ∙ c.loop-cell.invariant

pub returns : goal.returns
returns c = sym (cells_end c.args.cells.now c.loop-cell.cell-index (omega (arith, c.loop-cell-test.false)))
    ∙ c.loop-cell.invariant
