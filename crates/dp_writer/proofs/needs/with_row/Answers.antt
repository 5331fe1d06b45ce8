use Rattle.std.proofs.Common.{[], ◌∷◌, sym, subst, ◌∙◌}
use Rattle.dp_writer.specs.ChanceRows.{cells_of, scale_of_row}
use Rattle.dp_writer.specs.NeededScales.{AreNeeds}
use Rattle.dp_writer.proofs.RowNeeds.{decimal_needs, no_needs, uniform_needs}
use Rattle.dp_writer.proofs.needs.with_row.Goals as goal

pub returns-then-has_equal_cells : goal.returns-then-has_equal_cells
returns-then-has_equal_cells c =
    let m = c.args.model.now.model in
    uniform_needs (scale_of_row m c.args.row) (cells_of m c.args.row) c.args.before
    (sym c.has_equal_cells.ensures ∙ c.if-has_equal_cells.true) c.requires.digits

pub returns-in-Some : goal.returns-in-Some
returns-in-Some c =
    let m = c.args.model.now.model in
    let scale = scale_of_row m c.args.row in
    let cells = cells_of m c.args.row in
    subst (λ k. AreNeeds scale (cells ∷ []) c.args.before (record { digits = k; uniform = c.args.before.uniform }))
    (sym c.max.ensures)
    (decimal_needs scale cells c.args.before c.in-Some.digits
    (sym c.has_equal_cells.ensures ∙ c.if-has_equal_cells.false) c.requires.digits c.in-Some.ensures)

pub returns-in-None : goal.returns-in-None
returns-in-None c =
    let m = c.args.model.now.model in
    no_needs (scale_of_row m c.args.row) (cells_of m c.args.row)
    (sym c.has_equal_cells.ensures ∙ c.if-has_equal_cells.false) c.in-None.ensures
