use Rattle.std.proofs.Common.{◌∷◌, List, map, sym, ap, subst, ◌∙◌}
use Rattle.std.specs.Prelude.{codes, pos}
use Rattle.dp_spec.specs.SharedRows.{products}
use Rattle.dp_spec.specs.TextLines.{Item, fixed}
use Rattle.dp_lines.specs.Forms.{AreInRange}
use Rattle.dp_lines.specs.Lines.{plain_form}
use Rattle.dp_cert.specs.PolicyGrammar.{cells_passed}
use Rattle.dp_cert.proofs.RowParts.{kept_cells, some_counts}
use Rattle.dp_cert.proofs.StageParts.{counts_at, counts_kept, counts_pass}
use Rattle.dp_cert.proofs.shared_text.agent_counts.Goals as goal

pub returns-in-None-clause-gives : goal.returns-in-None-clause-gives
returns-in-None-clause-gives c =
    let form = fixed (codes "rows") ∷ plain_form c.args.ranges.now in
    let xs = c.in_ok-counts.counts.items in
    let cells = c.in_ok-cells.ensures.ok ∙ ap (products c.args.cells.now) c.as_slice.ensures.value in
    let kept = ap cells_passed (sym cells) ∙ ap cells_passed (sym c.as_slice-2.ensures.value)
    ∙ sym c.cells_passed.ensures ∙ c.in-None.is in
    counts_at c.args.horizon c.args.agent c.args.cells.now xs form c.args.from.line c.in_ok-named.named.line
    c.in_ok-counts.to.line
    c.args.from.rest.now c.in_ok-named.named.rest.now c.in_ok-counts.to.rest.now c.requires.ranges
    c.in_ok-named.ensures c.in_ok-counts.ensures.gives
    ∙ counts_kept c.args.horizon c.args.cells.now xs c.in_ok-counts.to.line c.in_ok-counts.to.rest.now kept

pub returns-in-None-clause-few : goal.returns-in-None-clause-few
returns-in-None-clause-few c =
    kept_cells c.in_ok-cells.cells.items (ap cells_passed (sym c.as_slice-2.ensures.value)
    ∙ sym c.cells_passed.ensures ∙ c.in-None.is)

pub returns-in-None-clause-some : goal.returns-in-None-clause-some
returns-in-None-clause-some c =
    some_counts c.args.horizon c.in_ok-counts.counts.items (c.in_ok-counts.ensures.count ∙ c.requires.count)
    (subst (λ (f : List Item). AreInRange f (map pos c.in_ok-counts.counts.items))
    c.requires.ranges c.in_ok-counts.ensures.inside)

pub returns-clause-gives : goal.returns-clause-gives
returns-clause-gives c =
    let form = fixed (codes "rows") ∷ plain_form c.args.ranges.now in
    let xs = c.in_ok-counts.counts.items in
    let cells = c.in_ok-cells.ensures.ok ∙ ap (products c.args.cells.now) c.as_slice.ensures.value in
    let passed = ap cells_passed (sym cells) ∙ ap cells_passed (sym c.as_slice-2.ensures.value)
    ∙ sym c.cells_passed.ensures ∙ c.in-Some.is in
    counts_at c.args.horizon c.args.agent c.args.cells.now xs form c.args.from.line c.in_ok-named.named.line
    c.in_ok-counts.to.line
    c.args.from.rest.now c.in_ok-named.named.rest.now c.in_ok-counts.to.rest.now c.requires.ranges
    c.in_ok-named.ensures c.in_ok-counts.ensures.gives
    ∙ counts_pass c.args.horizon c.args.cells.now xs c.in_ok-counts.to.line c.in_ok-counts.to.rest.now
    c.in-Some.passed passed
