use Rattle.std.proofs.Common.{◌≡◌, ◌<◌, ◌+◌, ℕ, [], ◌∷◌, false, length, get_or, take, sym, subst, ◌∙◌, arith}
use Rattle.std.proofs.lemmas.List.{take_all}
use Rattle.std.proofs.lemmas.List.Folds.{list_all_at}
use Rattle.dp_writer.specs.ChanceRows.{cells_of, scale_of_row}
use Rattle.dp_writer.specs.NeededScales.{HasDigits}
use Rattle.dp_writer.specs.Writable.{is_decimal_cell}
use Rattle.dp_writer.proofs.RowCells.{within_scale}
use Rattle.dp_writer.proofs.RowNeeds.{digits_more, max_is}
use Rattle.dp_writer.proofs.needs.most_digits.Goals as goal

pub cell_digits-requires-clause-within : goal.cell_digits-requires-clause-within
cell_digits-requires-clause-within c =
    let m = c.args.model.now.model in
    let below : c.loop-place.place < length (cells_of m c.args.row) =
    omega (arith, c.loop-place-test.true, c.len-place-end.ensures) in
    omega (
      arith,
      within_scale m c.args.row c.loop-place.place c.invariant.ensures.model c.requires below,
      c.cell.ensures,
      c.scale-scale.ensures,
    )

pub returns-in-None : goal.returns-in-None
returns-in-None c =
    let m = c.args.model.now.model in
    let cells = cells_of m c.args.row in
    let fails : is_decimal_cell c.scale-scale.result c.cell.result ≡ false = c.in-None.ensures in
    list_all_at (is_decimal_cell (scale_of_row m c.args.row)) cells c.loop-place.place 0
    (omega (arith, c.loop-place-test.true, c.len-place-end.ensures))
    (subst (λ k. is_decimal_cell k (get_or cells c.loop-place.place 0) ≡ false) c.scale-scale.ensures
    (subst (λ n. is_decimal_cell c.scale-scale.result n ≡ false) c.cell.ensures fails))

pub loop-place-preserved : goal.loop-place-preserved
loop-place-preserved c =
    let m = c.args.model.now.model in
    let cells = cells_of m c.args.row in
    let scale = scale_of_row m c.args.row in
    let i = c.loop-place.place in
    let d = c.in-Some.digits in
    let here : HasDigits scale (get_or cells i 0 ∷ []) d =
    subst (λ k. HasDigits k (get_or cells i 0 ∷ []) d) c.scale-scale.ensures
    (subst (λ (n : ℕ). HasDigits c.scale-scale.result (n ∷ []) d) c.cell.ensures c.in-Some.ensures) in
    subst (λ k. HasDigits scale (take (i + 1) cells) k) (sym (c.max-most.ensures ∙ max_is c.loop-place.most d))
    (digits_more scale cells i c.loop-place.most d (omega (arith, c.loop-place-test.true, c.len-place-end.ensures))
    c.loop-place.invariant here)

pub returns : goal.returns
returns c =
    let m = c.args.model.now.model in
    let cells = cells_of m c.args.row in
    subst (λ xs. HasDigits (scale_of_row m c.args.row) xs c.loop-place.most)
    (take_all _ cells (omega (arith, c.loop-place-test.false, c.len-place-end.ensures))) c.loop-place.invariant
