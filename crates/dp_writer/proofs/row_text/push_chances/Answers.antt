use Rattle.std.proofs.Common.{◌<◌, true, length, ap, ◌∙◌, arith}
use Rattle.dp_writer.specs.ChanceRows.{cells_of, scale_of_row}
use Rattle.dp_writer.specs.LimitedTexts.{added}
use Rattle.dp_writer.specs.WrittenModel.{chance_word}
use Rattle.dp_writer.proofs.RowCells.{within_scale}
use Rattle.dp_writer.proofs.WordTexts.{item_written}
use Rattle.dp_writer.proofs.row_text.push_chances.Goals as goal

pub push_chance-requires-clause-within : goal.push_chance-requires-clause-within
push_chance-requires-clause-within c =
    let m = c.args.model.now.model in
    let below : c.loop-place.place < length (cells_of m c.args.row) =
    omega (arith, c.loop-place-test.true, c.len-place-end.ensures) in
    omega (
      arith,
      within_scale m c.args.row c.loop-place.place c.invariant.ensures.model c.requires below,
      c.cell.ensures,
      c.scale-scale.ensures,
    )

pub loop-place-preserved : goal.loop-place-preserved
loop-place-preserved c =
    let m = c.args.model.now.model in
    let t1 = c.push_space.new.self in
    item_written true (chance_word (scale_of_row m c.args.row)) (cells_of m c.args.row) c.loop-place.place 0
    c.cell.result c.args.text.now c.loop-place.text t1 c.push_chance.new.text
    (omega (arith, c.loop-place-test.true, c.len-place-end.ensures)) c.cell.ensures c.loop-place.invariant
    c.in_ok-push_space.ensures
    (c.in_ok-push_chance.ensures ∙ ap (λ k. added t1 (chance_word k c.cell.result)) c.scale-scale.ensures)
