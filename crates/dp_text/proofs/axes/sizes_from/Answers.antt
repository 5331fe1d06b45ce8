use Rattle.std.proofs.Common.{[], ◌<◌, length}
use Rattle.dp_meaning.specs.Statements.{axes_of, axis_size}
use Rattle.dp_text.proofs.Saturating.{one_cut, product_at}
use Rattle.dp_text.proofs.axes.sizes_from.Goals as goal

pub loop-place-preserved : goal.loop-place-preserved
loop-place-preserved c =
    let within : c.loop-place.place < length (axes_of c.args.header.now c.args.table) =
    rw (c.axis_count-place-end.ensures.is c.args.header.now) at c.loop-place-test.true in
    rw (c.times-size.ensures, c.axis_size.ensures, c.axis_at.ensures) (one_cut _ _ c.loop-place.invariant
    (product_at axis_size (axes_of c.args.header.now c.args.table) c.loop-place.place [] within))
