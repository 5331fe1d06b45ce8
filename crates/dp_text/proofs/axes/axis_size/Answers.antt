use Rattle.dp_meaning.specs.NameLists.{size_of}
use Rattle.dp_text.proofs.Saturating.{one_more, product_at}
use Rattle.dp_text.proofs.axes.axis_size.Goals as goal

pub loop-list-preserved : goal.loop-list-preserved
loop-list-preserved c =
    let here = product_at size_of c.args.axis.now c.loop-list.list-index c.list-item.result c.loop-list-test.true in
    rw (c.times-size.ensures, c.from.ensures, c.size.ensures)
    (one_more _ _ c.loop-list.invariant (rw (← c.list-item.is) at here))
