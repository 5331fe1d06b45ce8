use Rattle.std.proofs.Common.{arith}
use Rattle.dp_search.proofs.Expansions.{of_some}
use Rattle.dp_search.proofs.UnderwayFronts.{fewer_left}
use Rattle.dp_search.proofs.completion.after_choices.Goals as goal

pub loop-alloc-smaller : goal.loop-alloc-smaller
loop-alloc-smaller c =
    let k = c.loop-alloc.reached in
    let next = c.in-Some-2.next in
    fewer_left c.args.model.now.model c.args.game.now c.args.front.now.front.stage k next
    (omega (arith, c.stage.ensures, c.stage-in-loop-alloc.ensures, c.loop-alloc-test.true))
    (of_some _ _ next c.in-Some-2.is c.in_ok-next-2.ensures.fewer)
