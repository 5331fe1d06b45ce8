use Rattle.std.proofs.Common.{arith}
use Rattle.dp_cli.proofs.FirstGreatest.{first_is_next, first_of_all, first_of_one, first_stays}
use Rattle.dp_cli.proofs.NoPlaces.{no_place}
use Rattle.dp_cli.proofs.orders.heaviest.Goals as goal
use Rattle.dp_cli.proofs.orders.heaviest.Goals.{then-outweighs, else-outweighs}

pub loop-number-init : goal.loop-number-init
loop-number-init c = first_of_one (λ p. p.weight) no_place c.args.places.now

pub loop-number-preserved : goal.loop-number-preserved
loop-number-preserved c = elim c.if-outweighs.branch [
  | then-outweighs w ↦ rw w.best-is (first_is_next (λ p. p.weight) no_place c.args.places.now c.loop-number.number
      c.loop-number.best c.loop-number.invariant (c.outweighs.ensures.more w.if-outweighs.true))
  | else-outweighs w ↦ rw w.best-is (first_stays (λ p. p.weight) no_place c.args.places.now c.loop-number.number
      c.loop-number.best c.loop-number.invariant (c.outweighs.ensures.not w.if-outweighs.false))
]

pub returns : goal.returns
returns c = first_of_all (λ p. p.weight) no_place c.args.places.now c.loop-number.number c.loop-number.best
    c.loop-number.invariant c.loop-number-test.false (omega (arith, c.requires, c.loop-number.auto.number-end))
