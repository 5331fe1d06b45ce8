use Rattle.std.proofs.Common.{arith, pos}
use Rattle.std.proofs.lemmas.Int.{ints}
use Rattle.dp_cli.proofs.FirstGreatest.{first_is_next, first_of_all, first_of_one, first_stays}
use Rattle.dp_cli.proofs.NoPlaces.{no_place}
use Rattle.dp_cli.proofs.orders.most_spread.Goals as goal
use Rattle.dp_cli.proofs.orders.most_spread.Goals.{then-places-best, else-places-best}

pub loop-number-init : goal.loop-number-init
loop-number-init c = first_of_one (λ p. pos p.spread) no_place c.args.places.now

pub loop-number-preserved : goal.loop-number-preserved
loop-number-preserved c = elim c.if-places-best.branch [
  | then-places-best w ↦ rw w.best-is (first_is_next (λ p.
      pos p.spread) no_place c.args.places.now c.loop-number.number
      c.loop-number.best c.loop-number.invariant (omega (arith, ints, w.if-places-best.true)))
  | else-places-best w ↦ rw w.best-is (first_stays (λ p. pos p.spread) no_place c.args.places.now c.loop-number.number
      c.loop-number.best c.loop-number.invariant (omega (arith, ints, w.if-places-best.false)))
]

pub returns : goal.returns
returns c = first_of_all (λ p. pos p.spread) no_place c.args.places.now c.loop-number.number c.loop-number.best
    c.loop-number.invariant c.loop-number-test.false (omega (arith, c.requires, c.loop-number.auto.number-end))
