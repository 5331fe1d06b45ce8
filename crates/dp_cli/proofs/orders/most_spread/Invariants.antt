use Rattle.std.proofs.Common.{pos}
use Rattle.dp_cli.proofs.FirstGreatest.{IsFirstOf}
use Rattle.dp_cli.proofs.NoPlaces.{no_place}
use Rattle.dp_cli.proofs.orders.most_spread.Given as goal

abbrev pub invariant-loop-number : goal.invariant-loop-number
invariant-loop-number l = IsFirstOf (λ p. pos p.spread) no_place l.places l.number l.best
