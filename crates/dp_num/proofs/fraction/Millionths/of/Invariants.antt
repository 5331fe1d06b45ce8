use Rattle.std.proofs.Common.{◌≡◌, ◌+◌, ◌*◌, ◌^◌, ◌<◌}
use Rattle.dp_num.proofs.fraction.Millionths.of.Given as goal

abbrev pub invariant-loop-place : goal.invariant-loop-place
invariant-loop-place l = record {
  part : l.part < 10 ^ l.place;
  left : l.rest < l.den;
  is : (l.whole * 10 ^ l.place + l.part) * l.den + l.rest ≡ l.num * 10 ^ l.place;
}
