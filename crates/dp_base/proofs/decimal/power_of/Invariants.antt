use Rattle.std.proofs.Common.{◌≡◌, ◌^◌, ◌<◌, take}
use Rattle.std.specs.Str.Parse.{digits_value}
use Rattle.dp_base.proofs.decimal.power_of.Given as goal

abbrev pub invariant-loop-digit : goal.invariant-loop-digit
invariant-loop-digit l = record {
  is : l.power ≡ digits_value 10 (take l.digit-index l.digits);
  below : l.power
      < 10 ^ l.digit-index;
}
