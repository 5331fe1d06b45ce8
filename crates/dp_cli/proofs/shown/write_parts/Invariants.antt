use Rattle.std.proofs.Common.{◌≡◌, ◌++◌, ◌-◌, ◌^◌, ◌<◌, length, take}
use Rattle.std.specs.Prelude.{replicate}
use Rattle.dp_spec.specs.JointNumbers.{parts_of}
use Rattle.dp_cli.proofs.shown.write_parts.Given as goal

abbrev pub invariant-loop-part : goal.invariant-loop-part
invariant-loop-part l = record {
  written : parts_of (replicate (length l.fn.parts) l.base) l.number
      ≡ take l.part-index l.parts ++ parts_of (replicate (length l.fn.parts - l.part-index) l.base) l.rest;
  below : l.rest < l.step;
  step : l.step ≡ l.base ^ (length l.fn.parts - l.part-index);
}
