use Rattle.std.proofs.Common.{◌≡◌, ◌+◌, ◌++◌, length}
use Rattle.std.specs.Prelude.{replicate}
use Rattle.dp_spec.specs.TextLines.{plain}
use Rattle.dp_lines.specs.Lines.{plain_form}
use Rattle.dp_cert.proofs.ranges.and_alike.Given as goal

abbrev pub invariant-loop-place : goal.invariant-loop-place
invariant-loop-place l = record {
  ranges : plain_form l.ranges.items ≡ plain_form l.fn.first.items
      ++ replicate l._place (plain l.range.low l.range.high);
  count : length l.ranges.items ≡ length l.fn.first.items + l._place;
}
