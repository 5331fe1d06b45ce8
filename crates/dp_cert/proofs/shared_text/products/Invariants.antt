use Rattle.std.proofs.Common.{◌≡◌, ◌++◌, drop, length}
use Rattle.dp_spec.specs.SharedRows.{products}
use Rattle.dp_cert.proofs.shared_text.products.Given as goal

abbrev pub invariant-loop-stage : goal.invariant-loop-stage
invariant-loop-stage l = record {
  all : l.all.items ++ products (drop l.stage l.cells) (drop l.stage l.counts) ≡ products l.cells l.counts;
  count : length l.all.items ≡ l.stage;
}
