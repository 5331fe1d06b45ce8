use Rattle.std.proofs.Common.{◌≡◌, length}
use Rattle.std.specs.Prelude.{replicate}
use Rattle.dp_cert.proofs.shared_text.all_states.Given as goal

abbrev pub invariant-loop-stage : goal.invariant-loop-stage
invariant-loop-stage l = record {
  cells : l.cells.items ≡ replicate l._stage l.states;
  count : length l.cells.items ≡ l._stage;
}
