use Rattle.std.proofs.Common.{◌≡◌, ◌++◌, map}
use Rattle.std.specs.List.{range_with_len}
use Rattle.dp_spec.specs.Quantities.{action_look_ahead_in}
use Rattle.dp_pomdp.specs.Looking.{weights_of}
use Rattle.dp_pomdp.specs.Memos.{AreKept, look_of}
use Rattle.dp_pomdp.proofs.recursion.push_looks.Given as goal

abbrev pub invariant-loop-action : goal.invariant-loop-action
invariant-loop-action g l = record {
  row : l.row.items ≡ l.fn.row.items ++ map (λ a. action_look_ahead_in (g.A.Arith.operations l.arith)
      l.model.model l.rest (weights_of l.weights) a l.look) (range_with_len 0 l.action);
  kept : AreKept (look_of (g.A.Arith.operations l.arith) l.model.model) l.memo;
}
